-- The worked design.
use Rattle.std.proofs.Common.{◌≡◌, ◌≢◌, ℕ, zero, suc, ◌<◌, false, [], ◌∷◌, slice_index_or, refl, arith}
use Rattle.std.specs.Prelude.{map, All}
use Rattle.std.specs.List.{HoldsAt}
use Rattle.vv_vast.specs.Tree as vast
use Rattle.vv_vast.specs.Flat.{IsFlat, IsAcyclic, IsDistinct}
use Rattle.vv_bits.specs.declared.four.V4.TheVariants.{Zero, One, X}
use Rattle.vv_events.specs.Steps.{CanRun, Quiet}
use Rattle.vv_gate_verilog.specs.Events.{events_of, start_of}
use Rattle.vv_gate_verilog.specs.Examples.{ports, and_not, and_not_flat, one_step, after_power_on, row_begin, row_end}

apart : (n m : ℕ) → n ≢ m → n ∷ [] ≢ m ∷ []
apart n m h q = h (same q)
  where
    same : n ∷ [] ≡ m ∷ [] → n ≡ m
    same r = cc

distinct : IsDistinct (map (λ p. p.name) ports)
distinct zero zero d l m = absurd (omega arith)
distinct zero (suc zero) d l m = apart 97 98 (λ q. omega arith)
distinct zero (suc (suc zero)) d l m = apart 97 121 (λ q. omega arith)
distinct zero (suc (suc (suc j))) d l m = absurd (omega arith)
distinct (suc zero) zero d l m = absurd (omega arith)
distinct (suc zero) (suc zero) d l m = absurd (omega arith)
distinct (suc zero) (suc (suc zero)) d l m = apart 98 121 (λ q. omega arith)
distinct (suc zero) (suc (suc (suc j))) d l m = absurd (omega arith)
distinct (suc (suc i)) j d l m = absurd (omega arith)

known : All (λ i. i < 3) (2 ∷ 0 ∷ 1 ∷ [])
known zero d l = omega arith
known (suc zero) d l = omega arith
known (suc (suc zero)) d l = omega arith
known (suc (suc (suc k))) d l = absurd (omega arith)

driven : All (λ i. HoldsAt (λ p. p.direction ≡ vast.output) ports (vast.target_of i)) and_not_flat.items
driven zero d l = λ p. refl
driven (suc k) d l = absurd (omega arith)

pub is_flat : IsFlat and_not and_not_flat
is_flat = record { objects = refl; distinct = distinct; known = known; items = refl; driven = driven }

falls : All (λ i. All (λ n. n < vast.target_of i) (vast.reads_of i)) and_not_flat.items
falls zero d l zero e m = omega arith
falls zero d l (suc zero) e m = omega arith
falls zero d l (suc (suc k)) e m = absurd (omega arith)
falls (suc k) d l j e m = absurd (omega arith)

pub is_acyclic : IsAcyclic and_not_flat
is_acyclic = record { rank = λ n. n; falls = falls }

pub can_run : CanRun (events_of and_not_flat) (start_of and_not_flat) one_step
can_run = ((omega arith, refl), tt)

pub quiet : Quiet after_power_on
quiet = (none, refl)
  where
    none : (i : ℕ) → slice_index_or after_power_on.active i false ≡ false
    none zero = refl
    none (suc i) = refl

pub bits : after_power_on.bits ≡ X ∷ X ∷ X ∷ []
bits = refl

pub row_can_run : CanRun (events_of and_not_flat) row_begin one_step
row_can_run = ((omega arith, refl), tt)

pub row_quiet : Quiet row_end
row_quiet = (none, refl)
  where
    none : (i : ℕ) → slice_index_or row_end.active i false ≡ false
    none zero = refl
    none (suc i) = refl

pub row_bits : row_end.bits ≡ One ∷ Zero ∷ One ∷ []
row_bits = refl
