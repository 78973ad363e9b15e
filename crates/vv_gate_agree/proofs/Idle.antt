-- An output without a source, on both sides.
use Rattle.std.proofs.Common.{◌≡◌, ◌≢◌, ℕ, zero, suc, ◌<◌, false, [], ◌∷◌, slice_index_or, inr, refl, arith}
use Rattle.std.specs.Prelude.{map, All}
use Rattle.std.specs.List.{HoldsAt}
use Rattle.vv_vast.specs.Tree as vast
use Rattle.vv_bits.specs.declared.four.V4.TheVariants.{X, One}
use Rattle.vv_vast.specs.Flat.{IsFlat, IsDistinct}
use Rattle.vv_vast.specs.Words.{reserved}
use Rattle.vv_cycle.specs.Rows.{power_on}
use Rattle.vv_gate_vhdl.specs.Design.{gate_design, IsSoundGate}
use Rattle.vv_gate_verilog.specs.Events.{start_of, after}
use Rattle.vv_gate_text.specs.Made.{module_of}
use Rattle.vv_gate_agree.specs.Meaning.{SettlesIn, EndsQuiet, Begins, PowerOn, Row}
use Rattle.vv_gate_agree.specs.Examples.{idle_gate, idle_flat, first_turns, first_state, first_steps, set_a, row_state, row_turns, end_state, row_bits, row_steps}

apart : (n m : ℕ) → n ≢ m → n ∷ [] ≢ m ∷ []
apart n m h q = h (same q)
  where
    same : n ∷ [] ≡ m ∷ [] → n ≡ m
    same r = cc

distinct : IsDistinct (map (λ p. p.name) idle_flat.objects)
distinct zero zero d l m = absurd (omega arith)
distinct zero (suc zero) d l m = apart 97 121 (λ q. omega arith)
distinct zero (suc (suc zero)) d l m = apart 97 119 (λ q. omega arith)
distinct zero (suc (suc (suc j))) d l m = absurd (omega arith)
distinct (suc zero) zero d l m = absurd (omega arith)
distinct (suc zero) (suc zero) d l m = absurd (omega arith)
distinct (suc zero) (suc (suc zero)) d l m = apart 121 119 (λ q. omega arith)
distinct (suc zero) (suc (suc (suc j))) d l m = absurd (omega arith)
distinct (suc (suc i)) j d l m = absurd (omega arith)

known : All (λ i. i < 3) (1 ∷ 0 ∷ 2 ∷ [])
known zero d l = omega arith
known (suc zero) d l = omega arith
known (suc (suc zero)) d l = omega arith
known (suc (suc (suc k))) d l = absurd (omega arith)

driven : All (λ i. HoldsAt (λ p. p.direction ≡ vast.output) idle_flat.objects (vast.target_of i)) idle_flat.items
driven zero d l = λ p. refl
driven (suc zero) d l = λ p. refl
driven (suc (suc k)) d l = absurd (omega arith)

pub flat : IsFlat (module_of idle_gate) idle_flat
unfolding reserved
flat = record { objects = refl; distinct = distinct; known = known; items = refl; driven = driven }

pub sound : IsSoundGate idle_gate
sound = record { placed = (refl, ((refl, tt), tt)); once = (refl, tt) }

pub settles : SettlesIn idle_gate (power_on (gate_design idle_gate)) first_turns first_state
settles = record { can = (refl, tt); to = refl; settled = (refl, refl) }

pub quiet : EndsQuiet idle_flat (start_of idle_flat) first_steps
quiet = record { can = ((omega arith, refl), ((omega arith, refl), tt)); quiet = (none, refl) }
  where
    none : (i : ℕ) → slice_index_or (after idle_flat (start_of idle_flat) first_steps).active i false ≡ false
    none zero = refl
    none (suc zero) = refl
    none (suc (suc i)) = refl

pub row_settles : SettlesIn idle_gate row_state row_turns end_state
row_settles = record { can = (refl, ((refl, refl), tt)); to = refl; settled = (refl, refl) }

pub row_quiet : EndsQuiet idle_flat row_bits row_steps
row_quiet = record { can = ((omega arith, refl), tt); quiet = (none, refl) }
  where
    none : (i : ℕ) → slice_index_or (after idle_flat row_bits row_steps).active i false ≡ false
    none zero = refl
    none (suc zero) = refl
    none (suc (suc i)) = refl

pub begins : Begins idle_gate idle_flat row_state row_bits
begins = Row _ first_state first_turns _ first_steps set_a PowerOn settles quiet (record { fit = ((refl, (tt, tt)), tt); once = (refl, tt); alone = inr (refl, tt) })

pub bits : (after idle_flat row_bits row_steps).bits ≡ One ∷ One ∷ X ∷ []
bits = refl
