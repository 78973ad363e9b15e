-- The register with an inverter meets what the laws of whole rows ask for.
use Rattle.std.proofs.Common.{◌≡◌, ℕ, zero, suc, ◌<◌, true, false, List, [], ◌∷◌, length, slice_get, slice_index_or, Some, ⊎_elim, refl, sym, ap, subst, arith, true≢false, eqb-true, suc-ne-zero}
use Rattle.std.proofs.lemmas.Bool.{or_cases}
use Rattle.vv_bits.specs.declared.four.V4.{V4}
use Rattle.vv_bits.specs.Resolution.{resolve4_rule}
use Rattle.vv_events.specs.Items.{has, Drives, Senses, IsAlways, IfItem}
use Rattle.vv_events.specs.Steps.{bit, drivers_of, IsActive}
use Rattle.vv_events.specs.Equations.{at, is_wire, Local, IsUpToDate}
use Rattle.vv_events.specs.Rows.{Wire, Fits}
use Rattle.vv_events.specs.RowEnds.{Written, RowStart, IsPlain, AppendsOnly, updates_by, names, Undriven, targets_of, last_or}
use Rattle.vv_events.specs.Examples.{register, register_start, register_edge, nothing_moves, register_declared}
use Rattle.vv_events.proofs.SmallDesigns.{one_of}
use Rattle.vv_bits.specs.Four.{not4_rule}

pub register_written : Written register register_edge
register_written =
    record {
      appends = appends;
      by_inputs = by_inputs;
      plain = plain;
      level = level;
      moded = moded;
    }
  where
    appends : (i : ℕ) → IfItem (slice_get register i) AppendsOnly
    appends zero = λ x. refl
    appends (suc zero) = tt
    appends (suc (suc i)) = tt

    by_inputs : (i b : ℕ) → register_edge i ≡ true → Senses register i b → Undriven register b
    by_inputs zero b e s zero p = let x : 2 ≡ b = one_of 2 b p in let y : 0 ≡ b = one_of 0 b s in omega arith
    by_inputs zero b e s (suc zero) p = let x : 3 ≡ b = one_of 3 b p in let y : 0 ≡ b = one_of 0 b s in omega arith
    by_inputs zero b e s (suc (suc j)) p = true≢false (sym p)
    by_inputs (suc i) b e s j p = suc-ne-zero i (eqb-true (suc i) 0 e)

    plain : (i : ℕ) → register_edge i ≡ false → IfItem (slice_get register i) IsPlain
    plain zero e = absurd (true≢false e)
    plain (suc zero) e = λ b old new h. h
    plain (suc (suc i)) e = tt

    level : (i : ℕ) → register_edge i ≡ false → (x y : List V4) → ((b : ℕ) → Senses register i b → at x b ≡ at y b) → updates_by (slice_get register i) x ≡ updates_by (slice_get register i) y
    level zero e x y h = absurd (true≢false e)
    level (suc zero) e x y h = refl
    level (suc (suc i)) e x y h = refl

    moded : (i b : ℕ) → register_edge i ≡ false → Drives register i b → (x y : List V4) → ((c : ℕ) → Undriven register c → at x c ≡ at y c) → names (updates_by (slice_get register i) x) b ≡ names (updates_by (slice_get register i) y) b
    moded zero b e p x y h = absurd (true≢false e)
    moded (suc zero) b e p x y h = refl
    moded (suc (suc i)) b e p x y h = refl

pub register_row_start : RowStart register register_edge nothing_moves register_start
register_row_start =
    record {
      holds = record { flags = refl; outs = refl; inside = inside; fresh = fresh; joined = joined };
      none_waits = refl;
      level_kept = level_kept;
      first_move = first_move;
      then_move = λ j b c r m q. m;
      steady = steady;
    }
  where
    inside : (i b : ℕ) → Drives register i b → b < 4
    inside zero b p = let x : 2 ≡ b = one_of 2 b p in omega arith
    inside (suc zero) b p = let x : 3 ≡ b = one_of 3 b p in omega arith
    inside (suc (suc i)) b p = absurd (true≢false (sym p))

    fresh : (i : ℕ) → slice_index_or register_start.active i false ≡ false → IsUpToDate (slice_get register i) register_start i
    fresh zero h = tt
    fresh (suc zero) h = refl
    fresh (suc (suc i)) h = tt

    joined : (b : ℕ) → is_wire register b ≡ true → bit register_start b ≡ resolve4_rule (drivers_of register register_start.drivers b)
    joined b h = subst (λ x. bit register_start x ≡ resolve4_rule (drivers_of register register_start.drivers x)) (wire b h) refl
      where
        wire : (c : ℕ) → is_wire register c ≡ true → 3 ≡ c
        wire c k = ⊎_elim (λ l. one_of 3 c l) (λ r. absurd (true≢false (sym r))) (or_cases (has (3 ∷ []) c) false k)

    level_kept : (i b : ℕ) → register_edge i ≡ false → IsAlways (slice_get register i) → Drives register i b → slice_index_or register_start.active i false ≡ false → bit register_start b ≡ last_or (updates_by (slice_get register i) register_start.bits) b (bit register_start b)
    level_kept zero b e a p h = absurd (true≢false e)
    level_kept (suc zero) b e a p h = absurd a
    level_kept (suc (suc i)) b e a p h = absurd a

    first_move : (j b : ℕ) → IsActive register_start j → targets_of (slice_get register j) b ≡ true → nothing_moves b ≡ true
    first_move zero b on t = t
    first_move (suc zero) b on t = absurd (true≢false (sym on))
    first_move (suc (suc j)) b on t = t

    steady : (i : ℕ) → register_edge i ≡ true → IsActive register_start i → (x : List V4) → ((b : ℕ) → nothing_moves b ≡ false → at x b ≡ bit register_start b) → updates_by (slice_get register i) x ≡ updates_by (slice_get register i) register_start.bits
    steady zero e on x h = ap (λ (v : V4). (2, v) ∷ []) (h 1 refl)
    steady (suc zero) e on x h = refl
    steady (suc (suc i)) e on x h = refl

pub register_local : (k : ℕ) → IfItem (slice_get register k) Local
register_local zero = tt
register_local (suc zero) = λ x y h. ap (λ (v : V4). not4_rule v ∷ []) (h 2 refl)
register_local (suc (suc k)) = tt

pub register_fits : Fits register register_declared
register_fits = record { inside = inside; wires = wires }
  where
    inside : (i b : ℕ) → Drives register i b → b < length register_declared
    inside zero b p = let x : 2 ≡ b = one_of 2 b p in omega arith
    inside (suc zero) b p = let x : 3 ≡ b = one_of 3 b p in omega arith
    inside (suc (suc i)) b p = absurd (true≢false (sym p))

    only : (b : ℕ) → is_wire register b ≡ true → 3 ≡ b
    only b k = ⊎_elim (λ l. one_of 3 b l) (λ r. absurd (true≢false (sym r))) (or_cases (has (3 ∷ []) b) false k)

    wires : (b : ℕ) → is_wire register b ≡ true → slice_get register_declared b ≡ Some Wire
    wires b w = subst (λ x. slice_get register_declared x ≡ Some Wire) (only b w) refl
