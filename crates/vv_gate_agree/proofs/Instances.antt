-- One gate on both sides.
use Rattle.std.proofs.Common.{◌≡◌, zero, suc, [], ◌∷◌, refl, sym, true≢false}
use Rattle.vv_bits.specs.declared.four.V4.TheVariants.{Zero, One}
use Rattle.vv_vast.specs.Flat.{IsFlat}
use Rattle.vv_vast.specs.Words.{reserved}
use Rattle.vv_gate_vhdl.specs.Examples.{one_gate, one_row, one_end}
use Rattle.vv_gate_verilog.specs.Examples.{and_not_flat, row_end}
use Rattle.vv_gate_verilog.proofs.AndNot.{is_flat}
use Rattle.vv_gate_text.specs.Made.{module_of}
use Rattle.vv_gate_agree.specs.Agreement.{InputsAgree, Agrees}
use Rattle.vv_gate_agree.specs.Runs.{rows4}

pub gate_flat : IsFlat (module_of one_gate) and_not_flat
unfolding reserved
gate_flat = record { objects = refl; distinct = is_flat.distinct; known = is_flat.known; items = refl; driven = is_flat.driven }

pub gate_row : rows4 one_gate one_row ≡ ((0, One) ∷ (1, Zero) ∷ []) ∷ []
gate_row = refl

pub inputs : InputsAgree one_gate one_end row_end.bits
inputs zero h = refl
inputs (suc zero) h = refl
inputs (suc (suc zero)) h = refl
inputs (suc (suc (suc k))) h = absurd (true≢false (sym h))

pub outputs : Agrees one_gate one_end row_end.bits
outputs zero h = refl
outputs (suc zero) h = refl
outputs (suc (suc zero)) h = refl
outputs (suc (suc (suc k))) h = absurd (true≢false (sym h))
