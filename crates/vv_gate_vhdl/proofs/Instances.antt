-- One gate, computed to its end.
use Rattle.std.proofs.Common.{◌≡◌, [], ◌∷◌, inr, refl, ap}
use Rattle.vv_cycle.specs.Turns.{Resume, Update}
use Rattle.vv_cycle.specs.Rows.{LawfulRows, VhdlRun, end_of}
use Rattle.vv_cycle.proofs.Runs.{same_run}
use Rattle.vv_gate_vhdl.specs.Design.{gate_design, IsSoundGate}
use Rattle.vv_gate_vhdl.specs.Examples.{one_gate, one_row, one_end, values_of}

pub gate_sound : IsSoundGate one_gate
gate_sound = record { placed = (refl, ((refl, (refl, tt)), tt)); once = (refl, tt) }

pub row_lawful : LawfulRows (gate_design one_gate) one_row
row_lawful = (record { fit = ((refl, (tt, tt)), ((refl, (tt, tt)), tt)); once = (refl, (refl, tt)); alone = inr (refl, (refl, tt)) }, tt)

-- one of the orders, written out
abbrev pub a_run : VhdlRun (gate_design one_gate) one_row
a_run =
    record {
      first = Resume 0 ∷ [];
      later = (Resume 0 ∷ Update ∷ []) ∷ [];
      can_first = (refl, tt);
      ends_first = (refl, refl);
      can_later = ((refl, ((refl, refl), tt)), ((refl, refl), tt));
    }

-- that order is computed to its end, and every other one ends there too
pub run_ends : (run : VhdlRun (gate_design one_gate) one_row) → values_of (end_of (gate_design one_gate) one_row run) ≡ one_end
run_ends run = ap values_of (same_run (gate_design one_gate) one_row run a_run).0
