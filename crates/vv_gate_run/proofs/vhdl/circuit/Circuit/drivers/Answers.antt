use Rattle.std.proofs.Common.{◌≡◌, length}
use Rattle.std.specs.Iterator.Adapters.{zip_first, zip_second}
use Rattle.std.specs.Prelude.{min}
use Rattle.std.specs.Slice.Iter.{iter_rest}
use Rattle.std.proofs.lemmas.Slice.Zip.{zip_end}
use Rattle.vv_gate.specs.View.{assignment_of}
use Rattle.vv_gate_vhdl.specs.Design.{gate_process}
use Rattle.vv_gate_run.specs.Circuit.{ports_in}
use Rattle.vv_gate_run.specs.Vhdl.{part_of}
use Rattle.vv_gate_run.proofs.Lists.{done}
use Rattle.vv_gate_run.proofs.Sources.{drivers_end}
use Rattle.vv_gate_run.proofs.vhdl.circuit.Circuit.drivers.Goals as goal

pub returns : goal.returns
returns c =
    let assignments = c.args.self.now.assignments.now in
    let first : iter_rest (zip_first c.into_iter-assignment-iterator.result) ≡ assignments = cc in
    let second : iter_rest (zip_second c.into_iter-assignment-iterator.result) ≡ c.args.parts.now = cc in
    let n : length c.loop-assignment.yielded ≡ min (length assignments) (length c.args.parts.now) =
    zip_end assignments c.args.parts.now c.loop-assignment.yielded c.into_iter-assignment-iterator.result c.loop-assignment.assignment-iterator c.next.new.self c.next.result first second c.loop-assignment.yielded_by c.in-None.is c.next.ensures.steps in
    done c.loop-assignment.drivers.items _ _ (drivers_end (gate_process (ports_in c.args.self.now)) assignment_of part_of assignments c.args.parts.now (length c.loop-assignment.yielded) c.args.net n) c.loop-assignment.invariant
