use Rattle.vv_gate.specs.View.{assignment_of}
use Rattle.vv_gate_vhdl.specs.Design.{gate_process}
use Rattle.vv_gate_run.specs.Circuit.{ports_in}
use Rattle.vv_gate_run.proofs.Lists.{some_twice, none_twice}
use Rattle.vv_gate_run.proofs.vhdl.circuit.Circuit.is_woken.Goals as goal

pub returns-in-Some : goal.returns-in-Some
returns-in-Some c =
    let h = c.in-Some.ensures.lookup in
    let there = some_twice (gate_process (ports_in c.args.self.now)) assignment_of c.args.self.now.assignments.now c.args.process c.in-Some.assignment.now h.3.0 h.1 in
    rw there cc

pub returns-in-None : goal.returns-in-None
returns-in-None c =
    let none = none_twice (gate_process (ports_in c.args.self.now)) assignment_of c.args.self.now.assignments.now c.args.process c.in-None.ensures.lookup.3 in
    rw none
