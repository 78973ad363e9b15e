use Rattle.std.proofs.Common.{◌≡◌, map, drop}
use Rattle.vv_gate.specs.View.{term_of}
use Rattle.vv_gate_vhdl.specs.Design as design
use Rattle.vv_gate_run.specs.Circuit.{port_of}
use Rattle.vv_gate_run.proofs.vhdl.values.chain_value.Given as goal

abbrev pub invariant-loop-term : goal.invariant-loop-term
invariant-loop-term l =
    design.chain_from (map port_of l.ports) l.operator l.value (map term_of (drop l.term-index l.rest)) l.values
    ≡ design.chain_from (map port_of l.ports) l.operator l.initial.value (map term_of l.rest) l.values
