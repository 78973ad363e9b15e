use Rattle.std.proofs.Common.{◌≡◌, map, drop}
use Rattle.vv_gate.specs.View.{term_of}
use Rattle.vv_gate_text.specs.Made.{binary_of}
use Rattle.vv_gate_run.specs.Circuit.{port_of}
use Rattle.vv_gate_run.specs.Numbered.{numbered_chain}
use Rattle.vv_gate_run.specs.Flat.{expr_of}
use Rattle.vv_gate_run.proofs.flat.made_chain.Given as goal

abbrev pub invariant-loop-next : goal.invariant-loop-next
invariant-loop-next l =
    numbered_chain (map port_of l.ports) (binary_of l.operator) (expr_of l.value) (map term_of (drop l.next-index l.rest))
    ≡ numbered_chain (map port_of l.ports) (binary_of l.operator) (expr_of l.initial.value) (map term_of l.rest)
