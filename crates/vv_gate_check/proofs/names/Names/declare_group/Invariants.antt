use Rattle.std.proofs.Common.{None, take, flat_map, ◌∷◌, []}
use Rattle.vv_gate.specs.View.{ident_of}
use Rattle.vv_gate_check.specs.Places.{port_of}
use Rattle.vv_gate_check.specs.Names.{Declares}
use Rattle.vv_gate_check.proofs.names.Names.declare_group.Given as goal

abbrev pub invariant-loop-ident : goal.invariant-loop-ident
invariant-loop-ident l = Declares (flat_map (λ i. port_of l.fn.group.input (ident_of i) ∷ []) (take l.ident-index l.ident-items)) l.fn.self l.self None
