use Rattle.std.proofs.Common.{◌≡◌, ◌++◌, map, take}
use Rattle.vv_gate.specs.View.{ident_of}
use Rattle.vv_gate_run.specs.Circuit.{port_of}
use Rattle.vv_gate_run.proofs.ports.push_group.Given as goal

abbrev pub invariant-loop-ident : goal.invariant-loop-ident
invariant-loop-ident l =
    map port_of l.all.items ≡ map port_of l.initial.all.items ++ map (λ i. record { ident = i; input = l.group.input }) (map ident_of (take l.ident-index l.group.idents.items))
