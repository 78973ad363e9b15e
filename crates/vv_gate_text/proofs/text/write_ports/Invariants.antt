use Rattle.std.proofs.Common.{◌≡◌, ◌++◌, map, take}
use Rattle.std.specs.List.{flat_map}
use Rattle.std.specs.Prelude.{codes}
use Rattle.vv_gate_text.specs.Layout.{written_port, newline}
use Rattle.vv_gate_text.specs.Made.{made_port}
use Rattle.vv_gate_text.specs.View.{port_of}
use Rattle.vv_gate_text.proofs.text.write_ports.Given as goal

abbrev pub invariant-loop-port : goal.invariant-loop-port
invariant-loop-port l =
    l.out.items ≡ l.initial.out.items ++ flat_map (λ q. codes "," ++ newline ++ written_port q) (map made_port (map port_of (take l.port-index l.rest)))
