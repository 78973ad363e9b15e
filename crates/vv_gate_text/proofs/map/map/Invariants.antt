use Rattle.std.proofs.Common.{◌≡◌, map, take}
use Rattle.std.specs.List.{flat_map}
use Rattle.vv_gate_text.specs.Map.{line_of, written_line}
use Rattle.vv_gate_text.specs.View.{port_of}
use Rattle.vv_gate_text.proofs.map.map.Given as goal

abbrev pub invariant-loop-port : goal.invariant-loop-port
invariant-loop-port l = l.out.items ≡ flat_map written_line (map line_of (map port_of (take l.port-index l.port-items)))
