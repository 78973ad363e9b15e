use Rattle.std.proofs.Common.{◌≡◌, map, take}
use Rattle.vv_gate_text.specs.Made.{made_port}
use Rattle.vv_gate_run.specs.Circuit.{port_of}
use Rattle.vv_gate_run.specs.Flat.{object_of}
use Rattle.vv_gate_run.proofs.flat.objects.Given as goal

abbrev pub invariant-loop-port : goal.invariant-loop-port
invariant-loop-port l =
    map object_of l.objects.items ≡ map made_port (map port_of (take l.port-index l.ports))
