use Rattle.std.proofs.Common.{◌≡◌, map, drop}
use Rattle.vv_cycle.specs.Turns as turns
use Rattle.vv_gate_run.specs.Vhdl.{part_of}
use Rattle.vv_gate_run.proofs.vhdl.any_ready.Given as goal

abbrev pub invariant-loop-part : goal.invariant-loop-part
invariant-loop-part l =
    turns.any_ready (map part_of (drop l.part-index l.parts)) ≡ turns.any_ready (map part_of l.parts)
