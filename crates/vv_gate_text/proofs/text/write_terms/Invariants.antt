use Rattle.std.proofs.Common.{◌≡◌, ◌++◌, map, take}
use Rattle.std.proofs.Math.ListN.{replicate}
use Rattle.std.specs.List.{flat_map}
use Rattle.vv_gate.specs.View.{term_of}
use Rattle.vv_gate_text.proofs.Chains.{link}
use Rattle.vv_gate_text.specs.Made.{binary_of}
use Rattle.vv_gate_text.proofs.text.write_terms.Given as goal

abbrev pub invariant-opened : goal.invariant-opened
invariant-opened l = l.out.items ≡ l.initial.out.items ++ replicate l.index 40

abbrev pub invariant-chained : goal.invariant-chained
invariant-chained l =
    l.out.items ≡ l.initial.out.items ++ flat_map (link (binary_of l.operator)) (map term_of (take l.term-index l.rest))
