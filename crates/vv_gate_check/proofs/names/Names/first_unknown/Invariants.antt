use Rattle.std.proofs.Common.{◌≡◌, None, take, flat_map}
use Rattle.vv_gate.specs.View.{term_of}
use Rattle.vv_gate_check.specs.Places.{first, unknown_term}
use Rattle.vv_gate_check.specs.Names.{inputs_in}
use Rattle.vv_gate_check.proofs.names.Names.first_unknown.Given as goal

abbrev pub invariant-loop-term : goal.invariant-loop-term
invariant-loop-term l = None ≡ first (flat_map (λ t. unknown_term (inputs_in l.self) (term_of t)) (take l.term-index l.terms))
