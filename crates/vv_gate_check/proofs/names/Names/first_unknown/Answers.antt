use Rattle.std.proofs.Common.{sym, ◌∙◌, ap}
use Rattle.std.proofs.lemmas.List.Folds.{flat_map-map}
use Rattle.vv_gate.specs.View.{term_of}
use Rattle.vv_gate_check.specs.Places.{first, unknown_term}
use Rattle.vv_gate_check.specs.Names.{inputs_in}
use Rattle.vv_gate_check.proofs.Steps.{first_last, flat_map_all}
use Rattle.vv_gate_check.proofs.names.Names.first_unknown.Goals as goal

pub returns-then-is_some : goal.returns-then-is_some
returns-then-is_some c =
    let f = unknown_term (inputs_in c.args.self.now) in
    first_last (λ t. f (term_of t)) c.args.terms.now c.loop-term.term-index _ c.unknown-place.result c.loop-term-test.true (sym c.is_some.ensures ∙ c.if-is_some.true) c.loop-term.invariant c.unknown-place.ensures
    ∙ ap first (sym (flat_map-map f term_of c.args.terms.now))

pub returns : goal.returns
returns c =
    let f = unknown_term (inputs_in c.args.self.now) in
    c.loop-term.invariant ∙ ap first (flat_map_all (λ t. f (term_of t)) c.args.terms.now c.loop-term.term-index c.loop-term-test.false ∙ sym (flat_map-map f term_of c.args.terms.now))
