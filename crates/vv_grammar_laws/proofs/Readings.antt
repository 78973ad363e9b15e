-- At most one reading from each start.
use Rattle.std.proofs.Common.{◌≡◌, List, [], refl}
use Rattle.vv_grammar.specs.declared.edition.Edition.{Edition}
use Rattle.vv_grammar.specs.declared.event.Event.{Event}
use Rattle.vv_grammar.specs.declared.terminal.Terminal.{Terminal}
use Rattle.vv_grammar_laws.specs.Derivations.{Derives}
use Rattle.vv_grammar_laws.specs.Starts.{Start, file, expression, name, aggregate, steps_for}
use Rattle.vv_grammar_laws.proofs.Followed.{Good, good-append}
use Rattle.vv_grammar_laws.proofs.Plain.{forward, one}

pub good-start : (s : Start) → Good (steps_for s)
good-start file = good-append (steps_for file) [] [] refl (λ c h. h) tt
good-start expression = good-append (steps_for expression) [] [] refl (λ c h. h) tt
good-start name = good-append (steps_for name) [] [] refl (λ c h. h) tt
good-start aggregate = good-append (steps_for aggregate) [] [] refl (λ c h. h) tt

pub at_most_one : (e : Edition) (s : Start) (u : List Terminal) (es fs : List Event) → Derives e (steps_for s) u es → Derives e (steps_for s) u fs → es ≡ fs
at_most_one e s u es fs d f = one e (steps_for s) u es fs (forward e (steps_for s) u es d (good-start s)) (forward e (steps_for s) u fs f (good-start s))
