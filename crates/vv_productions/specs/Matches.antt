-- What the productions admit: tokens match phrases, and these events happen. No token is looked at ahead, and phrases may match in several ways.
use Rattle.std.specs.Prelude.{◌≡◌, true, List, [], ◌∷◌}
use Rattle.vv_grammar.specs.declared.edition.Edition.{Edition}
use Rattle.vv_grammar.specs.declared.event.Event.{Event}
use Rattle.vv_grammar.specs.declared.event.Event.TheVariants as event
use Rattle.vv_grammar.specs.declared.form.Form.{Form}
use Rattle.vv_grammar.specs.declared.terminal.Terminal.{Terminal}
use Rattle.vv_grammar.specs.declared.terminal.Terminal.TheVariants as the
use Rattle.vv_grammar.specs.Terminals.{same}
use Rattle.vv_grammar_laws.specs.Starts.{Start, file, expression, name, aggregate}
use Rattle.vv_productions.specs.Phrases as the_rule
use Rattle.vv_productions.specs.Phrases.{Production, Phrase, skip, keep, make, rule, ◌▸◌, ◌or◌, option, many, each}
use Rattle.vv_productions.specs.Productions.{definition}

-- Phrases, one behind the other, match the tokens.
pub data Matches (e : Edition) : List Phrase → List Terminal → List Event → Type 0 where
  done : Matches e [] [] []
  skipped : (w t : Terminal) (K : List Phrase) (u : List Terminal) (es : List Event)
      → same w t ≡ true → Matches e K u es → Matches e (skip w ∷ K) (t ∷ u) (event.Skip ∷ es)
  kept : (w t : Terminal) (K : List Phrase) (u : List Terminal) (es : List Event)
      → same w t ≡ true → Matches e K u es → Matches e (keep w ∷ K) (t ∷ u) (event.Keep ∷ es)
  made : (f : Form) (K : List Phrase) (u : List Terminal) (es : List Event)
      → Matches e K u es → Matches e (make f ∷ K) u (event.Make f ∷ es)
  by_rule : (p : Production) (K : List Phrase) (u : List Terminal) (es : List Event)
      → Matches e (definition e p ∷ K) u es → Matches e (rule p ∷ K) u es
  both : (a b : Phrase) (K : List Phrase) (u : List Terminal) (es : List Event)
      → Matches e (a ∷ b ∷ K) u es → Matches e ((a ▸ b) ∷ K) u es
  left : (a b : Phrase) (K : List Phrase) (u : List Terminal) (es : List Event)
      → Matches e (a ∷ K) u es → Matches e ((a or b) ∷ K) u es
  right : (a b : Phrase) (K : List Phrase) (u : List Terminal) (es : List Event)
      → Matches e (b ∷ K) u es → Matches e ((a or b) ∷ K) u es
  left_out : (a : Phrase) (K : List Phrase) (u : List Terminal) (es : List Event)
      → Matches e K u es → Matches e (option a ∷ K) u es
  put_in : (a : Phrase) (K : List Phrase) (u : List Terminal) (es : List Event)
      → Matches e (a ∷ K) u es → Matches e (option a ∷ K) u es
  no_more : (a : Phrase) (K : List Phrase) (u : List Terminal) (es : List Event)
      → Matches e K u es → Matches e (many a ∷ K) u es
  one_more : (a : Phrase) (K : List Phrase) (u : List Terminal) (es : List Event)
      → Matches e (a ∷ many a ∷ K) u es → Matches e (many a ∷ K) u es

-- What is read as a whole.
abbrev pub phrase_for : Start → Phrase
phrase_for file = each (rule the_rule.design_unit) ▸ skip the.End
phrase_for expression = rule the_rule.expression
phrase_for name = rule the_rule.name
phrase_for aggregate = rule the_rule.aggregate
