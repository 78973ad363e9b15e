-- The grammar without a machine: the tokens that steps derive, and what happens meanwhile. A place goes on by any alternative that has the next token.
use Rattle.std.specs.Prelude.{◌≡◌, true, List, [], ◌∷◌, ◌++◌, Some}
use Rattle.vv_grammar.specs.declared.edition.Edition.{Edition}
use Rattle.vv_grammar.specs.declared.event.Event.{Event}
use Rattle.vv_grammar.specs.declared.event.Event.TheVariants as event
use Rattle.vv_grammar.specs.declared.form.Form.{Form}
use Rattle.vv_grammar.specs.declared.form.Form.TheVariants as form
use Rattle.vv_grammar.specs.declared.place.Place.{Place}
use Rattle.vv_grammar.specs.declared.step.Step.{Step}
use Rattle.vv_grammar.specs.declared.step.Step.TheVariants as step
use Rattle.vv_grammar.specs.declared.step.Take.{Take}
use Rattle.vv_grammar.specs.declared.step.Take.TheVariants as take
use Rattle.vv_grammar.specs.declared.terminal.Terminal.{Terminal}
use Rattle.vv_grammar.specs.Terminals.{same, contains}
use Rattle.vv_grammar.specs.Table.{Choice, alternatives, otherwise}
use Rattle.vv_machine.specs.Machine.{takes}

-- one of the alternatives
pub data IsAmong : Choice → List Choice → Type 0 where
  first : (c : Choice) (more : List Choice) → IsAmong c (c ∷ more)
  later : (c d : Choice) (more : List Choice) → IsAmong c more → IsAmong c (d ∷ more)

-- the tokens behind a choice at a token
abbrev pub left : Take → Terminal → List Terminal → List Terminal
left take.Keep t u = u
left take.Skip t u = u
left take.Look t u = t ∷ u

-- what happens at a choice
abbrev pub noted : Take → List Event
noted take.Keep = event.Keep ∷ []
noted take.Skip = event.Skip ∷ []
noted take.Look = []

-- The steps derive the tokens, and these events happen.
pub data Derives (e : Edition) : List Step → List Terminal → List Event → Type 0 where
  done : Derives e [] [] []
  make : (f : Form) (K : List Step) (u : List Terminal) (es : List Event)
      → Derives e K u es → Derives e (step.Make f ∷ K) u (event.Make f ∷ es)
  skip : (w t : Terminal) (K : List Step) (u : List Terminal) (es : List Event)
      → same w t ≡ true → Derives e K u es → Derives e (step.Skip w ∷ K) (t ∷ u) (event.Skip ∷ es)
  keep : (w t : Terminal) (K : List Step) (u : List Terminal) (es : List Event)
      → same w t ≡ true → Derives e K u es → Derives e (step.Keep w ∷ K) (t ∷ u) (event.Keep ∷ es)
  -- an alternative of the place
  call : (p : Place) (c : Choice) (t : Terminal) (K : List Step) (u : List Terminal) (es : List Event)
      → IsAmong c (alternatives e p) → contains c.on t ≡ true → Derives e (c.steps ++ K) (left c.take t u) es
      → Derives e (step.Call p ∷ K) (t ∷ u) (noted c.take ++ es)
  -- what the place admits else
  pass : (p : Place) (ss K : List Step) (u : List Terminal) (es : List Event)
      → otherwise p ≡ Some ss → Derives e (ss ++ K) u es → Derives e (step.Call p ∷ K) u es
  -- no more of a list
  stop : (p : Place) (K : List Step) (u : List Terminal) (es : List Event) → Derives e K u es → Derives e (step.Many p ∷ K) u es
  -- one more part of a list, whose first token is taken
  more : (p : Place) (c : Choice) (t : Terminal) (K : List Step) (u : List Terminal) (es : List Event)
      → IsAmong c (alternatives e p) → contains c.on t ≡ true → takes c.take ≡ true
      → Derives e (c.steps ++ (step.Make form.Add ∷ step.Many p ∷ K)) (left c.take t u) es
      → Derives e (step.Many p ∷ K) (t ∷ u) (noted c.take ++ es)

-- The tokens are the start of what the steps derive.
pub record IsViable (e : Edition) (K : List Step) (u : List Terminal) : Type 0 where
  pub more : List Terminal
  pub events : List Event
  pub derives : Derives e K (u ++ more) events
