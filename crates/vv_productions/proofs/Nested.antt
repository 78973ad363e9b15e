-- Derivations of the table over steps with the ends of what is counted: where a place is marked, an end is put behind the steps of its alternative.
use Rattle.std.proofs.Common.{◌≡◌, ℕ, ◌+◌, Bool, true, false, ◌||◌, List, [], ◌∷◌, ◌++◌, length, Some, refl, ap, ◌∙◌, subst}
use Rattle.vv_grammar.specs.declared.edition.Edition.{Edition}
use Rattle.vv_grammar.specs.declared.event.Event.{Event}
use Rattle.vv_grammar.specs.declared.event.Event.TheVariants as event
use Rattle.vv_grammar.specs.declared.form.Form.{Form}
use Rattle.vv_grammar.specs.declared.form.Form.TheVariants as form
use Rattle.vv_grammar.specs.declared.place.Place.{Place}
use Rattle.vv_grammar.specs.declared.step.Level.{Level}
use Rattle.vv_grammar.specs.declared.step.Level.TheVariants as level
use Rattle.vv_grammar.specs.declared.step.Step.{Step}
use Rattle.vv_grammar.specs.declared.step.Step.TheVariants as step
use Rattle.vv_grammar.specs.declared.step.Take.{Take}
use Rattle.vv_grammar.specs.declared.step.Take.TheVariants as take
use Rattle.vv_grammar.specs.declared.terminal.Terminal.{Terminal}
use Rattle.vv_grammar.specs.Terminals.{same, contains}
use Rattle.vv_grammar.specs.Table.{Choice, alternatives, otherwise, level_of}
use Rattle.vv_machine.specs.Machine.{takes}
use Rattle.vv_grammar_laws.specs.Derivations.{IsAmong, left, noted, Derives, done, make, skip, keep, call, pass, stop, more}
use Rattle.vv_productions.specs.Depths.{Kind, an_expression, a_statement}
use Rattle.vv_productions.proofs.Items.{more_if, same_kind}
use Rattle.vv_productions.proofs.Late.{late_step}
use Rattle.vv_productions.proofs.Traces.{End, ended}

-- A step, with how many tokens were left where the production round it began; or an end, with how many were left where it began.
pub data Nest : Type 0 where
  at : Step → ℕ → Nest
  end : Kind → ℕ → Nest

abbrev pub bare : List Nest → List Step
bare [] = []
bare (at s b ∷ J) = s ∷ bare J
bare (end k s ∷ J) = bare J

-- how many of a kind are round what stands in front of these
abbrev pub rounds : Kind → List Nest → ℕ
rounds k [] = 0
rounds k (at s b ∷ J) = rounds k J
rounds k (end j s ∷ J) = more_if (same_kind k j) (rounds k J)

-- something of the kind may end among these that began before
abbrev pub has_late : Kind → List Nest → Bool
has_late k [] = false
has_late k (at s b ∷ J) = late_step k s || has_late k J
has_late k (end j s ∷ J) = has_late k J

-- steps in front
abbrev pub pushed : List Step → ℕ → List Nest → List Nest
pushed [] b J = J
pushed (s ∷ ss) b J = at s b ∷ pushed ss b J

-- the end of what starts at a place
abbrev pub level_end : Level → ℕ → ℕ → List Nest → List Nest
level_end level.Same h b J = J
level_end level.Expression h b J = end an_expression h ∷ J
level_end level.ExpressionBehind h b J = end an_expression b ∷ J
level_end level.Statement h b J = end a_statement h ∷ J
level_end level.StatementBehind h b J = end a_statement b ∷ J

-- where the steps behind a choice began
abbrev pub began_behind : Take → ℕ → ℕ → ℕ
began_behind take.Keep h b = h
began_behind take.Skip h b = h
began_behind take.Look h b = b

abbrev pub entered : Place → Choice → ℕ → ℕ → List Nest → List Nest
entered p c h b J = pushed c.steps (began_behind c.take h b) (level_end (level_of p) h b J)

pub data Nested (e : Edition) : List Nest → List Terminal → List Event → List End → Type 0 where
  n_done : Nested e [] [] [] []
  n_end : (k : Kind) (s : ℕ) (J : List Nest) (u : List Terminal) (es : List Event) (os : List End)
      → has_late k J ≡ false → Nested e J u es os → Nested e (end k s ∷ J) u es (ended s (rounds k J + 1) ∷ os)
  n_make : (f : Form) (b : ℕ) (J : List Nest) (u : List Terminal) (es : List Event) (os : List End)
      → Nested e J u es os → Nested e (at (step.Make f) b ∷ J) u (event.Make f ∷ es) os
  n_skip : (w t : Terminal) (b : ℕ) (J : List Nest) (u : List Terminal) (es : List Event) (os : List End)
      → same w t ≡ true → Nested e J u es os → Nested e (at (step.Skip w) b ∷ J) (t ∷ u) (event.Skip ∷ es) os
  n_keep : (w t : Terminal) (b : ℕ) (J : List Nest) (u : List Terminal) (es : List Event) (os : List End)
      → same w t ≡ true → Nested e J u es os → Nested e (at (step.Keep w) b ∷ J) (t ∷ u) (event.Keep ∷ es) os
  n_call : (p : Place) (c : Choice) (t : Terminal) (b : ℕ) (J : List Nest) (u : List Terminal) (es : List Event) (os : List End)
      → IsAmong c (alternatives e p) → contains c.on t ≡ true → Nested e (entered p c (length (t ∷ u)) b J) (left c.take t u) es os
      → Nested e (at (step.Call p) b ∷ J) (t ∷ u) (noted c.take ++ es) os
  n_pass : (p : Place) (ss : List Step) (b : ℕ) (J : List Nest) (u : List Terminal) (es : List Event) (os : List End)
      → otherwise p ≡ Some ss → Nested e (pushed ss b J) u es os → Nested e (at (step.Call p) b ∷ J) u es os
  n_stop : (p : Place) (b : ℕ) (J : List Nest) (u : List Terminal) (es : List Event) (os : List End) → Nested e J u es os → Nested e (at (step.Many p) b ∷ J) u es os
  n_more : (p : Place) (c : Choice) (t : Terminal) (b : ℕ) (J : List Nest) (u : List Terminal) (es : List Event) (os : List End)
      → IsAmong c (alternatives e p) → contains c.on t ≡ true → takes c.take ≡ true
      → Nested e (entered p c (length (t ∷ u)) b (at (step.Make form.Add) b ∷ (at (step.Many p) b ∷ J))) (left c.take t u) es os
      → Nested e (at (step.Many p) b ∷ J) (t ∷ u) (noted c.take ++ es) os

pub bare-pushed : (ss : List Step) (b : ℕ) (J : List Nest) → bare (pushed ss b J) ≡ ss ++ bare J
bare-pushed [] b J = refl
bare-pushed (s ∷ ss) b J = ap (λ (z : List Step). s ∷ z) (bare-pushed ss b J)

pub bare-level : (l : Level) (h b : ℕ) (J : List Nest) → bare (level_end l h b J) ≡ bare J
bare-level level.Same h b J = refl
bare-level level.Expression h b J = refl
bare-level level.ExpressionBehind h b J = refl
bare-level level.Statement h b J = refl
bare-level level.StatementBehind h b J = refl

pub bare-entered : (p : Place) (c : Choice) (h b : ℕ) (J : List Nest) → bare (entered p c h b J) ≡ c.steps ++ bare J
bare-entered p c h b J =
    bare-pushed c.steps (began_behind c.take h b) (level_end (level_of p) h b J) ∙ ap (λ (z : List Step). c.steps ++ z) (bare-level (level_of p) h b J)

-- it is a derivation
pub derives-of : (e : Edition) (J : List Nest) (u : List Terminal) (es : List Event) (os : List End) → Nested e J u es os → Derives e (bare J) u es
derives-of e _ _ _ _ n_done = done
derives-of e _ _ _ _ (n_end k s J u es os x d) = derives-of e J u es os d
derives-of e _ _ _ _ (n_make f b J u es os d) = make f (bare J) u es (derives-of e J u es os d)
derives-of e _ _ _ _ (n_skip w t b J u es os s d) = skip w t (bare J) u es s (derives-of e J u es os d)
derives-of e _ _ _ _ (n_keep w t b J u es os s d) = keep w t (bare J) u es s (derives-of e J u es os d)
derives-of e _ _ _ _ (n_call p c t b J u es os a h d) =
    let K = entered p c (length (t ∷ u)) b J in
    call p c t (bare J) u es a h (subst (λ (z : List Step). Derives e z (left c.take t u) es) (bare-entered p c (length (t ∷ u)) b J) (derives-of e K (left c.take t u) es os d))
derives-of e _ _ _ _ (n_pass p ss b J u es os o d) =
    pass p ss (bare J) u es o (subst (λ (z : List Step). Derives e z u es) (bare-pushed ss b J) (derives-of e (pushed ss b J) u es os d))
derives-of e _ _ _ _ (n_stop p b J u es os d) = stop p (bare J) u es (derives-of e J u es os d)
derives-of e _ _ _ _ (n_more p c t b J u es os a h k d) =
    let M = at (step.Make form.Add) b ∷ (at (step.Many p) b ∷ J) in
    more p c t (bare J) u es a h k
    (subst (λ (z : List Step). Derives e z (left c.take t u) es) (bare-entered p c (length (t ∷ u)) b M) (derives-of e (entered p c (length (t ∷ u)) b M) (left c.take t u) es os d))
