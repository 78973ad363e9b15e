-- How deep expressions and statements nest in what is derived, and at which token each starts.
use Rattle.std.specs.Prelude.{◌≡◌, ◌⊎◌, ℕ, ◌+◌, List, [], ◌∷◌, ◌++◌}
use Rattle.vv_grammar.specs.declared.edition.Edition.{Edition}
use Rattle.vv_grammar.specs.declared.event.Event.{Event}
use Rattle.vv_grammar.specs.declared.form.Form.TheVariants as form
use Rattle.vv_machine.specs.declared.stack.Pending.{Pending}
use Rattle.vv_grammar.specs.declared.step.Level.{Level}
use Rattle.vv_grammar.specs.declared.step.Level.TheVariants as level
use Rattle.vv_grammar.specs.declared.step.Step.{Step}
use Rattle.vv_grammar.specs.declared.step.Step.TheVariants as step
use Rattle.vv_grammar.specs.declared.step.Take.{Take}
use Rattle.vv_grammar.specs.declared.step.Take.TheVariants as take
use Rattle.vv_grammar.specs.declared.terminal.Terminal.{Terminal}
use Rattle.vv_grammar.specs.Table.{level_of}
use Rattle.vv_machine.specs.Machine.{inside, as_step, begun, steps_in, levels}
use Rattle.vv_grammar_laws.specs.Derivations.{Derives, done, make, skip, keep, call, pass, stop, more}

-- An expression or a statement that starts at the token of this number. Its depth counts those of its kind round it, and itself.
pub record Opening : Type 0 where
  pub at : ℕ
  pub depth : ℕ

-- What starts at a place. In `o` stands how many expressions and statements are round it, counted up to the first that is too deep.
abbrev pub opening : Level → Pending → ℕ → List Opening
opening level.Same o at = []
opening level.Expression o at = record { at = at; depth = o.expressions + 1 } ∷ []
opening level.ExpressionBehind o at = record { at = o.began; depth = o.expressions + 1 } ∷ []
opening level.Statement o at = record { at = at; depth = o.statements + 1 } ∷ []
opening level.StatementBehind o at = record { at = o.began; depth = o.statements + 1 } ∷ []

-- behind a token that was taken a production begins at it
abbrev pub behind_choice : Take → Pending → ℕ → Pending
behind_choice take.Keep o at = begun o at
behind_choice take.Skip o at = begun o at
behind_choice take.Look o at = o

abbrev pub next_at : Take → ℕ → ℕ
next_at take.Keep at = at + 1
next_at take.Skip at = at + 1
next_at take.Look at = at

-- All that starts in what is derived from a token on, in its order. Of each step that is to come it is told what is round it.
abbrev pub openings : (e : Edition) (K : List Step) (u : List Terminal) (es : List Event) → Derives e K u es → List Pending → ℕ → List Opening
openings e _ _ _ done F at = []
openings e _ _ _ (make f K u es d) [] at = []
openings e _ _ _ (make f K u es d) (o ∷ F) at = openings e K u es d F at
openings e _ _ _ (skip w t K u es s d) [] at = []
openings e _ _ _ (skip w t K u es s d) (o ∷ F) at = openings e K u es d F (at + 1)
openings e _ _ _ (keep w t K u es s d) [] at = []
openings e _ _ _ (keep w t K u es s d) (o ∷ F) at = openings e K u es d F (at + 1)
openings e _ _ _ (call p c t K u es a h d) [] at = []
openings e _ _ _ (call p c t K u es a h d) (o ∷ F) at =
    opening (level_of p) o at ++ openings e _ _ es d (steps_in c.steps (behind_choice c.take (inside (level_of p) o) at) ++ F) (next_at c.take at)
openings e _ _ _ (pass p ss K u es x d) [] at = []
openings e _ _ _ (pass p ss K u es x d) (o ∷ F) at = openings e _ u es d (steps_in ss o ++ F) at
openings e _ _ _ (stop p K u es d) [] at = []
openings e _ _ _ (stop p K u es d) (o ∷ F) at = openings e K u es d F at
openings e _ _ _ (more p c t K u es a h k d) [] at = []
openings e _ _ _ (more p c t K u es a h k d) (o ∷ F) at =
    opening (level_of p) o at
    ++ openings e _ _ es d (steps_in c.steps (behind_choice c.take (inside (level_of p) o) at) ++ (as_step o (step.Make form.Add) ∷ (o ∷ F))) (next_at c.take at)

-- the least depth that is too deep
abbrev pub too_deep : ℕ
too_deep = levels + 1

-- something starts at token n that is too deep
abbrev pub IsTooDeepAt : ℕ → List Opening → Type 0
IsTooDeepAt n [] = ⊥
IsTooDeepAt n (o ∷ os) = ((o.at ≡ n) × (o.depth ≡ too_deep)) ⊎ IsTooDeepAt n os
