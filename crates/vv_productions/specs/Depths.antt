-- How deep expressions and statements nest in what matches, and at which token each starts, told by the productions alone.
use Rattle.std.specs.Prelude.{◌≡◌, ◌⊎◌, ℕ, ◌+◌, List, [], ◌∷◌, ◌++◌, Option, Some, None}
use Rattle.vv_grammar.specs.declared.edition.Edition.{Edition}
use Rattle.vv_grammar.specs.declared.event.Event.{Event}
use Rattle.vv_grammar.specs.declared.terminal.Terminal.{Terminal}
use Rattle.vv_productions.specs.Phrases.{Production, Phrase, function_body, concurrent_statement, statement, expression, many}
use Rattle.vv_productions.specs.Productions.{definition}
use Rattle.vv_productions.specs.Matches.{Matches, done, skipped, kept, made, by_rule, both, left, right, left_out, put_in, no_more, one_more}

-- Expressions are counted, and apart from them statements: concurrent ones, sequential ones, and bodies of functions.
pub data Kind : Type 0 where
  an_expression : Kind
  a_statement : Kind

abbrev pub counted : Production → Option Kind
counted expression = Some an_expression
counted statement = Some a_statement
counted concurrent_statement = Some a_statement
counted function_body = Some a_statement
counted _ = None

-- An expression or a statement that starts at the token of this number. Its depth counts those of its kind round it, and itself.
pub record Opening : Type 0 where
  pub at : ℕ
  pub depth : ℕ

-- how many expressions and statements are round something
pub record Around : Type 0 where
  pub expressions : ℕ
  pub statements : ℕ

-- what starts at this token
abbrev pub starts : Option Kind → Around → ℕ → List Opening
starts None o at = []
starts (Some an_expression) o at = record { at = at; depth = o.expressions + 1 } ∷ []
starts (Some a_statement) o at = record { at = at; depth = o.statements + 1 } ∷ []

-- what is round all that is inside
abbrev pub inside : Option Kind → Around → Around
inside None o = o
inside (Some an_expression) o = record { expressions = o.expressions + 1; statements = o.statements }
inside (Some a_statement) o = record { expressions = o.expressions; statements = o.statements + 1 }

-- All that starts in what matches from a token on, in its order. Of each phrase it is told what is round it.
abbrev pub openings : (e : Edition) (K : List Phrase) (u : List Terminal) (es : List Event) → Matches e K u es → List Around → ℕ → List Opening
openings e _ _ _ done F at = []
openings e _ _ _ (skipped w t K u es s m) [] at = []
openings e _ _ _ (skipped w t K u es s m) (o ∷ F) at = openings e K u es m F (at + 1)
openings e _ _ _ (kept w t K u es s m) [] at = []
openings e _ _ _ (kept w t K u es s m) (o ∷ F) at = openings e K u es m F (at + 1)
openings e _ _ _ (made f K u es m) [] at = []
openings e _ _ _ (made f K u es m) (o ∷ F) at = openings e K u es m F at
openings e _ _ _ (by_rule p K u es m) [] at = []
openings e _ _ _ (by_rule p K u es m) (o ∷ F) at = starts (counted p) o at ++ openings e (definition e p ∷ K) u es m (inside (counted p) o ∷ F) at
openings e _ _ _ (both a b K u es m) [] at = []
openings e _ _ _ (both a b K u es m) (o ∷ F) at = openings e (a ∷ b ∷ K) u es m (o ∷ o ∷ F) at
openings e _ _ _ (left a b K u es m) F at = openings e (a ∷ K) u es m F at
openings e _ _ _ (right a b K u es m) F at = openings e (b ∷ K) u es m F at
openings e _ _ _ (left_out a K u es m) [] at = []
openings e _ _ _ (left_out a K u es m) (o ∷ F) at = openings e K u es m F at
openings e _ _ _ (put_in a K u es m) F at = openings e (a ∷ K) u es m F at
openings e _ _ _ (no_more a K u es m) [] at = []
openings e _ _ _ (no_more a K u es m) (o ∷ F) at = openings e K u es m F at
openings e _ _ _ (one_more a K u es m) [] at = []
openings e _ _ _ (one_more a K u es m) (o ∷ F) at = openings e (a ∷ many a ∷ K) u es m (o ∷ o ∷ F) at

-- a phrase with nothing round it
abbrev pub nothing_round : List Around
nothing_round = record { expressions = 0; statements = 0 } ∷ []

-- how deep expressions and statements may nest
abbrev pub levels : ℕ
levels = 128

-- something starts at token n that is one level too deep
abbrev pub IsTooDeepAt : ℕ → List Opening → Type 0
IsTooDeepAt n [] = ⊥
IsTooDeepAt n (o ∷ os) = ((o.at ≡ n) × (o.depth ≡ levels + 1)) ⊎ IsTooDeepAt n os
