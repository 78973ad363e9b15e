-- What is read as a whole: the steps that the machine begins with, and stretches of tokens.
use Rattle.std.specs.Prelude.{◌≡◌, ℕ, ◌+◌, List, ◌++◌, drop, length}
use Rattle.vv_grammar.specs.declared.starts.TheConstants as starts
use Rattle.vv_grammar.specs.declared.step.Step.{Step}
use Rattle.vv_grammar.specs.declared.terminal.Terminal.{Terminal}

pub data Start : Type 0 where
  -- the units of a file, and its end
  file : Start
  expression : Start
  name : Start
  aggregate : Start

abbrev pub steps_for : Start → List Step
steps_for file = starts.FILE
steps_for expression = starts.EXPRESSION
steps_for name = starts.NAME
steps_for aggregate = starts.AGGREGATE

-- the terminals of the tokens from one number up to another
pub record AreBetween (ts : List Terminal) (a b : ℕ) (u : List Terminal) : Type 0 where
  pub split : drop a ts ≡ u ++ drop b ts
  pub size : b ≡ a + length u
