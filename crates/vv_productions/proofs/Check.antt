-- What the check of a place says: its ways and the ways in which the table goes on there are the same, once phrases are opened as far as the next token.
use Rattle.std.proofs.Common.{ℕ, zero, suc, ◌+◌, Bool, true, false, ◌&&◌, ◌||◌, not, nat_le, List, [], ◌∷◌, ◌++◌, Option, Some, None}
use Rattle.vv_grammar.specs.declared.edition.Edition.{Edition}
use Rattle.vv_grammar.specs.declared.place.Place.{Place}
use Rattle.vv_grammar.specs.declared.place.Place.TheVariants as place
use Rattle.vv_grammar.specs.declared.step.Step.{Step}
use Rattle.vv_grammar.specs.declared.step.Step.TheVariants as step
use Rattle.vv_grammar.specs.declared.step.Take.{Take}
use Rattle.vv_grammar.specs.declared.step.Take.TheVariants as take
use Rattle.vv_grammar.specs.declared.terminal.Terminal.{Terminal}
use Rattle.vv_grammar.specs.declared.step.Level.{Level}
use Rattle.vv_grammar.specs.declared.step.Level.TheVariants as level
use Rattle.vv_grammar.specs.Table.{Choice, alternatives, otherwise, level_of}
use Rattle.vv_grammar.specs.Terminals.{contains}
use Rattle.vv_grammar_laws.proofs.Codes.{codes, within}
use Rattle.vv_grammar_laws.proofs.Check.{firsts}
use Rattle.vv_grammar_laws.proofs.Sets.{follow}
use Rattle.vv_productions.specs.Depths.{an_expression, a_statement}
use Rattle.vv_productions.proofs.Items.{skip, keep, close, Way, eq_all}
use Rattle.vv_productions.proofs.Among.{member, some, every, some_choice, every_choice, every_terminal}
use Rattle.vv_productions.proofs.Traces.{expand, is_open}
use Rattle.vv_productions.proofs.Nested.{began_behind}
use Rattle.vv_productions.proofs.Meanings.{ways}
use Rattle.vv_productions.proofs.Steps.{listed, known}

-- how often phrases are opened at most
abbrev pub depth : ℕ
depth = 60

-- a way becomes this one as its first phrases are opened
abbrev pub reaches : Edition → ℕ → Way → Way → Bool
reaches e zero x m = eq_all m x
reaches e (suc n) x m = let r = some (λ g. reaches e n x g) (expand e 0 m) in eq_all m x || r

-- the end of what starts at a place: here, or where the production round it began
abbrev pub level_close : Level → Way
level_close level.Same = []
level_close level.Expression = close an_expression 0 ∷ []
level_close level.ExpressionBehind = close an_expression 1 ∷ []
level_close level.Statement = close a_statement 0 ∷ []
level_close level.StatementBehind = close a_statement 1 ∷ []

abbrev pub all_ended : Way → List Way → List Way
all_ended y [] = []
all_ended y (x ∷ xs) = (x ++ y) ∷ all_ended y xs

-- what an alternative of a place stands for
abbrev pub turned_ways : Edition → Place → Choice → List Way
turned_ways e p c = all_ended (level_close (level_of p)) (listed e (began_behind c.take 0 1) c.steps)

abbrev pub taken : Take → Terminal → Way → Way
taken take.Keep w x = keep w ∷ x
taken take.Skip w x = skip w ∷ x
taken take.Look w x = x

abbrev pub is_reached : Edition → Place → Way → Bool
is_reached e p x = some (λ m. reaches e depth x m) (ways e 1 p)

abbrev pub choice_reached : Edition → Place → Choice → Bool
choice_reached e p c = every (λ x. every_terminal (λ w. is_reached e p (taken c.take w x)) c.on) (turned_ways e p c)

abbrev pub else_reached : Edition → Place → Option (List Step) → Bool
else_reached e p None = true
else_reached e p (Some ss) = every (λ x. is_reached e p x) (listed e 1 ss)

abbrev pub else_known : Option (List Step) → Bool
else_known None = true
else_known (Some ss) = known ss

-- what the table admits at a place is a way of it
abbrev pub is_admitted : Edition → Place → Bool
is_admitted e p =
    every_choice (λ c. known c.steps && choice_reached e p c) (alternatives e p)
    && (else_known (otherwise p) && else_reached e p (otherwise p))

abbrev pub is_keep : Take → Bool
is_keep take.Keep = true
is_keep _ = false

abbrev pub is_skip : Take → Bool
is_skip take.Skip = true
is_skip _ = false

abbrev pub is_look : Take → Bool
is_look take.Look = true
is_look _ = false

-- what the table admits else
abbrev pub passes : Edition → Option (List Step) → Way → Bool
passes e None f = false
passes e (Some ss) f = member f (listed e 1 ss)

-- an alternative takes the first token, or the token can't stand here
abbrev pub takes_it : Edition → Place → List Choice → List Terminal → Way → Bool
takes_it e p cs without (skip w ∷ x) = let r = some_choice (λ c. let m = member x (turned_ways e p c) in (is_skip c.take && contains c.on w) && m) cs in contains without w || r
takes_it e p cs without (keep w ∷ x) = let r = some_choice (λ c. let m = member x (turned_ways e p c) in (is_keep c.take && contains c.on w) && m) cs in contains without w || r
takes_it e p cs without _ = false

-- an alternative that takes without token has all that can come first
abbrev pub looks_at_all : Edition → Place → List Choice → Way → Bool
looks_at_all e p cs f = some_choice (λ c. let m = member f (turned_ways e p c) in let w = within (firsts c.steps (follow p)) (codes c.on) && m in is_look c.take && w) cs

-- each way goes on as the table does: what is opened further doesn't start with these tokens
abbrev pub covers : Edition → Place → ℕ → List Terminal → Way → Bool
covers e p zero without f = false
covers e p (suc n) without f =
    let more = every (λ g. covers e p n without g) (expand e 0 f) in
    let split = some_choice (λ c. let r = every (λ g. covers e p n (c.on ++ without) g) (expand e 0 f) in let m = member f (turned_ways e p c) && r in is_look c.take && m) (alternatives e p) in
    let either = split || more in
    let opened = is_open f && either in
    let all = looks_at_all e p (alternatives e p) f || opened in
    let token = takes_it e p (alternatives e p) without f || all in
    passes e (otherwise p) f || token

-- How many steps that take without token and make nothing can follow on one another at a place.
abbrev pub rank : Place → ℕ
rank place.Expression = 12
rank place.ExpressionBehindMark = 1
rank place.Relation = 10
rank place.ShiftExpression = 8
rank place.SimpleExpression = 6
rank place.Term = 4
rank place.Factor = 2
rank place.Argument = 15
rank place.ArgumentBehindIdent = 2
rank place.Parenthesis = 14
rank place.AggregateElements = 14
rank place.Element = 14
rank place.Choice = 15
rank place.Range = 14
rank place.DiscreteRange = 15
rank place.DiscreteRangeBehindMark = 3
rank place.Choices = 16
rank place.SubtypeIndication = 2
rank place.FunctionEnd = 1
rank place.ArrayIndex = 15
rank place.ArrayIndexBehindMark = 3
rank place.ArrayIndexBehindRange = 15
rank place.FunctionRest = 2
rank place.ConcurrentBehindMark = 1
rank place.Association = 13
rank place.AssociationBehindIdent = 1
rank place.ActualPart = 13
rank place.ProcessRest = 2
rank place.SelectRest = 13
rank place.AssertionRest = 15
rank place.InstanceRest = 2
rank place.IfRest = 13
rank place.CaseRest = 13
rank place.ExitRest = 2
rank place.UseRest = 1
rank _ = 0

abbrev pub lead : List Step → ℕ
lead (step.Call p ∷ K) = suc (rank p + lead K)
lead _ = zero

abbrev pub choice_leads : Place → Choice → Bool
choice_leads p c = not (is_look c.take) || nat_le (lead c.steps) (rank p)

abbrev pub else_leads : Place → Option (List Step) → Bool
else_leads p None = true
else_leads p (Some ss) = nat_le (lead ss) (rank p)

-- each way of a place is admitted by the table
abbrev pub is_covered : Edition → Place → Bool
is_covered e p =
    (every_choice (λ c. choice_leads p c) (alternatives e p) && else_leads p (otherwise p))
    && every (λ m. covers e p depth [] m) (ways e 1 p)
