use Rattle.std.proofs.Common.{map, take, drop, refl, ◌∙◌}
use Rattle.vv_gate_lex.specs.declared.keywords.TheConstants.{KEYWORDS}
use Rattle.vv_gate_lex.specs.Lexical.{keyword}
use Rattle.vv_gate_lex.proofs.Lengths.{Table, among}
use Rattle.vv_gate_lex.proofs.lexer.words_of.Goals as goal

abbrev table : Table
table = map (λ k. (k.0.now, k.1)) KEYWORDS

pub returns-in-1 : goal.returns-in-1
unfolding keyword
returns-in-1 c = λ text e. among (take 0 table) (take 0 (drop 0 table)) (drop 0 table) text 1 (e ∙ c.in-1.is) refl refl

pub returns-in-2 : goal.returns-in-2
unfolding keyword
returns-in-2 c = λ text e. among (take 0 table) (take 7 (drop 0 table)) (drop 7 table) text 2 (e ∙ c.in-2.is) refl refl

pub returns-in-3 : goal.returns-in-3
unfolding keyword
returns-in-3 c = λ text e. among (take 7 table) (take 21 (drop 7 table)) (drop 28 table) text 3 (e ∙ c.in-3.is) refl refl

pub returns-in-4 : goal.returns-in-4
unfolding keyword
returns-in-4 c = λ text e. among (take 28 table) (take 19 (drop 28 table)) (drop 47 table) text 4 (e ∙ c.in-4.is) refl refl

pub returns-in-5 : goal.returns-in-5
unfolding keyword
returns-in-5 c = λ text e. among (take 47 table) (take 13 (drop 47 table)) (drop 60 table) text 5 (e ∙ c.in-5.is) refl refl

pub returns-in-6 : goal.returns-in-6
unfolding keyword
returns-in-6 c = λ text e. among (take 60 table) (take 14 (drop 60 table)) (drop 74 table) text 6 (e ∙ c.in-6.is) refl refl

pub returns-in-7 : goal.returns-in-7
unfolding keyword
returns-in-7 c = λ text e. among (take 74 table) (take 8 (drop 74 table)) (drop 82 table) text 7 (e ∙ c.in-7.is) refl refl

pub returns-in-8 : goal.returns-in-8
unfolding keyword
returns-in-8 c = λ text e. among (take 82 table) (take 7 (drop 82 table)) (drop 89 table) text 8 (e ∙ c.in-8.is) refl refl

pub returns-in-9 : goal.returns-in-9
unfolding keyword
returns-in-9 c = λ text e. among (take 89 table) (take 6 (drop 89 table)) (drop 95 table) text 9 (e ∙ c.in-9.is) refl refl

pub returns-in-10 : goal.returns-in-10
unfolding keyword
returns-in-10 c = λ text e. among (take 95 table) (take 2 (drop 95 table)) (drop 97 table) text 10 (e ∙ c.in-10.is) refl refl

pub returns-in-12 : goal.returns-in-12
unfolding keyword
returns-in-12 c = λ text e. among (take 97 table) (take 1 (drop 97 table)) (drop 98 table) text 12 (e ∙ c.in-12.is) refl refl

pub returns-in-13 : goal.returns-in-13
unfolding keyword
returns-in-13 c = λ text e. among (take 98 table) (take 1 (drop 98 table)) (drop 99 table) text 13 (e ∙ c.in-13.is) refl refl

pub returns-in_default : goal.returns-in_default
unfolding keyword
returns-in_default c = λ text e. refl
