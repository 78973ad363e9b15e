use Rattle.std.proofs.Common.{map, take, drop, refl, ◌∙◌}
use Rattle.vv_vlex.specs.declared.word.TheConstants.{WORDS}
use Rattle.vv_vlex.specs.Words.{word_of}
use Rattle.vv_vlex.proofs.Lengths.{Table, among}
use Rattle.vv_vlex.proofs.words.words_of.Goals as goal

abbrev table : Table
table = map (λ k. (k.0.now, k.1)) WORDS

pub returns-in-1 : goal.returns-in-1
unfolding word_of
returns-in-1 c = λ text e. among (take 0 table) (take 0 (drop 0 table)) (drop 0 table) text 1 (e ∙ c.in-1.is) refl refl

pub returns-in-2 : goal.returns-in-2
unfolding word_of
returns-in-2 c = λ text e. among (take 0 table) (take 7 (drop 0 table)) (drop 7 table) text 2 (e ∙ c.in-2.is) refl refl

pub returns-in-3 : goal.returns-in-3
unfolding word_of
returns-in-3 c = λ text e. among (take 7 table) (take 21 (drop 7 table)) (drop 28 table) text 3 (e ∙ c.in-3.is) refl refl

pub returns-in-4 : goal.returns-in-4
unfolding word_of
returns-in-4 c = λ text e. among (take 28 table) (take 18 (drop 28 table)) (drop 46 table) text 4 (e ∙ c.in-4.is) refl refl

pub returns-in-5 : goal.returns-in-5
unfolding word_of
returns-in-5 c = λ text e. among (take 46 table) (take 13 (drop 46 table)) (drop 59 table) text 5 (e ∙ c.in-5.is) refl refl

pub returns-in-6 : goal.returns-in-6
unfolding word_of
returns-in-6 c = λ text e. among (take 59 table) (take 14 (drop 59 table)) (drop 73 table) text 6 (e ∙ c.in-6.is) refl refl

pub returns-in-7 : goal.returns-in-7
unfolding word_of
returns-in-7 c = λ text e. among (take 73 table) (take 8 (drop 73 table)) (drop 81 table) text 7 (e ∙ c.in-7.is) refl refl

pub returns-in-8 : goal.returns-in-8
unfolding word_of
returns-in-8 c = λ text e. among (take 81 table) (take 7 (drop 81 table)) (drop 88 table) text 8 (e ∙ c.in-8.is) refl refl

pub returns-in-9 : goal.returns-in-9
unfolding word_of
returns-in-9 c = λ text e. among (take 88 table) (take 5 (drop 88 table)) (drop 93 table) text 9 (e ∙ c.in-9.is) refl refl

pub returns-in-10 : goal.returns-in-10
unfolding word_of
returns-in-10 c = λ text e. among (take 93 table) (take 2 (drop 93 table)) (drop 95 table) text 10 (e ∙ c.in-10.is) refl refl

pub returns-in-11 : goal.returns-in-11
unfolding word_of
returns-in-11 c = λ text e. among (take 0 table) (take 0 (drop 0 table)) (drop 0 table) text 11 (e ∙ c.in-11.is) refl refl

pub returns-in-12 : goal.returns-in-12
unfolding word_of
returns-in-12 c = λ text e. among (take 95 table) (take 1 (drop 95 table)) (drop 96 table) text 12 (e ∙ c.in-12.is) refl refl

pub returns-in-13 : goal.returns-in-13
unfolding word_of
returns-in-13 c = λ text e. among (take 96 table) (take 1 (drop 96 table)) (drop 97 table) text 13 (e ∙ c.in-13.is) refl refl

pub returns-in_default : goal.returns-in_default
unfolding word_of
returns-in_default c = λ text e. refl
