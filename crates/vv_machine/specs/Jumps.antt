-- Which alternative a place goes on by at a terminal, as numbers in one list.
use Rattle.std.specs.Prelude.{ℕ, zero, suc, ◌+◌, if◌then◌else◌, List, [], ◌∷◌, map, flat_map, Option, None, option_map, slice_get}
use Rattle.vv_grammar.specs.declared.all.TheConstants as all
use Rattle.vv_grammar.specs.declared.edition.Edition.{Edition}
use Rattle.vv_grammar.specs.declared.place.Place.{Place}
use Rattle.vv_grammar.specs.declared.terminal.Terminal.{Terminal}
use Rattle.vv_grammar.specs.declared.terminal.Terminal.TheVariants as the
use Rattle.vv_grammar.specs.Terminals.{contains}
use Rattle.vv_grammar.specs.Table.{Choice, alternatives}
use Rattle.vv_machine.specs.Machine.{Turn, turn}
use denote.Enum.Declared.{tag_of}
use Rattle.vv_vlex.specs.contracts.word.Word as w
use Rattle.vv_vlex.specs.contracts.sign.Sign as s

abbrev pub number_of : Terminal → ℕ
number_of the.Id = 0
number_of the.Int = 1
number_of the.Char = 2
number_of the.Str = 3
number_of the.BitStr = 4
number_of the.End = 5
number_of (the.Mark a) = 6 + tag_of s.the_type a
number_of (the.Key a) = 29 + tag_of w.the_type a

-- one more, but for nothing
abbrev pub later : ℕ → ℕ
later zero = zero
later (suc n) = suc (suc n)

-- the turn by an alternative of this number
abbrev pub turn_of : List Choice → ℕ → Option Turn
turn_of cs zero = None
turn_of cs (suc n) = option_map (λ c. turn c.take c.steps) (slice_get cs n)

-- the number of the first alternative that has the terminal, from 1 on, or 0
abbrev pub turn_number : List Choice → Terminal → ℕ
turn_number [] t = 0
turn_number (c ∷ more) t = if contains c.on t then 1 else later (turn_number more t)

-- the numbers of a place for these terminals
abbrev pub row : Edition → List Terminal → Place → List ℕ
row e ts p = map (turn_number (alternatives e p)) ts

-- the rows of all places, one behind the other
unfoldable pub numbers : Edition → List ℕ
numbers e = flat_map (row e all.TERMINALS) all.PLACES
