-- The reserved words by their texts (IEEE 1076-1993, clause 13.9).
use Rattle.std.specs.Prelude.{ℕ, Bool, List, [], ◌∷◌, map, if◌then◌else◌, Option, Some, None}
use Rattle.std.specs.Str.{str_eq_ignore_ascii_case}
use Rattle.vv_vlex.specs.declared.word.Word.{Word}
use Rattle.vv_vlex.specs.declared.word.TheConstants.{WORDS}
use Rattle.vv_vlex.specs.Elements.{Element, id, word, folded}

-- the text is the word in some letter case
unfoldable pub is_spelled : List ℕ → List ℕ → Bool
is_spelled spelling text = str_eq_ignore_ascii_case spelling text

abbrev pub lookup : List (List ℕ × Word) → List ℕ → Option Word
lookup [] text = None
lookup (k ∷ more) text = if is_spelled k.0 text then Some k.1 else lookup more text

-- the reserved word that has this text in some letter case
unfoldable pub word_of : List ℕ → Option Word
word_of = lookup (map (λ k. (k.0.now, k.1)) WORDS)

abbrev pub named : Option Word → List ℕ → Element
named None text = id (folded text)
named (Some w) text = word w
