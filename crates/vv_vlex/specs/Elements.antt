-- What a lexical element is, as contracts see it: it holds its text, and a list of elements their places.
use Rattle.std.specs.Prelude.{ℕ, ℤ, ◌==◌, if◌then◌else◌, List, [], ◌∷◌, map}
use Rattle.std.specs.Char.{to_ascii_lowercase}
use Rattle.vv_vlex.specs.declared.element.Element as code
use Rattle.vv_vlex.specs.declared.element.Element.TheVariants as element
use Rattle.vv_vlex.specs.declared.element.Lexeme as code_lexeme
use Rattle.vv_vlex.specs.declared.sign.Sign.{Sign}
use Rattle.vv_vlex.specs.declared.word.Word.{Word}

pub data Element : Type 0 where
  -- the text is folded to lower case
  id : List ℕ → Element
  word : Word → Element
  int : ℤ → Element
  char : ℕ → Element
  -- the text as it is written, and the bytes with each doubled quote once
  str : List ℕ → List ℕ → Element
  -- as it is written, with its letter and its quotes
  bit_str : List ℕ → Element
  sign : Sign → Element
  -- the end of the file
  finish : Element

pub record Lexeme : Type 0 where
  pub element : Element
  pub at : ℕ
  pub len : ℕ

abbrev pub folded : List ℕ → List ℕ
folded text = map to_ascii_lowercase text

abbrev mutual
  -- each doubled quote once
  pub undoubled : List ℕ → List ℕ
  undoubled [] = []
  undoubled (b ∷ more) = b ∷ (if b == 34 then behind_quote more else undoubled more)

  -- the same behind a quote
  pub behind_quote : List ℕ → List ℕ
  behind_quote [] = []
  behind_quote (b ∷ more) = if b == 34 then undoubled more else b ∷ undoubled more

-- an element of the program
abbrev pub element_of : code.Element → Element
element_of (element.Id text) = id (folded text.now)
element_of (element.Word w) = word w
element_of (element.Int n) = int n
element_of (element.Char b) = char b
element_of (element.Str written inner) = str written.now (undoubled inner.now)
element_of (element.BitStr text) = bit_str text.now
element_of (element.Sign s) = sign s
element_of element.End = finish

abbrev pub lexeme_of : code_lexeme.Lexeme → Lexeme
lexeme_of l = record { element = element_of l.element; at = l.at; len = l.len }
