-- The tokens of a file: its elements with the numbers of their names, which are given in order.
use Rattle.std.specs.Prelude.{ℕ, ◌+◌, ◌/◌, ◌%◌, nat_lt, if◌then◌else◌, List, [], ◌∷◌, Option, Some, None, Result, Ok, Err}
use Rattle.vv_base.specs.declared.fault.Name.{Name}
use Rattle.vv_base.specs.Names.{number_of, with_text}
use Rattle.vv_vlex.specs.declared.token.Token.{Token}
use Rattle.vv_vlex.specs.declared.token.TokenKind.{TokenKind}
use Rattle.vv_vlex.specs.declared.token.TokenKind.TheVariants as kind
use Rattle.vv_vlex.specs.Elements.{Element, Lexeme, id, word, int, char, str, bit_str, sign, finish, folded}
use Rattle.vv_vlex.specs.Lexical.{Elements, Broken, elements_of}

-- a digit below 16
abbrev pub hex : ℕ → ℕ
hex d = if nat_lt d 10 then 48 + d else 87 + d

-- the text by which an element is named, if it has a name
unfoldable pub name_text : Element → Option (List ℕ)
name_text (id text) = Some text
name_text (char b) = Some (folded (39 ∷ hex (b / 16) ∷ hex (b % 16) ∷ []))
name_text (str written bytes) = Some (folded written)
name_text (word w) = None
name_text (int n) = None
name_text (bit_str text) = None
name_text (sign s) = None
name_text finish = None

abbrev pub seen : List (List ℕ) → Option (List ℕ) → List (List ℕ)
seen names None = names
seen names (Some text) = with_text names text

-- the names when the element has been seen
abbrev pub names_after : List (List ℕ) → Element → List (List ℕ)
names_after names e = seen names (name_text e)

abbrev pub numbered : List (List ℕ) → Option (List ℕ) → Name
numbered names None = record { 0 = 0 }
numbered names (Some text) = record { 0 = number_of names text }

abbrev pub kind_of : Name → Element → TokenKind
kind_of n (id text) = kind.Id n
kind_of n (word w) = kind.Word w
kind_of n (int i) = kind.Int i
kind_of n (char b) = kind.Char b n
kind_of n (str written bytes) = kind.Str bytes n
kind_of n (bit_str text) = kind.BitStr text
kind_of n (sign s) = kind.Sign s
kind_of n finish = kind.End

abbrev pub token_of : ℕ → List (List ℕ) → Lexeme → Token
token_of file names l = record { kind = kind_of (numbered names (name_text l.element)) l.element; span = record { file = file; at = l.at; len = l.len } }

abbrev pub tokens_of : ℕ → List (List ℕ) → List Lexeme → List Token
tokens_of file names [] = []
tokens_of file names (l ∷ more) = token_of file names l ∷ tokens_of file (names_after names l.element) more

abbrev pub names_behind : List (List ℕ) → List Lexeme → List (List ℕ)
names_behind names [] = names
names_behind names (l ∷ more) = names_behind (names_after names l.element) more

-- tokens, and the names when all of them have been seen
pub record Lexed : Type 0 where
  pub tokens : List Token
  pub names : List (List ℕ)

abbrev pub with_names : ℕ → List (List ℕ) → Elements → Result Lexed Broken
with_names file names (Ok ls) = Ok (record { tokens = tokens_of file names ls; names = names_behind names ls })
with_names file names (Err e) = Err e

-- the tokens of a file, by the names that were seen before it
unfoldable pub lexed : ℕ → List ℕ → List (List ℕ) → Result Lexed Broken
lexed file bytes names = with_names file names (elements_of bytes)
