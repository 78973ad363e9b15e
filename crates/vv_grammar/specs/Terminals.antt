-- What the grammar sees of a token, and of a lexical element.
use Rattle.std.specs.Prelude.{Bool, true, false, nat_eq, ◌||◌, List, [], ◌∷◌, map}
use Rattle.vv_vlex.specs.Elements.{Element, Lexeme, id, word, int, char, str, bit_str, sign, finish}
use Rattle.vv_vlex.specs.declared.token.Token.{Token}
use Rattle.vv_vlex.specs.declared.token.TokenKind.{TokenKind}
use Rattle.vv_vlex.specs.declared.token.TokenKind.TheVariants as kind
use Rattle.vv_grammar.specs.declared.terminal.Terminal.{Terminal}
use Rattle.vv_grammar.specs.declared.terminal.Terminal.TheVariants as the
use denote.Enum.Declared.{tag_of}
use Rattle.vv_vlex.specs.contracts.word.Word as w
use Rattle.vv_vlex.specs.contracts.sign.Sign as s

abbrev pub kind_of : TokenKind → Terminal
kind_of (kind.Id n) = the.Id
kind_of (kind.Word w) = the.Key w
kind_of (kind.Int n) = the.Int
kind_of (kind.Char b n) = the.Char
kind_of (kind.Str bs n) = the.Str
kind_of (kind.BitStr bs) = the.BitStr
kind_of (kind.Sign s) = the.Mark s
kind_of kind.End = the.End

abbrev pub terminals_of : List Token → List Terminal
terminals_of ts = map (λ t. kind_of t.kind) ts

abbrev pub kind_of_element : Element → Terminal
kind_of_element (id text) = the.Id
kind_of_element (word w) = the.Key w
kind_of_element (int n) = the.Int
kind_of_element (char b) = the.Char
kind_of_element (str written bytes) = the.Str
kind_of_element (bit_str text) = the.BitStr
kind_of_element (sign s) = the.Mark s
kind_of_element finish = the.End

abbrev pub terminals_of_elements : List Lexeme → List Terminal
terminals_of_elements ls = map (λ l. kind_of_element l.element) ls

abbrev pub same : Terminal → Terminal → Bool
same the.Id the.Id = true
same the.Int the.Int = true
same the.Char the.Char = true
same the.Str the.Str = true
same the.BitStr the.BitStr = true
same the.End the.End = true
same (the.Key a) (the.Key b) = nat_eq (tag_of w.the_type a) (tag_of w.the_type b)
same (the.Mark a) (the.Mark b) = nat_eq (tag_of s.the_type a) (tag_of s.the_type b)
same _ _ = false

abbrev pub contains : List Terminal → Terminal → Bool
contains [] t = false
contains (s ∷ more) t = same s t || contains more t
