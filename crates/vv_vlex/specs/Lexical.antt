-- The elements of a file, or the first place where none starts, by going over the bytes.
use Rattle.std.specs.Prelude.{◌≡◌, ◌≤◌, ℕ, zero, suc, Bool, false, ◌-◌, nat_lt, if◌then◌else◌, List, [], ◌∷◌, ◌++◌, length, Option, Some, None, Result, Ok, Err}
use Rattle.vv_base.specs.declared.fault.Fault.{Fault}
use Rattle.vv_base.specs.declared.fault.Fault.TheVariants.{Refused, Memory}
use Rattle.vv_base.specs.declared.fault.Refusal.{Refusal}
use Rattle.vv_base.specs.declared.rules.Rule.{Rule}
use Rattle.vv_base.specs.declared.rules.Rule.TheVariants.{L1}
use Rattle.vv_vlex.specs.Elements.{Element, finish, Lexeme}
use Rattle.vv_vlex.specs.Pieces.{Found, piece_at, takes_tick}

-- what is said of a refusal alone
abbrev pub ForRefused : Fault → (Refusal → Type 0) → Type 0
ForRefused (Refused r) P = P r
ForRefused Memory P = Unit {0}

pub record IsRefusal (file : ℕ) (rule : Rule) (at len : ℕ) (r : Refusal) : Type 0 where
  pub rule_is : r.rule ≡ rule
  pub file_is : r.span.file ≡ file
  pub at_is : r.span.at ≡ at
  pub len_is : r.span.len ≡ len

-- a broken rule and its offset
pub record Broken : Type 0 where
  pub rule : Rule
  pub at : ℕ

abbrev pub Elements : Type 0
Elements = Result (List Lexeme) Broken

abbrev pub in_front : List Lexeme → Elements → Elements
in_front ls (Ok more) = Ok (ls ++ more)
in_front ls (Err e) = Err e

abbrev pub placed : Option Element → ℕ → ℕ → List Lexeme
placed None at len = []
placed (Some e) at len = record { element = e; at = at; len = len } ∷ []

-- whether an apostrophe behind is the tick: white space and comments change nothing
abbrev pub is_named_behind : Bool → Option Element → Bool
is_named_behind is_named None = is_named
is_named_behind is_named (Some e) = takes_tick e

-- a piece at an offset, and by behind what follows it: behind is given how many more bytes the piece has
abbrev pub with_piece : (ℕ → Bool → Elements) → Bool → ℕ → Found → Elements
with_piece behind is_named at (Err rule) = Err (record { rule = rule; at = at })
with_piece behind is_named at (Ok p) = in_front (placed p.0 at p.1) (behind (p.1 - 1) (is_named_behind is_named p.0))

-- the elements of the last bytes of a file of the length total, the first of which (inside) belong to a piece before
unfoldable pub scan : ℕ → List ℕ → ℕ → Bool → Elements
scan total [] inside is_named = Ok (record { element = finish; at = total; len = 0 } ∷ [])
scan total (b ∷ more) zero is_named = with_piece (λ k n. scan total more k n) is_named (total - suc (length more)) (piece_at is_named b more)
scan total (b ∷ more) (suc inside) is_named = scan total more inside is_named

-- the end of the file is the last element, and before it are at most as many elements as the file has bytes
pub record IsEnded (total : ℕ) (ls : List Lexeme) : Type 0 where
  pub before : List Lexeme
  pub all : ls ≡ before ++ (record { element = finish; at = total; len = 0 } ∷ [])
  pub few : length before ≤ total

-- the elements of a file
unfoldable pub elements_of : List ℕ → Elements
elements_of bytes = if nat_lt 16777216 (length bytes) then Err (record { rule = L1; at = 0 }) else scan (length bytes) bytes 0 false
