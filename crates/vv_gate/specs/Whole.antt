-- What the grammar asks of a tree besides its form, and the identifiers of a tree.
use Rattle.std.specs.Prelude.{◌≡◌, ◌≤◌, ◌<◌, ℕ, Bool, true, ◌&&◌, ◌||◌, nat_le, ◌==◌, List, [], ◌∷◌, ◌++◌, length, map, flat_map, codes, All, Option, Some, None, IfSome}
use Rattle.vv_gate.specs.Tree.{Ident, Operand, low, high, port, Term, Assignment, GateFile}
use Rattle.vv_gate.specs.declared.tree.Operator.TheVariants.{And}

-- at least one term and at most 64; a chain of one has no operator, for which And stands
pub record IsWholeAssignment (a : Assignment) : Type 0 where
  pub some : 0 < length a.terms
  pub most : length a.terms ≤ 64
  pub alone : length a.terms ≡ 1 → a.operator ≡ And

pub record IsWhole (f : GateFile) : Type 0 where
  pub logic : f.logic.text ≡ codes "std_logic_1164"
  pub numeric : IfSome f.numeric (λ i. i.text ≡ codes "numeric_std")
  pub some : 0 < length f.groups
  pub groups : All (λ g. 0 < length g.idents) f.groups
  pub assignments : All IsWholeAssignment f.assignments

-- a lower case letter
abbrev pub is_letter : ℕ → Bool
is_letter b = nat_le 97 b && nat_le b 122

abbrev pub is_digit : ℕ → Bool
is_digit b = nat_le 48 b && nat_le b 57

abbrev pub is_underscore : ℕ → Bool
is_underscore b = b == 95

abbrev pub is_name_byte : ℕ → Bool
is_name_byte b = is_letter b || (is_digit b || is_underscore b)

-- a letter, then letters, digits and underscores
abbrev pub IsName : List ℕ → Type 0
IsName [] = ⊥
IsName (b ∷ more) = (is_letter b ≡ true) × All (λ c. is_name_byte c ≡ true) more

abbrev pub idents_of_operand : Operand → List Ident
idents_of_operand low = []
idents_of_operand high = []
idents_of_operand (port i) = i ∷ []

abbrev pub idents_of_term : Term → List Ident
idents_of_term t = idents_of_operand t.operand

abbrev pub idents_of_assignment : Assignment → List Ident
idents_of_assignment a = a.target ∷ flat_map idents_of_term a.terms

abbrev pub idents_of_option : Option Ident → List Ident
idents_of_option None = []
idents_of_option (Some i) = i ∷ []

-- every identifier, in the order of the text
abbrev pub idents_of : GateFile → List Ident
idents_of f =
    (f.logic ∷ idents_of_option f.numeric)
    ++ (f.entity ∷ flat_map (λ g. g.idents) f.groups)
    ++ (f.architecture ∷ f.of ∷ flat_map idents_of_assignment f.assignments)

-- each greater than the one before
abbrev pub Ascends : List ℕ → Type 0
Ascends [] = Unit {0}
Ascends (a ∷ more) = All (λ b. a < b) more × Ascends more

-- the identifiers are names, and stand in the order of the text
pub record IsPlaced (f : GateFile) : Type 0 where
  pub names : All (λ i. IsName i.text) (idents_of f)
  pub order : Ascends (map (λ i. i.at) (idents_of f))
