-- The six conditions under which a file of gates is refused, each at its place.
use Rattle.std.specs.Prelude.{◌≡◌, ◌≢◌, ◌≤◌, ℕ, Bool, true, false, List, ◌∷◌, ◌++◌, map, Contains}
use Rattle.vv_gate.specs.Tree.{Ident, Port, port, Term, Assignment, GateFile, ports_of}

abbrev pub name_of : Port → List ℕ
name_of p = p.ident.text

-- some port of this direction has the name
abbrev pub IsPort : Bool → GateFile → List ℕ → Type 0
IsPort input f text = (p : Port) × Contains (ports_of f) p × (p.input ≡ input) × (p.ident.text ≡ text)

pub data Broken (top : List ℕ) (f : GateFile) (at : ℕ) : Type 0 where
  -- a port's identifier stands a second time
  repeated_port : (before after : List Port) (p : Port) → ports_of f ≡ before ++ (p ∷ after) → Contains (map name_of before) p.ident.text → at ≡ p.ident.at → Broken top f at
  -- the architecture's entity isn't the entity
  other_entity : f.of.text ≢ f.entity.text → at ≡ f.of.at → Broken top f at
  -- a target isn't an out port
  no_output : (a : Assignment) → Contains f.assignments a → (IsPort false f a.target.text → ⊥) → at ≡ a.target.at → Broken top f at
  -- an operand isn't an in port
  no_input : (a : Assignment) (t : Term) (i : Ident) → Contains f.assignments a → Contains a.terms t → t.operand ≡ port i → (IsPort true f i.text → ⊥) → at ≡ i.at → Broken top f at
  -- the top that was asked for isn't the entity's name
  other_top : top ≢ f.entity.text → at ≡ 0 → Broken top f at
  -- an output is assigned a second time
  assigned_again : (before after : List Assignment) (a : Assignment) → f.assignments ≡ before ++ (a ∷ after) → Contains (map (λ b. b.target.text) before) a.target.text → at ≡ a.target.at → Broken top f at

-- the first place at which a condition holds
pub record IsFirstBroken (top : List ℕ) (f : GateFile) (at : ℕ) : Type 0 where
  pub here : Broken top f at
  pub least : (q : ℕ) → Broken top f q → at ≤ q

-- no condition holds anywhere
abbrev pub IsSound : List ℕ → GateFile → Type 0
IsSound top f = (at : ℕ) → Broken top f at → ⊥
