-- What goes into the sets of names, and what is taken out.
use Rattle.std.specs.Prelude.{◌≡◌, ℕ, ◌||◌, List, [], ◌∷◌, ◌++◌, map, Option, None}
use Rattle.std.specs.Borrow.{Bor}
use Rattle.std.specs.HashSet.{HashSet}
use Rattle.vv_gate.specs.Tree.{Ident, Port, Assignment}
use Rattle.vv_gate_check.specs.declared.names.Names.{Names}
use Rattle.vv_gate_check.specs.Places.{first, place_if, is_among, inputs_of, outputs_of, repeated_ports, without, broken_assignments}

abbrev pub names_in : {S : Type 0} → HashSet (Bor (List ℕ)) S → List (List ℕ)
names_in s = map (λ k. k.now) s.keys

abbrev pub inputs_in : Names → List (List ℕ)
inputs_in n = names_in n.inputs

abbrev pub outputs_in : Names → List (List ℕ)
outputs_in n = names_in n.outputs

abbrev pub IsEmpty : Names → Type 0
IsEmpty n = (n.inputs.keys ≡ []) × (n.outputs.keys ≡ [])

-- the same names, in any order
abbrev pub AreSame : List (List ℕ) → List (List ℕ) → Type 0
AreSame a b = (name : List ℕ) → is_among name a ≡ is_among name b

-- the name comes to the names, or the place is its own where they or the others have it
pub record Adds (i : Ident) (others old new : List (List ℕ)) (place : Option ℕ) : Type 0 where
  pub place_is : place ≡ first (place_if (is_among i.text others || is_among i.text old) i.at)
  pub same : place ≡ None → AreSame new (i.text ∷ old)

-- the ports come to the names, or the place is that of the first whose name was there
pub record Declares (ports : List Port) (old new : Names) (place : Option ℕ) : Type 0 where
  pub place_is : place ≡ first (repeated_ports (inputs_in old ++ outputs_in old) ports)
  pub inputs : place ≡ None → AreSame (inputs_in new) (inputs_of ports ++ inputs_in old)
  pub outputs : place ≡ None → AreSame (outputs_in new) (outputs_of ports ++ outputs_in old)

-- the names without each target
abbrev pub without_targets : List Assignment → List (List ℕ) → List (List ℕ)
without_targets [] names = names
without_targets (a ∷ more) names = without_targets more (without a.target.text names)

-- the targets go from the outputs, or the place is the first broken one
pub record Assigns (assignments : List Assignment) (old new : Names) (place : Option ℕ) : Type 0 where
  pub place_is : place ≡ first (broken_assignments (inputs_in old) (outputs_in old) assignments)
  pub inputs : inputs_in new ≡ inputs_in old
  pub outputs : place ≡ None → AreSame (outputs_in new) (without_targets assignments (outputs_in old))
