-- What a shelf tells of its files, what a sink tells of its bytes, and how their counts of faults go.
use Rattle.std.specs.Prelude.{◌≡◌, ℕ, ◌+◌, ◌-◌, ◌^◌, ◌≤◌, min, List, length, take, drop, Option, Some, None, IsSome, bytes_eq, false, ⊤}

-- What is told of one name: nothing (None), that it is absent (Some None), or its bytes (Some (Some bytes)).
abbrev pub Told : Type 0
Told = Option (Option (List ℕ))

-- where told, these are the name's bytes
abbrev pub Gives : Told → List ℕ → Type 0
Gives None bytes = ⊤
Gives (Some None) bytes = ⊥
Gives (Some (Some stored)) bytes = bytes ≡ stored

-- after a load: the former bytes, and then those of the name
pub record Loaded (told : Told) (old new : List ℕ) : Type 0 where
  pub kept : take (length old) new ≡ old
  pub bytes : Gives told (drop (length old) new)

-- of every name the same is told
abbrev pub KeepsAll : (List ℕ → Told) → (List ℕ → Told) → Type 0
KeepsAll old new = (n : List ℕ) → new n ≡ old n

-- of every other name the same is told
abbrev pub KeepsOthers : List ℕ → (List ℕ → Told) → (List ℕ → Told) → Type 0
KeepsOthers name old new = (n : List ℕ) → bytes_eq name n ≡ false → new n ≡ old n

-- the name has these bytes, where something was told of it
abbrev pub Holds : List ℕ → List ℕ → (List ℕ → Told) → (List ℕ → Told) → Type 0
Holds name bytes old new = IsSome (old name) → new name ≡ Some (Some bytes)

-- no name's count fell
abbrev pub NoneFell : (List ℕ → ℕ) → (List ℕ → ℕ) → Type 0
NoneFell old new = (n : List ℕ) → old n ≤ new n

-- The count rose. It ends at 2 ^ 64 - 1: a fault there counts as one in which it rose.
abbrev pub Rose : ℕ → ℕ → Type 0
Rose before now = min (before + 1) (2 ^ 64 - 1) ≤ now
