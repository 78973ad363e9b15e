-- The flat design of a list of modules and the name of its top: objects by number, and items over these numbers.
use Rattle.std.specs.Prelude.{◌≡◌, ◌≢◌, ◌<◌, ℕ, List, [], map, flat_map, length, slice_index_or, All, Contains}
use Rattle.std.specs.List.{AllPairs, HoldsAt}
use Rattle.vv_vast.specs.Tree.{Item, output, Port, Module, target_of, reads_of, names_of_item, renamed_item}

-- the items in the order of the text
pub record Flat : Type 0 where
  pub objects : List Port
  pub items : List (Item ℕ)

abbrev pub IsDistinct : List (List ℕ) → Type 0
IsDistinct = AllPairs (λ a b. a ≢ b)

-- the name of the i-th object
abbrev pub name_at : List Port → ℕ → List ℕ
name_at objects i = slice_index_or (map (λ p. p.name) objects) i []

-- what a module without instances stands for
pub record IsFlat (m : Module) (flat : Flat) : Type 0 where
  -- the objects are the ports in order, and no name is repeated
  pub objects : flat.objects ≡ m.ports
  pub distinct : IsDistinct (map (λ p. p.name) m.ports)
  -- each number is that of an object, and with the names for the numbers the items are the module's
  pub known : All (λ i. i < length flat.objects) (flat_map names_of_item flat.items)
  pub items : map (renamed_item (name_at flat.objects)) flat.items ≡ m.items
  -- no input is driven
  pub driven : All (λ i. HoldsAt (λ p. p.direction ≡ output) flat.objects (target_of i)) flat.items

-- there is no cycle of dependences: what an item drives has a greater rank than what it reads
pub record IsAcyclic (flat : Flat) : Type 0 where
  pub rank : ℕ → ℕ
  pub falls : All (λ i. All (λ n. rank n < rank (target_of i)) (reads_of i)) flat.items

pub record FlatDesign (modules : List Module) (top : List ℕ) (flat : Flat) : Type 0 where
  -- no two modules have one name, and each stands for something
  pub distinct : IsDistinct (map (λ m. m.name) modules)
  pub each : All (λ m. (own : Flat) × IsFlat m own) modules
  -- one has the top's name, and the flat design is what it stands for
  pub found : Module
  pub among : Contains modules found
  pub named : found.name ≡ top
  pub stands : IsFlat found flat
  pub acyclic : IsAcyclic flat
