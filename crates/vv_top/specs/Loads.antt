-- What the loads of all files gave.
use Rattle.std.specs.Prelude.{◌≡◌, ℕ, ◌<◌, List, [], length, take, get_or, All, Some, None, ⊤}
use Rattle.std.specs.List.{AllZip}
use Rattle.vv_base.specs.Outside.{Told, Gives, Rose}
use Rattle.vv_top.specs.declared.loads.LoadStop.{LoadStop}
use Rattle.vv_top.specs.declared.loads.LoadStop.TheVariants.{Failed, Memory}

-- where told, these are the bytes of the names, in their order
abbrev pub GiveAll : (List ℕ → Told) → List (List ℕ) → List (List ℕ) → Type 0
GiveAll held names files = AllZip (λ name file. Gives (held name) file) names files

-- a load of the name of this number failed; of no name before it is told that it is absent
pub record LoadFailed (names : List (List ℕ)) (number : ℕ) (held : List ℕ → Told) (loads loaded : List ℕ → ℕ) : Type 0 where
  pub within : number < length names
  pub rose : Rose (loads (get_or names number [])) (loaded (get_or names number []))
  pub before : All (λ name. ¬ (held name ≡ Some None)) (take number names)

-- why the loads stopped
abbrev pub HasLoadCause : List (List ℕ) → (List ℕ → Told) → (List ℕ → ℕ) → (List ℕ → ℕ) → LoadStop → Type 0
HasLoadCause names held loads loaded (Failed number) = LoadFailed names number held loads loaded
HasLoadCause names held loads loaded Memory = ⊤
