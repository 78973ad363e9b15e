-- What a translation does to the shelf.
use Rattle.std.specs.Prelude.{◌≡◌, ℕ, List, map, Some, bytes_eq, false, ◌⊎◌}
use Rattle.vv_base.specs.Outside.{Told, Rose, Holds, KeepsAll, KeepsOthers}
use Rattle.vv_trans.specs.Translation.{Report, IsTranslated, IsRefusal}
use Rattle.vv_top.specs.Loads.{LoadFailed}
use Rattle.vv_top.specs.Words.{Wanted}

-- of every name but these two the same is told
abbrev pub KeepsBut : List ℕ → List ℕ → (List ℕ → Told) → (List ℕ → Told) → Type 0
KeepsBut a b old new = (n : List ℕ) → bytes_eq a n ≡ false → bytes_eq b n ≡ false → new n ≡ old n

-- of each of these names bytes are told, and files has them in order
abbrev pub AreTold : (List ℕ → Told) → List (List ℕ) → List (List ℕ) → Type 0
AreTold held names files = map held names ≡ map (λ file. Some (Some file)) files

-- where the bytes of all files are told, P of them
abbrev pub OfFiles : Wanted → (List ℕ → Told) → (List (List ℕ) → Type 0) → Type 0
OfFiles w held P = (files : List (List ℕ)) → AreTold held w.files files → P files

-- this text and this map are the translation of the files
abbrev pub Translated : Wanted → (List ℕ → Told) → List ℕ → List ℕ → Type 0
Translated w old text lines = OfFiles w old (λ files. IsTranslated w.top files text lines)

-- text and map of a translation stand under OUT and MAP, where something was told of these
pub record BothHold (w : Wanted) (old new : List ℕ → Told) : Type 0 where
  pub text : List ℕ
  pub lines : List ℕ
  pub translated : Translated w old text lines
  pub output : Holds w.output text old new
  pub map : Holds w.map lines old new

-- a load of the file of this number failed, and nothing is saved
pub record ReadFailed (w : Wanted) (number : ℕ) (old new : List ℕ → Told) (loads loaded : List ℕ → ℕ) : Type 0 where
  pub load : LoadFailed w.files number old loads loaded
  pub same : KeepsAll old new

-- These bytes are refused by a rule. They are those of the files where they are told, and nothing is saved.
pub record RuleBroken (w : Wanted) (old new : List ℕ → Told) (bytes : List (List ℕ)) (r : Report) : Type 0 where
  pub broken : IsRefusal w.top bytes r
  pub loaded : OfFiles w old (λ files. files ≡ bytes)
  pub same : KeepsAll old new

-- OUT holds the text of a translation, and of every other name the same is told
pub record OutputSaved (w : Wanted) (old new : List ℕ → Told) : Type 0 where
  pub text : List ℕ
  pub lines : List ℕ
  pub translated : Translated w old text lines
  pub output : Holds w.output text old new
  pub others : KeepsOthers w.output old new

-- a save of OUT failed, and of every other name the same is told
pub record OutputFailed (w : Wanted) (old new : List ℕ → Told) (saves saved : List ℕ → ℕ) : Type 0 where
  pub rose : Rose (saves w.output) (saved w.output)
  pub others : KeepsOthers w.output old new

-- OUT holds the text of a translation, a save of MAP failed, and of every other name the same is told
pub record MapFailed (w : Wanted) (old new : List ℕ → Told) (saves saved : List ℕ → ℕ) : Type 0 where
  pub text : List ℕ
  pub lines : List ℕ
  pub translated : Translated w old text lines
  pub output : Holds w.output text old new
  pub rose : Rose (saves w.map) (saved w.map)
  pub others : KeepsBut w.output w.map old new

-- What a translation that stopped has saved: nothing, or OUT; or a save failed, and nothing after it was saved.
abbrev pub Saved : Wanted → (List ℕ → Told) → (List ℕ → Told) → (List ℕ → ℕ) → (List ℕ → ℕ) → Type 0
Saved w old new saves saved =
    KeepsAll old new
    ⊎ (OutputSaved w old new
    ⊎ (OutputFailed w old new saves saved
    ⊎ MapFailed w old new saves saved))

-- where no save failed, nothing is saved, or OUT alone
abbrev pub SavedPart : Wanted → (List ℕ → Told) → (List ℕ → Told) → Type 0
SavedPart w old new = KeepsAll old new ⊎ OutputSaved w old new
