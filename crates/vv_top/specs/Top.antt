-- What the top call did, by its status. P says what has been printed of a line: the whole of it, or some first part.
use Rattle.std.specs.Prelude.{◌≡◌, ℕ, List, All, Option, None, Some, ◌⊎◌}
use Rattle.std.specs.Io.KnownBytes.{Appends, Keeps}
use Rattle.vv_base.specs.Outside.{Told, Rose, Holds, KeepsAll}
use Rattle.vv_trans.specs.Translation.{Report, reading, report, IsTranslated, IsRefusal}
use Rattle.vv_top.specs.Words.{Wanted}
use Rattle.vv_top.specs.Lines.{read_line, write_line, report_line, memory_line}
use Rattle.vv_top.specs.Run.{OfFiles, BothHold, ReadFailed, OutputFailed, MapFailed}

-- status 0: text and map of a translation are saved, and nothing is printed
pub record IsDone (w : Wanted) (held kept : List ℕ → Told) (old new : Option (List ℕ)) : Type 0 where
  pub saved : BothHold w held kept
  pub silent : Keeps old new

-- the files are refused by a rule, and nothing is saved
pub record IsRefused (w : Wanted) (held kept : List ℕ → Told) (P : List ℕ → Type 0) : Type 0 where
  pub same : KeepsAll held kept
  pub line : OfFiles w held (λ files. (r : Report) × IsRefusal w.top files r × P (report_line w.files files r))

-- a load of one of the files failed
pub record IsReadFault (w : Wanted) (held kept : List ℕ → Told) (loads loaded : List ℕ → ℕ) (P : List ℕ → Type 0) : Type 0 where
  pub number : ℕ
  pub failed : ReadFailed w number held kept loads loaded
  pub line : P (read_line w.files number)

-- a save of OUT failed
pub record IsOutputFault (w : Wanted) (held kept : List ℕ → Told) (saves saved : List ℕ → ℕ) (P : List ℕ → Type 0) : Type 0 where
  pub failed : OutputFailed w held kept saves saved
  pub line : P (write_line w.output)

-- a save of MAP failed
pub record IsMapFault (w : Wanted) (held kept : List ℕ → Told) (saves saved : List ℕ → ℕ) (P : List ℕ → Type 0) : Type 0 where
  pub failed : MapFailed w held kept saves saved
  pub line : P (write_line w.map)

-- a save failed
abbrev pub IsSaveFault : Wanted → (List ℕ → Told) → (List ℕ → Told) → (List ℕ → ℕ) → (List ℕ → ℕ) → (List ℕ → Type 0) → Type 0
IsSaveFault w held kept saves saved P = IsOutputFault w held kept saves saved P ⊎ IsMapFault w held kept saves saved P

-- the translation stopped, and P of the line that tells why
abbrev pub IsStopped : Wanted → (List ℕ → Told) → (List ℕ → Told) → (List ℕ → ℕ) → (List ℕ → ℕ) → (List ℕ → ℕ) → (List ℕ → ℕ) → (List ℕ → Type 0) → Type 0
IsStopped w held kept loads loaded saves saved P =
    IsRefused w held kept P
    ⊎ (IsReadFault w held kept loads loaded P
    ⊎ (IsSaveFault w held kept saves saved P
    ⊎ P memory_line))

-- no load of a word that is loaded, no save of one that is saved and no put failed
pub record NoFault (w : Wanted) (loads loaded saves saved : List ℕ → ℕ) (before now : ℕ) : Type 0 where
  pub load : All (λ name. ¬ Rose (loads name) (loaded name)) w.files
  pub output : ¬ Rose (saves w.output) (saved w.output)
  pub map : ¬ Rose (saves w.map) (saved w.map)
  pub put : ¬ Rose before now

-- Translated files: status 0, text and map are saved, and nothing is printed. For one file of gates that breaks none of its conditions they stand for it.
pub record Accepts (w : Wanted) (files : List (List ℕ)) (status : ℕ) (held kept : List ℕ → Told) (old new : Option (List ℕ)) : Type 0 where
  pub answer : status ≡ 0
  pub text : List ℕ
  pub lines : List ℕ
  pub translated : IsTranslated w.top files text lines
  pub output : Holds w.output text held kept
  pub map : Holds w.map lines held kept
  pub silent : Keeps old new

-- refused files: status 1, nothing is saved, and the rule, its file and its place are printed
pub record Refuses (w : Wanted) (files : List (List ℕ)) (r : Report) (status : ℕ) (held kept : List ℕ → Told) (old new : Option (List ℕ)) : Type 0 where
  pub answer : status ≡ 1
  pub refused : IsRefusal w.top files r
  pub same : KeepsAll held kept
  pub line : Appends old new (report_line w.files files r)

-- What a translation of these files is. A file of gates that breaks none of its conditions is translated, and what breaks a rule of reading is refused by it; all else is translated
-- or refused.
pub record Translates (w : Wanted) (files : List (List ℕ)) (status : ℕ) (held kept : List ℕ → Told) (old new : Option (List ℕ)) : Type 0 where
  pub gates : report w.top files ≡ None → Accepts w files status held kept old new
  pub misread : (r : Report) → reading files ≡ Some r → Refuses w files r status held kept old new
  pub others : Accepts w files status held kept old new ⊎ ((r : Report) × Refuses w files r status held kept old new)
