-- Why a translation stopped, and what is printed of it.
use Rattle.std.specs.Prelude.{ℕ, ◌<◌, ◌≤◌, List, [], ⊤, length, map, get_or}
use Rattle.vv_base.specs.Outside.{Told}
use Rattle.vv_trans.specs.Translation.{told}
use Rattle.vv_top.specs.Words.{Wanted}
use Rattle.vv_top.specs.Lines.{read_line, write_line, report_line, memory_line}
use Rattle.vv_top.specs.Run.{ReadFailed, OutputFailed, MapFailed, RuleBroken}
use Rattle.vv_top.specs.declared.run.Stop.{Stop}
use Rattle.vv_top.specs.declared.run.Stop.TheVariants.{ReadFault, OutputFault, MapFault, Refused, Memory}

-- what has happened where a translation stopped so
abbrev pub Means : Wanted → (List ℕ → Told) → (List ℕ → Told) → (List ℕ → ℕ) → (List ℕ → ℕ) → (List ℕ → ℕ) → (List ℕ → ℕ) → Stop → Type 0
Means w old new loads loaded saves saved (ReadFault number) = ReadFailed w number old new loads loaded
Means w old new loads loaded saves saved OutputFault = OutputFailed w old new saves saved
Means w old new loads loaded saves saved MapFault = MapFailed w old new saves saved
Means w old new loads loaded saves saved (Refused files refusal) = RuleBroken w old new (map (λ file. file.items) files.items) (told refusal)
Means w old new loads loaded saves saved Memory = ⊤

-- the line that is printed
abbrev pub line_of : Wanted → Stop → List ℕ
line_of w (ReadFault number) = read_line w.files number
line_of w OutputFault = write_line w.output
line_of w MapFault = write_line w.map
line_of w (Refused files refusal) = report_line w.files (map (λ file. file.items) files.items) (told refusal)
line_of w Memory = memory_line

-- the status of a stop
abbrev pub status_of : Stop → ℕ
status_of (ReadFault number) = 3
status_of OutputFault = 4
status_of MapFault = 4
status_of (Refused files refusal) = 1
status_of Memory = 5

-- a place in a file of a command of so many files, or at its end
pub record IsPlaceOf (count : ℕ) (files : List (List ℕ)) (number at : ℕ) : Type 0 where
  pub named : number < count
  pub loaded : number < length files
  pub inside : at ≤ length (get_or files number [])

-- what is told of a file is told of one of the command's
abbrev pub IsInside : ℕ → Stop → Type 0
IsInside count (ReadFault number) = number < count
IsInside count (Refused files refusal) = IsPlaceOf count (map (λ file. file.items) files.items) refusal.span.file refusal.span.at
IsInside count OutputFault = ⊤
IsInside count MapFault = ⊤
IsInside count Memory = ⊤
