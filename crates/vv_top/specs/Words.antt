-- The words of a command.
use Rattle.std.specs.Prelude.{ℕ, ◌<◌, ◌≤◌, Bool, true, false, not, ◌&&◌, ◌||◌, ◌==◌, nat_lt, List, [], ◌∷◌, length, Option, Some, None, IsTrue, bytes_eq, codes, if◌then◌else◌}
use Rattle.std.specs.List.{list_any}
use denote.Ref.{Bor}
use Rattle.vv_trans.specs.Translation.{bytes_of}
use Rattle.vv_top.specs.declared.words.Command.{Command}

-- a translation that was asked for, by its words
pub record Wanted : Type 0 where
  pub top : List ℕ
  pub output : List ℕ
  pub map : List ℕ
  pub files : List (List ℕ)

-- a word that begins so is no top
abbrev pub begins_with_dash : List ℕ → Bool
begins_with_dash [] = false
begins_with_dash (byte ∷ rest) = byte == 45

-- each name differs from all others, byte for byte
abbrev pub differ : List (List ℕ) → Bool
differ [] = true
differ (name ∷ more) = not (list_any (bytes_eq name) more) && differ more

-- a command has so many files: 1 to 255
abbrev pub is_count : ℕ → Bool
is_count number = nat_lt 0 number && nat_lt number 256

-- the translation that the words ask for, and nothing where they are no command
abbrev pub wanted_of : List (List ℕ) → Option Wanted
wanted_of (verb ∷ top ∷ output ∷ map ∷ files) =
    if bytes_eq verb (codes "translate") && (not (begins_with_dash top) && (is_count (length files) && differ (output ∷ map ∷ files)))
    then Some (record { top = top; output = output; map = map; files = files }) else None
wanted_of words = None

-- the same of words in the program
abbrev pub asked : List (Bor (List ℕ)) → Option Wanted
asked words = wanted_of (bytes_of words)

-- words that begin like a command that is no translation
abbrev pub begins_further : List (List ℕ) → Bool
begins_further [] = false
begins_further (verb ∷ rest) = bytes_eq verb (codes "replay") || (bytes_eq verb (codes "compare") || bytes_eq verb (codes "gen"))

-- the same of words in the program
abbrev pub is_further : List (Bor (List ℕ)) → Bool
is_further words = begins_further (bytes_of words)

-- what a command in the program stands for
abbrev pub wanted : Command → Wanted
wanted command = record { top = command.top.now; output = command.output.now; map = command.map.now; files = bytes_of command.files.now }

-- a command has files, at most 255, and its text and its map go to different ones
pub record IsLawful (w : Wanted) : Type 0 where
  pub some : 0 < length w.files
  pub few : length w.files ≤ 255
  pub apart : IsTrue (not (bytes_eq w.output w.map))
