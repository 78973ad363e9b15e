-- The lines that are printed, and what a put may leave of one.
use Rattle.std.specs.Prelude.{◌≡◌, ℕ, ◌+◌, ◌==◌, if◌then◌else◌, fold, List, [], ◌∷◌, ◌++◌, take, get_or, count_by, Option, codes, decimal, ◌⊎◌}
use Rattle.std.specs.Io.KnownBytes.{Appends, Keeps}
use Rattle.vv_base.specs.Outside.{Rose}
use Rattle.vv_base.specs.Codes.{code_of}
use Rattle.vv_trans.specs.Translation.{Report}

-- words, a name, and the end of the line
abbrev pub name_line : List ℕ → List ℕ → List ℕ
name_line words name = words ++ (name ++ 10 ∷ [])

-- 1 plus the number of line ends before the place
abbrev pub line_at : List ℕ → ℕ → ℕ
line_at file at = count_by (λ b. b == 10) (take at file) + 1

-- 1 plus the number of bytes since the last line end before the place
abbrev pub column_at : List ℕ → ℕ → ℕ
column_at file at = fold (λ column b. if b == 10 then 1 else column + 1) 1 (take at file)

-- a name, a place of its file and a code
abbrev pub place_line : List ℕ → List ℕ → ℕ → List ℕ → List ℕ
place_line name file at code =
    name ++ (codes ":" ++ (decimal (line_at file at) ++ (codes ":" ++ (decimal (column_at file at) ++ (codes ": " ++ (code ++ 10 ∷ []))))))

-- the rule that files of these names break, at its place in its file
abbrev pub report_line : List (List ℕ) → List (List ℕ) → Report → List ℕ
report_line names files r = place_line (get_or names r.file []) (get_or files r.file []) r.at (code_of r.rule)

-- a load of the name of this number failed
abbrev pub read_line : List (List ℕ) → ℕ → List ℕ
read_line names number = name_line (codes "read fault: ") (get_or names number [])

-- a save of the name failed
abbrev pub write_line : List ℕ → List ℕ
write_line name = name_line (codes "write fault: ") name

-- want of memory
abbrev pub memory_line : List ℕ
memory_line = codes "memory" ++ 10 ∷ []

-- the words are no command
abbrev pub usage_line : List ℕ
usage_line = codes "usage" ++ 10 ∷ []

-- some first part of the line was put
abbrev pub Cut : Option (List ℕ) → Option (List ℕ) → List ℕ → Type 0
Cut old new line = (k : ℕ) × Appends old new (take k line)

-- The line was put, and the status is its own; or the put failed, the status is 4 and a first part stands; or there was no memory for
-- the put, the status is 5 and nothing stands.
abbrev pub Said : List ℕ → ℕ → ℕ → Option (List ℕ) → Option (List ℕ) → ℕ → ℕ → Type 0
Said line status result old new before now =
    ((result ≡ status) × Appends old new line)
    ⊎ (((result ≡ 4) × Rose before now × Cut old new line)
    ⊎ ((result ≡ 5) × Keeps old new))

-- The line was said with its status, or want of memory in its place.
abbrev pub Announced : List ℕ → ℕ → ℕ → Option (List ℕ) → Option (List ℕ) → ℕ → ℕ → Type 0
Announced line status result old new before now = Said line status result old new before now ⊎ Said memory_line 5 result old new before now
