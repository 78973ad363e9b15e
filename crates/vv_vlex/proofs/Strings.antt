-- How far a string goes, with the last place where it could end.
use Rattle.std.proofs.Common.{ℕ, Option, Some, None}

-- the later end, if there is one
abbrev pub or_end : Option ℕ → Option ℕ → Option ℕ
or_end last None = last
or_end last (Some n) = Some n
