-- The Verilog name of a VHDL name.
use Rattle.std.specs.Prelude.{ℕ, List, ◌++◌, codes, if◌then◌else◌}
use Rattle.vv_vast.specs.Words.{is_reserved}

-- a reserved word gets `$` at its end
abbrev pub mangled : List ℕ → List ℕ
mangled text = if is_reserved text then text ++ codes "$" else text
