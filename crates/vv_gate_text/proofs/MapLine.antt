-- The parts of a line of the map put together.
use Rattle.std.proofs.Common.{◌≡◌, ℕ, List, [], ◌∷◌, ◌++◌, lit<}
use Rattle.std.proofs.lemmas.Fmt.{decimal_digit}
use Rattle.std.proofs.lemmas.List.{append_assoc}
use Rattle.std.specs.Fmt.{decimal}
use Rattle.std.specs.Prelude.{codes}

-- the last field but one is 1
pub line_parts : (old kind vhdl verilog : List ℕ) → ((old ++ (kind ++ codes ",")) ++ (vhdl ++ codes "," ++ verilog)) ++ (codes ",1,std" ++ 10 ∷ [])
    ≡ old ++ (kind ++ codes "," ++ vhdl ++ codes "," ++ verilog ++ codes "," ++ decimal 1 ++ codes "," ++ codes "std" ++ 10 ∷ [])
line_parts old kind vhdl verilog =
    let one : decimal 1 ≡ 49 ∷ [] = decimal_digit 1 (lit< tt) in
    rw one (simp append_assoc)
