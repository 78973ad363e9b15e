-- A worked instance: an inverter as a text, as a tree, and as a flat design.
use Rattle.std.specs.Prelude.{ℕ, List, [], ◌∷◌, codes}
use Rattle.vv_vast.specs.Flat.{Flat}
use Rattle.vv_vast.specs.Tree.{not', name, unary, assign, input, output, Port, Module}

abbrev pub inverter_text : List ℕ
inverter_text = codes "module m (input wire a, output wire b); assign b = (~a); endmodule"

abbrev pub inverter_ports : List Port
inverter_ports = record { direction = input; name = codes "a" } ∷ record { direction = output; name = codes "b" } ∷ []

abbrev pub inverter : Module
inverter = record { name = codes "m"; ports = inverter_ports; items = assign (codes "b") (unary not' (name (codes "a"))) ∷ [] }

abbrev pub inverter_flat : Flat
inverter_flat = record { objects = inverter_ports; items = assign 1 (unary not' (name 0)) ∷ [] }
