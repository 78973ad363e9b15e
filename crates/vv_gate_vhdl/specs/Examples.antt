-- One gate, y <= a and not b, with the ports a, b and y.
use Rattle.std.specs.Prelude.{true, false, List, [], ◌∷◌, Option, Some, None, codes}
use Rattle.vv_bits.specs.declared.nine.S9.{S9}
use Rattle.vv_bits.specs.declared.nine.S9.TheVariants.{Zero, One}
use Rattle.vv_gate.specs.Tree.{Ident, port, GateFile}
use Rattle.vv_gate.specs.declared.tree.Operator.TheVariants.{And}
use Rattle.vv_cycle.specs.Turns.{VState}
use Rattle.vv_cycle.specs.Rows.{Entry}

abbrev pub name_a : Ident
name_a = record { text = codes "a"; at = 0 }

abbrev pub name_b : Ident
name_b = record { text = codes "b"; at = 0 }

abbrev pub name_y : Ident
name_y = record { text = codes "y"; at = 0 }

abbrev pub one_gate : GateFile
one_gate = record { logic = record { text = codes "std_logic_1164"; at = 0 }; numeric = None; entity = record { text = codes "e"; at = 0 }; groups = record { idents = name_a ∷ name_b ∷ []; input = true } ∷ record { idents = name_y ∷ []; input = false } ∷ []; architecture = record { text = codes "r"; at = 0 }; of = record { text = codes "e"; at = 0 }; assignments = record { target = name_y; operator = And; terms = record { negated = false; operand = port name_a } ∷ record { negated = true; operand = port name_b } ∷ [] } ∷ [] }

-- a row that sets a to 1 and b to 0
abbrev pub one_row : List (List Entry)
one_row = (record { input = 0; bits = One ∷ [] } ∷ record { input = 1; bits = Zero ∷ [] } ∷ []) ∷ []

abbrev pub one_end : List S9
one_end = One ∷ Zero ∷ One ∷ []

abbrev pub values_of : Option VState → List S9
values_of None = []
values_of (Some s) = s.nets.values
