-- What reading a file answers.
use Rattle.std.specs.Prelude.{◌≡◌, ◌≤◌, ℕ, List, Result, Ok, Err}
use Rattle.vv_gate.specs.Tree as tree
use Rattle.vv_gate.specs.View.{file_of}
use Rattle.vv_gate.specs.Whole.{IsPlaced}
use Rattle.vv_gate.specs.declared.tree.GateFile.{GateFile}
use Rattle.vv_gate_lex.specs.Symbols.{Token}
use Rattle.vv_gate_read.specs.Grammar.{IsTextOf, IsMisplaced}
use Rattle.vv_gate_read.specs.declared.reader.ReadFault.{ReadFault}
use Rattle.vv_gate_read.specs.declared.reader.ReadFault.TheVariants.{Misplaced, Memory}

-- the file is a text of the grammar: it has this tree, and no other one
pub record IsReading (f : tree.GateFile) (ts : List Token) : Type 0 where
  pub text : IsTextOf f ts
  pub only : (g : tree.GateFile) → IsTextOf g ts → g ≡ f
  pub placed : IsPlaced f

abbrev pub IsAnswer : List Token → Result GateFile ReadFault → Type 0
IsAnswer ts (Ok f) = IsReading (file_of f) ts
IsAnswer ts (Err (Misplaced at)) = IsMisplaced ts at
IsAnswer ts (Err Memory) = Unit {0}

-- a refusal's offset lies in the file or at its end
abbrev pub IsWithin : ℕ → ReadFault → Type 0
IsWithin n (Misplaced at) = at ≤ n
IsWithin n Memory = Unit {0}
