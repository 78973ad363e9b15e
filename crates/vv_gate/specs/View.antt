-- What contracts see of a tree in the program: the texts, and not where they lie.
use Rattle.std.specs.Prelude.{map, option_map}
use Rattle.vv_gate.specs.Tree as tree
use Rattle.vv_gate.specs.declared.tree.Ident.{Ident}
use Rattle.vv_gate.specs.declared.tree.Group.{Group}
use Rattle.vv_gate.specs.declared.tree.Operand.{Operand}
use Rattle.vv_gate.specs.declared.tree.Operand.TheVariants as operand
use Rattle.vv_gate.specs.declared.tree.Term.{Term}
use Rattle.vv_gate.specs.declared.tree.Assignment.{Assignment}
use Rattle.vv_gate.specs.declared.tree.GateFile.{GateFile}

abbrev pub ident_of : Ident → tree.Ident
ident_of i = record { text = i.text.now; at = i.at }

abbrev pub group_of : Group → tree.Group
group_of g = record { idents = map ident_of g.idents.items; input = g.input }

abbrev pub operand_of : Operand → tree.Operand
operand_of operand.Low = tree.low
operand_of operand.High = tree.high
operand_of (operand.Port i) = tree.port (ident_of i)

abbrev pub term_of : Term → tree.Term
term_of t = record { negated = t.negated; operand = operand_of t.operand }

abbrev pub assignment_of : Assignment → tree.Assignment
assignment_of a = record { target = ident_of a.target; operator = a.operator; terms = map term_of a.terms.items }

abbrev pub file_of : GateFile → tree.GateFile
file_of f = record {
  logic = ident_of f.logic;
  numeric = option_map ident_of f.numeric;
  entity = ident_of f.entity;
  groups = map group_of f.groups.items;
  architecture = ident_of f.architecture;
  of = ident_of f.of;
  assignments = map assignment_of f.assignments.items;
}
