-- What contracts see of a reader's place.
use Rattle.std.specs.Prelude.{◌≡◌, map, option_map, Option, Some, None, Result, Ok, Err}
use Rattle.std.specs.Global.{Box}
use Rattle.vv_gate.specs.View.{ident_of, group_of, term_of, file_of}
use Rattle.vv_gate_read.specs.Machine as machine
use Rattle.vv_gate_read.specs.declared.places.Context.{Context}
use Rattle.vv_gate_read.specs.declared.places.Ports.{Ports}
use Rattle.vv_gate_read.specs.declared.places.Chain.{Chain}
use Rattle.vv_gate_read.specs.declared.places.Place.{Place}
use Rattle.vv_gate_read.specs.declared.places.Place.TheVariants as place
use Rattle.vv_gate_read.specs.declared.places.State.{State}
use Rattle.vv_gate_read.specs.declared.places.Stop.{Stop}
use Rattle.vv_gate_read.specs.declared.places.Stop.TheVariants.{Misplaced, Memory}

abbrev pub context_of : Context → machine.Context
context_of c = record { logic = ident_of c.logic; numeric = option_map ident_of c.numeric }

abbrev pub read_ports : Box Ports → machine.Ports
read_ports p = record {
  context = context_of p.value.context;
  entity = ident_of p.value.entity;
  groups = map group_of p.value.groups.items;
  idents = map ident_of p.value.idents.items;
}

abbrev pub chain_of : Chain → machine.Chain
chain_of c = record { file = file_of c.file.value; target = ident_of c.target; operator = c.operator; terms = map term_of c.terms.items }

abbrev pub place_of : Place → machine.Place
place_of place.Logic = machine.at_logic
place_of (place.AfterLogic l) = machine.after_logic (ident_of l)
place_of (place.Numeric l) = machine.at_numeric (ident_of l)
place_of (place.Entity c) = machine.at_entity (context_of c)
place_of (place.Port p) = machine.at_port (read_ports p)
place_of (place.AfterPort p i) = machine.after_port (read_ports p) (ident_of i)
place_of (place.Mode p i) = machine.at_mode (read_ports p) (ident_of i)
place_of (place.AfterGroup p g) = machine.after_group (read_ports p) (group_of g)
place_of (place.Architecture p) = machine.at_architecture (read_ports p)
place_of (place.Of p i) = machine.at_of (read_ports p) (ident_of i)
place_of (place.Statement f) = machine.at_statement (file_of f.value)
place_of (place.Term c) = machine.at_term (chain_of c)
place_of (place.Operand c) = machine.at_operand (chain_of c)
place_of (place.AfterTerm c t) = machine.after_term (chain_of c) (term_of t)
place_of (place.Finish f) = machine.at_finish (file_of f.value)

abbrev pub state_of : State → machine.State
state_of s = record { expected = s.expected.now; place = place_of s.place }

-- what a token makes of a place: the state that the machine comes to, or a stop where it comes to none
abbrev pub Takes : Option machine.State → Result State Stop → Type 0
Takes next (Ok s) = next ≡ Some (state_of s)
Takes next (Err Misplaced) = next ≡ None
Takes next (Err Memory) = Unit {0}
