-- What contracts see of a file of gates as the program goes over it.
use Rattle.std.specs.Prelude.{ℕ, Bool, false, not, ◌&&◌, ◌||◌, List, [], ◌∷◌, map, Option, Some, None, cond}
use Rattle.vv_bits.specs.Resolution.{resolve_rule}
use Rattle.vv_bits.specs.declared.nine.S9.{S9}
use Rattle.vv_bits.specs.declared.nine.S9.TheVariants.{U}
use Rattle.vv_cycle.specs.Processes as cycle
use Rattle.vv_cycle.specs.Turns.{any_at}
use Rattle.vv_gate.specs.Tree as tree
use Rattle.vv_gate.specs.View.{ident_of, assignment_of}
use Rattle.vv_gate_vhdl.specs.Design.{is_port, gate_process, is_assigned, undriven, inputs_from}
use Rattle.vv_gate_run.specs.declared.vhdl.circuit.Circuit.{Circuit}
use Rattle.vv_gate_run.specs.declared.ports.Port.{Port}

abbrev pub port_of : Port → tree.Port
port_of p = record { ident = ident_of p.ident; input = p.input }

abbrev pub ports_in : Circuit → List tree.Port
ports_in c = map port_of c.ports.items

abbrev pub assignments_in : Circuit → List tree.Assignment
assignments_in c = map assignment_of c.assignments.now

-- the VHDL design of these ports and assignments
abbrev pub design_on : List tree.Port → List tree.Assignment → cycle.Design
design_on ports assignments = record {
  processes = map (gate_process ports) assignments;
  constants = undriven (is_assigned ports assignments) ports 0;
  initial = map (λ p. U) ports;
  inputs = inputs_from ports 0;
}

abbrev pub design_of : Circuit → cycle.Design
design_of c = design_on (ports_in c) (assignments_in c)

-- the net is an out port that no assignment targets
abbrev pub is_idle : List tree.Port → List tree.Assignment → ℕ → Bool
is_idle ports assignments k = is_port false ports k && not (is_assigned ports assignments k)

-- the resolution of the sources of net k, or v where it has none
abbrev pub resolved : cycle.Design → List cycle.Part → ℕ → S9 → S9
resolved d parts k v = cond (cycle.has_source d k) (resolve_rule (cycle.sources_of d parts k)) v

-- the process is there, and sensitive to an event
abbrev pub is_woken : Option cycle.Process → List Bool → Bool
is_woken None events = false
is_woken (Some p) events = any_at p.sensitive events

-- a part, ready too where its process is woken
abbrev pub woken_part : cycle.Part → Bool → cycle.Part
woken_part part b = record { ready = part.ready || b; drivers = part.drivers; variables = part.variables; clash = part.clash }

-- an input of one net
abbrev pub input_on : ℕ → cycle.Input
input_on k = record { class = cycle.Data; nets = k ∷ [] }
