-- The broken places of a file of gates, in the order of the text.
use Rattle.std.specs.Prelude.{ℕ, Bool, true, false, not, List, [], ◌∷◌, ◌++◌, map, filter, flat_map, Option, Some, None}
use Rattle.std.specs.List.{list_any}
use Rattle.std.specs.Str.{bytes_eq}
use Rattle.vv_gate.specs.Tree.{Ident, Port, Operand, low, high, port, Term, Assignment, GateFile, ports_of}
use Rattle.vv_gate.specs.Conditions.{name_of}

abbrev pub first : List ℕ → Option ℕ
first [] = None
first (at ∷ more) = Some at

abbrev pub place_if : Bool → ℕ → List ℕ
place_if true at = at ∷ []
place_if false at = []

abbrev pub is_among : List ℕ → List (List ℕ) → Bool
is_among name names = list_any (bytes_eq name) names

abbrev pub port_of : Bool → Ident → Port
port_of input i = record { ident = i; input = input }

-- the names of the in ports
abbrev pub inputs_of : List Port → List (List ℕ)
inputs_of ports = map name_of (filter (λ p. p.input) ports)

-- the names of the out ports
abbrev pub outputs_of : List Port → List (List ℕ)
outputs_of ports = map name_of (filter (λ p. not p.input) ports)

-- the ports whose name stood before, or is one of the names
abbrev pub repeated_ports : List (List ℕ) → List Port → List ℕ
repeated_ports names [] = []
repeated_ports names (p ∷ more) = place_if (is_among p.ident.text names) p.ident.at ++ repeated_ports (p.ident.text ∷ names) more

-- an operand that isn't one of the inputs
abbrev pub unknown_operand : List (List ℕ) → Operand → List ℕ
unknown_operand inputs low = []
unknown_operand inputs high = []
unknown_operand inputs (port i) = place_if (not (is_among i.text inputs)) i.at

abbrev pub unknown_term : List (List ℕ) → Term → List ℕ
unknown_term inputs t = unknown_operand inputs t.operand

abbrev pub without : List ℕ → List (List ℕ) → List (List ℕ)
without name names = filter (λ n. not (bytes_eq name n)) names

-- each target that isn't one of the outputs that are left, and each operand that isn't one of the inputs
abbrev pub broken_assignments : List (List ℕ) → List (List ℕ) → List Assignment → List ℕ
broken_assignments inputs outputs [] = []
broken_assignments inputs outputs (a ∷ more) =
    place_if (not (is_among a.target.text outputs)) a.target.at
    ++ (flat_map (unknown_term inputs) a.terms ++ broken_assignments inputs (without a.target.text outputs) more)

abbrev pub broken_places : List ℕ → GateFile → List ℕ
broken_places top f =
    place_if (not (bytes_eq top f.entity.text)) 0
    ++ (repeated_ports [] (ports_of f)
    ++ (place_if (not (bytes_eq f.of.text f.entity.text)) f.of.at
    ++ broken_assignments (inputs_of (ports_of f)) (outputs_of (ports_of f)) f.assignments))
