-- From each place some symbols lead to the end of a file, so what was read goes on.
use Rattle.std.proofs.Common.{◌≡◌, List, [], ◌∷◌, ◌++◌, map, flat_map, Some, codes, refl, sym, ◌∙◌, append_assoc, append-nil}
use Rattle.vv_gate.specs.Tree.{Ident, GateFile}
use Rattle.vv_gate.specs.declared.token.Mark.TheVariants as mk
use Rattle.vv_gate_lex.specs.Symbols.{Symbol, name, mark, finish, is_mark}
use Rattle.vv_gate_read.specs.Grammar.{joined, spelled_assignment, spelled_group, spelled_context, spelled_entity, spelled_architecture, spelled, IsViable}
use Rattle.vv_gate_read.specs.Machine.{Place, at_logic, after_logic, at_numeric, at_entity, at_port, after_port, at_mode, after_group, at_architecture, at_of, at_statement, at_term, at_operand, after_term, at_finish, done, State}
use Rattle.vv_gate_read.proofs.Runs.{at, run, run-expected, Reached}
use Rattle.vv_gate_read.proofs.Advance.{over}

-- some name
abbrev a : Ident
a = record { text = codes "a"; at = 0 }

abbrev end_file : List Symbol
end_file = mark mk.End ∷ mark mk.Semicolon ∷ finish ∷ []

abbrev end_statement : List Symbol
end_statement = mark mk.Semicolon ∷ end_file

abbrev end_architecture : List Symbol
end_architecture = name a ∷ mark mk.Of ∷ name a ∷ mark mk.Is ∷ mark mk.Begin ∷ end_file

abbrev end_group : List Symbol
end_group = mark mk.Close ∷ mark mk.Semicolon ∷ mark mk.End ∷ mark mk.Semicolon ∷ mark mk.Architecture ∷ end_architecture

abbrev end_port : List Symbol
end_port = mark mk.Colon ∷ mark mk.In ∷ mark mk.StdLogic ∷ end_group

abbrev end_entity : List Symbol
end_entity = name a ∷ mark mk.Is ∷ mark mk.Port ∷ mark mk.Open ∷ name a ∷ end_port

-- the shortest way from a place to the end
abbrev shortest : Place → List Symbol
shortest at_logic = name (record { text = codes "std_logic_1164"; at = 0 }) ∷ mark mk.Dot ∷ mark mk.All ∷ mark mk.Semicolon ∷ mark mk.Entity ∷ end_entity
shortest (after_logic l) = mark mk.Entity ∷ end_entity
shortest (at_numeric l) = name (record { text = codes "numeric_std"; at = 0 }) ∷ mark mk.Dot ∷ mark mk.All ∷ mark mk.Semicolon ∷ mark mk.Entity ∷ end_entity
shortest (at_entity c) = end_entity
shortest (at_port p) = name a ∷ end_port
shortest (after_port p i) = end_port
shortest (at_mode p i) = mark mk.In ∷ mark mk.StdLogic ∷ end_group
shortest (after_group p g) = end_group
shortest (at_architecture p) = end_architecture
shortest (at_of p i) = name a ∷ mark mk.Is ∷ mark mk.Begin ∷ end_file
shortest (at_statement f) = end_file
shortest (at_term c) = mark mk.Zero ∷ end_statement
shortest (at_operand c) = mark mk.Zero ∷ end_statement
shortest (after_term c t) = end_statement
shortest (at_finish f) = finish ∷ []
shortest (done f) = []

ways : (p : Place) → (f : GateFile) × (run (at p) (shortest p) ≡ Some (at (done f)))
unfolding is_mark
ways at_logic = (_, refl)
ways (after_logic l) = (_, refl)
ways (at_numeric l) = (_, refl)
ways (at_entity c) = (_, refl)
ways (at_port p) = (_, refl)
ways (after_port p i) = (_, refl)
ways (at_mode p i) = (_, refl)
ways (after_group p g) = (_, refl)
ways (at_architecture p) = (_, refl)
ways (at_of p i) = (_, refl)
ways (at_statement f) = (_, refl)
ways (at_term c) = (_, refl)
ways (at_operand c) = (_, refl)
ways (after_term c t) = (_, refl)
ways (at_finish f) = (_, refl)
ways (done f) = (_, refl)

regrouped : (c e g r s l : List Symbol) → ((((c ++ e) ++ g) ++ r) ++ s) ++ l ≡ c ++ (e ++ (g ++ (r ++ (s ++ l))))
regrouped c e g r s l = simp append_assoc

-- at the end the whole file was read
pub all_read : (f : GateFile) (read : List Symbol) → Reached read (at (done f)) → read ≡ spelled f
all_read f read r =
    sym (append-nil read) ∙ (r.text
    ∙ regrouped (spelled_context f.logic f.numeric) (spelled_entity f.entity) (joined mk.Semicolon spelled_group f.groups) (spelled_architecture f.architecture f.of) (flat_map spelled_assignment f.assignments) end_file)

-- what was read goes on
pub goes_on : (read : List Symbol) (s : State) → Reached read s → IsViable read
goes_on read s r =
    let way = ways s.place in
    let more = map mark s.expected ++ shortest s.place in
    let end : run s more ≡ Some (at (done way.0)) = run-expected s.expected s.place (shortest s.place) ∙ way.1 in
    let all = over more read s (at (done way.0)) end r in
    record { file = way.0; more = more; whole = all.good; spells = all_read way.0 (read ++ more) all }
