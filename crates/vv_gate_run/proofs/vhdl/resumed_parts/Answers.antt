use Rattle.std.proofs.Common.{◌≡◌, ◌∷◌, [], map, Some, false, ap, ◌∙◌, sym, List, slice_set}
use Rattle.vv_bits.specs.declared.nine.S9.{S9}
use Rattle.vv_gate.specs.View.{assignment_of}
use Rattle.vv_gate_vhdl.specs.Design.{gate_process, assigned_value}
use Rattle.vv_gate_run.specs.Circuit.{ports_in, design_of}
use Rattle.vv_gate_run.specs.Vhdl.{part_of, state_of}
use Rattle.vv_gate_run.specs.declared.vhdl.Part.{Part}
use Rattle.vv_gate_run.proofs.Lists.{some_twice}
use Rattle.vv_gate_run.proofs.Turns.{resumed_there}
use Rattle.vv_gate_run.proofs.vhdl.resumed_parts.Goals as goal

pub returns : goal.returns
returns c =
    let circuit = c.args.circuit.now in
    let s = c.args.state.now in
    let i = c.args.process in
    let a = assignment_of c.in-Some.assignment.now in
    let h = c.in-Some.ensures.lookup in
    let there = some_twice (gate_process (ports_in circuit)) assignment_of circuit.assignments.now i c.in-Some.assignment.now h.3.0 h.1 in
    let driver : c.assigned_value-driver.result ≡ assigned_value (ports_in circuit) a s.nets.values.items = cc in
    let new : Part = record { ready = false; driver = c.assigned_value-driver.result } in
    let parts : c.in_ok-parts.parts.items ≡ slice_set s.parts.items i new = c.in_ok-parts.ensures ∙ ap (λ (l : List Part). slice_set l i new) c.deref-4.ensures.value in
    resumed_there (design_of circuit) s i (gate_process (ports_in circuit) a) new there
    (λ q. ap (λ (v : S9). Some (record { ready = false; drivers = v ∷ []; variables = []; clash = false })) (sym driver))
    ∙ ap (λ (l : List Part). Some (record { nets = (state_of s).nets; parts = map part_of l })) (sym parts)
