use Rattle.std.proofs.Common.{ap, ◌∙◌, sym, ◌++◌, ◌∷◌, [], true, false, List, map}
use Rattle.std.proofs.lemmas.List.{append-nil}
use Rattle.vv_bits.specs.declared.nine.S9.{S9}
use Rattle.vv_bits.specs.declared.nine.S9.TheVariants.{U}
use Rattle.vv_gate_run.specs.Circuit.{ports_in, assignments_in}
use Rattle.vv_gate_run.specs.Vhdl.{part_of}
use Rattle.vv_gate_run.proofs.Sources.{sources_are}
use Rattle.vv_gate_run.proofs.vhdl.circuit.Circuit.sources.Goals as goal
use Rattle.vv_gate_run.proofs.vhdl.circuit.Circuit.sources.Goals.{then-is_idle+in_ok-push, else-is_idle}

pub returns : goal.returns
returns c =
    let s = c.args.self.now in
    elim c.if-is_idle.branch [
      | then-is_idle+in_ok-push w ↦ ap (λ v. v.items) w.sources-is ∙ (w.in_ok-push.ensures.items ∙ (ap (λ (l : List S9). l ++ U ∷ []) c.in_ok-sources.ensures
          ∙ sym (sources_are (ports_in s) (assignments_in s) (map part_of c.args.parts.now) c.args.net true (sym w.if-is_idle.true ∙ c.is_idle.ensures))))
      | else-is_idle w ↦ ap (λ v. v.items) w.sources-is ∙ (c.in_ok-sources.ensures ∙ (sym (append-nil _)
          ∙ sym (sources_are (ports_in s) (assignments_in s) (map part_of c.args.parts.now) c.args.net false (sym w.if-is_idle.false ∙ c.is_idle.ensures))))
    ]
