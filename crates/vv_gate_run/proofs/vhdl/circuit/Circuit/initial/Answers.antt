use Rattle.std.proofs.Common.{◌≡◌, ap, ◌∙◌, length, rules}
use Rattle.std.proofs.Math.ListN.{replicate}
use Rattle.vv_bits.specs.declared.nine.S9.TheVariants.{U}
use Rattle.vv_gate_run.specs.Circuit.{port_of}
use Rattle.vv_gate_run.proofs.Lists.{constant_map}
use Rattle.vv_gate_run.proofs.vhdl.circuit.Circuit.initial.Goals as goal

pub returns : goal.returns
returns c =
    let ports = c.args.self.now.ports.items in
    let n : c.len.result ≡ length ports = search rules in
    c.in_ok-values.ensures.items_if_clones_equal (λ y e. e) ∙ (ap (λ k. replicate k U) n ∙ constant_map port_of U ports)
