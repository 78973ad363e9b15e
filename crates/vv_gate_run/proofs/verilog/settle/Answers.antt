use Rattle.std.proofs.Common.{◌≡◌, ◌∙◌, sym, length, refl, rules}
use Rattle.std.proofs.lemmas.List.{length-map}
use Rattle.vv_gate_run.specs.Flat.{item_of, flat_of}
use Rattle.vv_gate_run.specs.Verilog.{state_of}
use Rattle.vv_gate_run.proofs.Few.{ends}
use Rattle.vv_gate_run.proofs.verilog.settle.Goals as goal

pub returns-clause-ends : goal.returns-clause-ends
returns-clause-ends c =
    let items = c.args.flat.now.items.items in
    let n : c.len.result ≡ length items = search rules in
    ends (flat_of c.args.flat.now) (state_of c.args.start) c.len.result c.saturating_add.result c.saturating_mul-most.result c.run.result (n ∙ sym (length-map items item_of)) c.saturating_add.ensures c.saturating_mul-most.ensures refl c.run.ensures.endless
