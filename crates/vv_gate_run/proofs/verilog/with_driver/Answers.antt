use Rattle.std.proofs.Common.{◌∷◌, [], List, map, ap, ◌∙◌, slice_set}
use Rattle.std.proofs.lemmas.List.{map-set}
use Rattle.vv_bits.specs.declared.four.V4.{V4}
use Rattle.vv_gate_run.proofs.Events.{same_state}
use Rattle.vv_gate_run.proofs.verilog.with_driver.Goals as goal

pub returns : goal.returns
returns c =
    let s = c.args.state.now in
    let single = λ (d : V4). d ∷ [] in
    same_state _ _ _ _ _ _
    (c.in_ok-from_slice.ensures.items ∙ c.deref.ensures.value)
    (ap (map single) (c.in_ok-with_bit.ensures ∙ ap (λ (l : List V4). slice_set l c.args.item c.args.value) c.deref-2.ensures.value) ∙ map-set single s.drivers.items c.args.item c.args.value)
    (c.in_ok-from_slice-2.ensures.items ∙ c.deref-3.ensures.value)
