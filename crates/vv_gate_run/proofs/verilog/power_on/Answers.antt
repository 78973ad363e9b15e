use Rattle.std.proofs.Common.{◌≡◌, ◌∷◌, [], true, map, length, ap, ◌∙◌, rules}
use Rattle.std.proofs.Math.ListN.{replicate}
use Rattle.vv_bits.specs.declared.four.V4.{V4}
use Rattle.vv_bits.specs.declared.four.V4.TheVariants.{X}
use Rattle.vv_events.specs.Rows.{all_start_drivers, start_active}
use Rattle.vv_gate_verilog.specs.Events.{events_in}
use Rattle.vv_gate_run.specs.Flat.{item_of}
use Rattle.vv_gate_run.proofs.Events.{same_state, drivers_x, all_active}
use Rattle.vv_gate_run.proofs.verilog.power_on.Goals as goal

pub returns : goal.returns
returns c =
    let items = c.args.flat.now.items.items in
    let n : c.len.result ≡ length items = search rules in
    let m : c.len-2.result ≡ length items = search rules in
    let drivers : map (λ (d : V4). d ∷ []) c.in_ok-drivers.drivers.items ≡ all_start_drivers (events_in (map item_of items)) =
    ap (map (λ (d : V4). d ∷ [])) (c.in_ok-drivers.ensures.items_if_clones_equal (λ y e. e) ∙ ap (λ k. replicate k X) n) ∙ drivers_x item_of items in
    let active : c.in_ok-active.active.items ≡ start_active (events_in (map item_of items)) =
    (c.in_ok-active.ensures.items_if_clones_equal (λ y e. e) ∙ ap (λ k. replicate k true) m) ∙ all_active item_of items in
    same_state _ _ _ _ _ _ c.in_ok-bits.ensures drivers active
