use Rattle.std.proofs.Common.{◌≡◌, ◌<◌, ap, ◌∙◌, sym, false, Bool, List, length, map, slice_index_or, arith, rules, true≢false}
use Rattle.std.proofs.lemmas.List.{length-map}
use Rattle.vv_gate_verilog.specs.Events.{events_in}
use Rattle.vv_gate_run.specs.Flat.{item_of}
use Rattle.vv_gate_run.proofs.Events.{events_length}
use Rattle.vv_gate_run.proofs.verilog.can_step.Goals as goal

pub returns-then-item-len : goal.returns-then-item-len
returns-then-item-len c =
    let items = c.args.flat.now.items.items in
    let n : c.len.result ≡ length items = search rules in
    let m : length (events_in (map item_of items)) ≡ length items = events_length (map item_of items) ∙ length-map items item_of in
    (λ t. absurd (true≢false (sym t)), λ h. absurd (omega (arith, n, m, h.0)))

pub returns : goal.returns
returns c =
    let items = c.args.flat.now.items.items in
    let n : c.len.result ≡ length items = search rules in
    let m : length (events_in (map item_of items)) ≡ length items = events_length (map item_of items) ∙ length-map items item_of in
    let inside : c.args.item < length (events_in (map item_of items)) = omega (arith, n, m) in
    let set : c.is_set.result ≡ slice_index_or c.args.state.now.active.items c.args.item false = c.is_set.ensures ∙ ap (λ (l : List Bool). slice_index_or l c.args.item false) c.deref.ensures.value in
    (λ t. (inside, sym set ∙ t), λ h. set ∙ h.1)
