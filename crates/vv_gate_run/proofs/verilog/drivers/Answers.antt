use Rattle.std.proofs.Common.{◌≡◌, ◌∷◌, [], length}
use Rattle.std.specs.Iterator.Adapters.{zip_first, zip_second}
use Rattle.std.specs.Prelude.{min}
use Rattle.std.specs.Slice.Iter.{iter_rest}
use Rattle.std.proofs.lemmas.Slice.Zip.{zip_end}
use Rattle.vv_bits.specs.declared.four.V4.{V4}
use Rattle.vv_gate_run.specs.Flat.{item_of}
use Rattle.vv_gate_run.proofs.Lists.{done}
use Rattle.vv_gate_run.proofs.Events.{drivers_end}
use Rattle.vv_gate_run.proofs.verilog.drivers.Goals as goal

pub returns : goal.returns
returns c =
    let items = c.args.flat.now.items.items in
    let first : iter_rest (zip_first c.into_iter-item-iterator.result) ≡ items = cc in
    let second : iter_rest (zip_second c.into_iter-item-iterator.result) ≡ c.args.values.now = cc in
    let n : length c.loop-item.yielded ≡ min (length items) (length c.args.values.now) =
    zip_end items c.args.values.now c.loop-item.yielded c.into_iter-item-iterator.result c.loop-item.item-iterator c.next.new.self c.next.result first second c.loop-item.yielded_by c.in-None.is c.next.ensures.steps in
    done c.loop-item.drivers.items _ _ (drivers_end item_of (λ (d : V4). d ∷ []) items c.args.values.now (length c.loop-item.yielded) c.args.object n) c.loop-item.invariant
