use Rattle.std.proofs.Common.{◌≡◌, length}
use Rattle.std.specs.Iterator.Adapters.{zip_first, zip_second}
use Rattle.std.specs.Prelude.{min}
use Rattle.std.specs.Slice.Iter.{iter_rest}
use Rattle.std.proofs.lemmas.Slice.Zip.{zip_end}
use Rattle.vv_gate_run.proofs.Lists.{done}
use Rattle.vv_gate_run.proofs.Sources.{changes_end}
use Rattle.vv_gate_run.proofs.vhdl.signals.changes.Goals as goal

pub returns : goal.returns
returns c =
    let first : iter_rest (zip_first c.into_iter-before-iterator.result) ≡ c.args.old.now = cc in
    let second : iter_rest (zip_second c.into_iter-before-iterator.result) ≡ c.args.new.now = cc in
    let n : length c.loop-before.yielded ≡ min (length c.args.old.now) (length c.args.new.now) =
    zip_end c.args.old.now c.args.new.now c.loop-before.yielded c.into_iter-before-iterator.result c.loop-before.before-iterator c.next.new.self c.next.result first second c.loop-before.yielded_by c.in-None.is c.next.ensures.steps in
    done c.loop-before.events.items _ _ (changes_end c.args.old.now c.args.new.now (length c.loop-before.yielded) n) c.loop-before.invariant
