use Rattle.std.proofs.Common.{◌≡◌, ◌++◌, ◌∷◌, [], get_or, map, arith}
use Rattle.std.proofs.lemmas.List.{map-append}
use Rattle.vv_base.specs.Outside.{Gives, Rose}
use Rattle.vv_top.proofs.Loaded.{nothing, one_more, load_failed}
use Rattle.vv_top.proofs.loads.load_all.Goals as goal

pub returns-in-Err-Failed-clause-cause : goal.returns-in-Err-Failed-clause-cause
returns-in-Err-Failed-clause-cause g c =
    let name = (get_or c.args.names.now c.loop-name.name-index nothing).now in
    let rose : Rose (g.D.Shelf.failed_loads c.loop-name.shelf name) (g.D.Shelf.failed_loads c.load_one.new.shelf name) = grind arith in
    load_failed (g.D.Shelf.held c.args.shelf.now) (g.D.Shelf.failed_loads c.args.shelf.now) (g.D.Shelf.failed_loads c.loop-name.shelf) (g.D.Shelf.failed_loads c.load_one.new.shelf)
    c.args.names.now c.len.result c.loop-name.name-index (map (λ file. file.items) c.loop-name.files.items) (grind arith) c.loop-name-test.true
    c.loop-name.invariant.given c.loop-name.invariant.loads rose

-- the load gave one more file
pub loop-name-preserved : goal.loop-name-preserved
loop-name-preserved g c = record {
  given =
      let pushed : c.push.new.self.items ≡ c.loop-name.files.items ++ c.in-Ok.file ∷ [] = grind arith in
      let here : Gives (g.D.Shelf.held c.args.shelf.now (get_or c.args.names.now c.loop-name.name-index nothing).now) c.in-Ok.file.items = grind (arith, c.loop-name.invariant.held) in
      rw (pushed, map-append (λ file. file.items) c.loop-name.files.items (c.in-Ok.file ∷ []))
      (one_more (g.D.Shelf.held c.args.shelf.now) c.args.names.now c.loop-name.name-index (map (λ file. file.items) c.loop-name.files.items) c.in-Ok.file.items c.loop-name-test.true
      c.loop-name.invariant.given here);
  count = grind arith;
  held = grind arith;
  loads = grind arith;
  saves = grind arith;
}
