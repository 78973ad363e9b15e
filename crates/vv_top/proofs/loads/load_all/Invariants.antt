use Rattle.std.proofs.Common.{◌≡◌, length, map, take}
use Rattle.vv_base.specs.Outside.{KeepsAll, NoneFell}
use Rattle.vv_trans.specs.Translation.{bytes_of}
use Rattle.vv_top.specs.Loads.{GiveAll}
use Rattle.vv_top.proofs.loads.load_all.Given as goal

-- the files of the names so far; no file changed and no count fell
abbrev pub invariant-loop-name : goal.invariant-loop-name
invariant-loop-name g l = record {
  given : GiveAll (g.D.Shelf.held l.fn.shelf) (take l.name-index (bytes_of l.names)) (map (λ file. file.items) l.files.items);
  count : length l.files.items ≡ l.name-index;
  held : KeepsAll (g.D.Shelf.held l.fn.shelf) (g.D.Shelf.held l.shelf);
  loads : NoneFell (g.D.Shelf.failed_loads l.fn.shelf) (g.D.Shelf.failed_loads l.shelf);
  saves : NoneFell (g.D.Shelf.failed_saves l.fn.shelf) (g.D.Shelf.failed_saves l.shelf);
}
