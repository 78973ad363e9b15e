-- What a shelf of files and the standard output tell: how many of their calls have failed.
use Rattle.std.specs.Prelude.{ℕ}
use Rattle.vv_base.specs.declared.files.FileShelf.{FileShelf}
use Rattle.vv_base.specs.declared.files.StdoutSink.{StdoutSink}

-- how many loads and saves have failed
abbrev pub shelf_faults : {R : Type 0} → FileShelf R → ℕ
shelf_faults shelf = shelf.faults

-- how many puts have failed
abbrev pub sink_faults : {R : Type 0} → StdoutSink R → ℕ
sink_faults sink = sink.faults
