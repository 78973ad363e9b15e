-- What a shelf and a sink in memory tell. Their calls are numbered from 0, and some of them are to fail.
use Rattle.std.specs.Prelude.{◌≡◌, ℕ, ◌+◌, ◌-◌, ◌^◌, min, List, Contains, Option, Some, option_map}
use Rattle.std.specs.BTreeMap.{get_by_text}
use Rattle.vv_base.specs.declared.memory.MemShelf.{MemShelf}
use Rattle.vv_base.specs.declared.memory.MemSink.{MemSink}

-- of each name all is told: its bytes, or that it is absent
abbrev pub content_of : MemShelf → List ℕ → Option (Option (List ℕ))
content_of shelf name = Some (option_map (λ bytes. bytes.items) (get_by_text shelf.files name))

-- one count stands for the failed loads of every name
abbrev pub failed_loads_of : MemShelf → List ℕ → ℕ
failed_loads_of shelf name = shelf.failed_loads

-- one count stands for the failed saves of every name
abbrev pub failed_saves_of : MemShelf → List ℕ → ℕ
failed_saves_of shelf name = shelf.failed_saves

-- how many calls of load and save were made
abbrev pub shelf_calls : MemShelf → ℕ
shelf_calls shelf = shelf.calls

-- the numbers of the calls that are to fail
abbrev pub shelf_fails : MemShelf → List ℕ
shelf_fails shelf = shelf.fails.items

-- the next call of load or save is to fail
abbrev pub IsShelfFailing : MemShelf → Type 0
IsShelfFailing shelf = Contains shelf.fails.items shelf.calls

-- one more call was made, and the same calls are to fail. The count ends at 2 ^ 64 - 1.
pub record ShelfCalled (old new : MemShelf) : Type 0 where
  pub calls : shelf_calls new ≡ min (shelf_calls old + 1) (2 ^ 64 - 1)
  pub fails : shelf_fails new ≡ shelf_fails old

-- no call was made, and the same calls are to fail
pub record ShelfUncalled (old new : MemShelf) : Type 0 where
  pub calls : shelf_calls new ≡ shelf_calls old
  pub fails : shelf_fails new ≡ shelf_fails old

-- no count of faults changed
pub record ShelfUnfailed (old new : MemShelf) : Type 0 where
  pub loads : (name : List ℕ) → failed_loads_of new name ≡ failed_loads_of old name
  pub saves : (name : List ℕ) → failed_saves_of new name ≡ failed_saves_of old name

-- all that was put
abbrev pub put_so_far : MemSink → Option (List ℕ)
put_so_far sink = Some sink.bytes.items

-- how many puts have failed
abbrev pub faults_of : MemSink → ℕ
faults_of sink = sink.faults

-- how many puts were made
abbrev pub sink_calls : MemSink → ℕ
sink_calls sink = sink.calls

-- the numbers of the puts that are to fail
abbrev pub sink_fails : MemSink → List ℕ
sink_fails sink = sink.fails.items

-- the next put is to fail
abbrev pub IsSinkFailing : MemSink → Type 0
IsSinkFailing sink = Contains sink.fails.items sink.calls

-- one more put was made, and the same puts are to fail. The count ends at 2 ^ 64 - 1.
pub record SinkCalled (old new : MemSink) : Type 0 where
  pub calls : sink_calls new ≡ min (sink_calls old + 1) (2 ^ 64 - 1)
  pub fails : sink_fails new ≡ sink_fails old

-- no put was made, and the same puts are to fail
pub record SinkUncalled (old new : MemSink) : Type 0 where
  pub calls : sink_calls new ≡ sink_calls old
  pub fails : sink_fails new ≡ sink_fails old
