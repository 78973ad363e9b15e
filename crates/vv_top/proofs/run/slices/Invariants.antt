use Rattle.std.proofs.Common.{◌≡◌, map, take}
use Rattle.vv_trans.specs.Translation.{bytes_of}
use Rattle.vv_top.proofs.run.slices.Given as goal

-- the bytes of the files so far
abbrev pub invariant-loop-file : goal.invariant-loop-file
invariant-loop-file l = bytes_of l.slices.items ≡ map (λ file. file.items) (take l.file-index l.files)
