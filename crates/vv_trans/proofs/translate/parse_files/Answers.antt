use Rattle.std.proofs.Common.{ℕ, List, [], arith}
use denote.Ref.{Bor}
use Rattle.vv_trans.specs.Translation.{bytes_of, parsing}
use Rattle.vv_trans.proofs.Parsed.{passed, refused_here, all_passed}
use Rattle.vv_trans.proofs.translate.parse_files.Goals as goal

-- what an element is beyond the end
abbrev nothing : Bor (List ℕ)
nothing = record { ref_ptr = (0, 0); now = [] }

pub returns-in-Err-clause-refused : goal.returns-in-Err-clause-refused
returns-in-Err-clause-refused c =
    refused_here c.args.files.now c.loop-number.number nothing (parsing 0 (bytes_of c.args.files.now)) c.in-Err.fault c.loop-number-test.true
    c.in-Err.ensures.refused c.in-Err.ensures.file c.loop-number.invariant

pub loop-number-preserved : goal.loop-number-preserved
loop-number-preserved c =
    passed c.args.files.now c.loop-number.number nothing (parsing 0 (bytes_of c.args.files.now)) c.loop-number-test.true
    c.in_default.ensures.passed c.loop-number.invariant

pub returns-clause-parsed : goal.returns-clause-parsed
returns-clause-parsed c = all_passed c.args.files.now c.loop-number.number (parsing 0 (bytes_of c.args.files.now)) (omega arith) c.loop-number.invariant
