use Rattle.std.proofs.Common.{ℕ, List, [], map, arith}
use denote.Ref.{Bor}
use Rattle.vv_trans.specs.Translation.{bytes_of, lexing}
use Rattle.vv_vlex.specs.Elements.{lexeme_of}
use Rattle.vv_trans.proofs.Lexed.{passed, refused_here, all_passed}
use Rattle.vv_trans.proofs.translate.lex_files.Goals as goal

-- what an element is beyond the end
abbrev nothing : Bor (List ℕ)
nothing = record { ref_ptr = (0, 0); now = [] }

pub returns-in-Err-clause-refused : goal.returns-in-Err-clause-refused
returns-in-Err-clause-refused c =
    refused_here c.args.files.now c.loop-number.number nothing (lexing 0 (bytes_of c.args.files.now)) c.in-Err.fault c.loop-number-test.true
    c.in-Err.ensures.refused c.in-Err.ensures.file c.loop-number.invariant

pub loop-number-preserved : goal.loop-number-preserved
loop-number-preserved c =
    passed c.args.files.now c.loop-number.number nothing (map lexeme_of c.in_default.field-0.items) (lexing 0 (bytes_of c.args.files.now)) c.loop-number-test.true
    c.in_default.ensures.found c.loop-number.invariant

pub returns-clause-lexed : goal.returns-clause-lexed
returns-clause-lexed c = all_passed c.args.files.now c.loop-number.number (lexing 0 (bytes_of c.args.files.now)) (omega arith) c.loop-number.invariant
