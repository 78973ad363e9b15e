use Rattle.vv_trans.specs.Translation.{bytes_of}
use Rattle.vv_trans.proofs.Arms.{lexing_in_file, lexing_is_inside, parsing_in_file, parsing_is_inside}
use Rattle.vv_trans.proofs.Ways.{lexing_misread, parsing_misread, stands_translated}
use Rattle.vv_trans.proofs.translate.translate.Goals as goal

pub returns-in-Err-clause-refused : goal.returns-in-Err-clause-refused
returns-in-Err-clause-refused c = lexing_misread c.args.top.now (bytes_of c.args.files.now) c.in-Err.fault c.in-Err.ensures.refused

pub returns-in-Err-clause-file : goal.returns-in-Err-clause-file
returns-in-Err-clause-file c = lexing_in_file c.args.files.now c.in-Err.fault c.in-Err.ensures.refused

pub returns-in-Err-clause-inside : goal.returns-in-Err-clause-inside
returns-in-Err-clause-inside c = lexing_is_inside (bytes_of c.args.files.now) c.in-Err.fault c.in-Err.ensures.refused

pub returns-in-Err-parse_files-clause-refused : goal.returns-in-Err-parse_files-clause-refused
returns-in-Err-parse_files-clause-refused c = parsing_misread c.args.top.now (bytes_of c.args.files.now) c.in-Err-parse_files.fault c.in_default.ensures.lexed c.in-Err-parse_files.ensures.refused

pub returns-in-Err-parse_files-clause-file : goal.returns-in-Err-parse_files-clause-file
returns-in-Err-parse_files-clause-file c = parsing_in_file c.args.files.now c.in-Err-parse_files.fault c.in-Err-parse_files.ensures.refused

pub returns-in-Err-parse_files-clause-inside : goal.returns-in-Err-parse_files-clause-inside
returns-in-Err-parse_files-clause-inside c = parsing_is_inside (bytes_of c.args.files.now) c.in-Err-parse_files.fault c.in_default.ensures.lexed c.in-Err-parse_files.ensures.refused

pub returns-in-Ok-clause-translated : goal.returns-in-Ok-clause-translated
returns-in-Ok-clause-translated c =
    stands_translated c.args.top.now (bytes_of c.args.files.now) c.in-Ok.out.text c.in-Ok.out.map c.in_default.ensures.lexed c.in_default-parse_files.ensures.parsed c.in-Ok.ensures.stands
