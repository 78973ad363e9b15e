use Rattle.std.proofs.Common.{◌<◌, length, refl}
use Rattle.std.proofs.lemmas.List.{length-map}
use Rattle.vv_grammar.specs.Terminals.{kind_of, terminals_of}
use Rattle.vv_grammar_laws.specs.Starts.{file}
use Rattle.vv_reading.proofs.Told.{refused_as, left_over}
use Rattle.vv_reading.proofs.reading.read_file.Goals as goal

pub returns-then-next-tokens-clause-refused : goal.returns-then-next-tokens-clause-refused
returns-then-next-tokens-clause-refused c =
    let ts = c.args.tokens.now in
    let told = c.in-Ok.ensures.read file refl in
    let lt : c.in-Ok.next < length (terminals_of ts) = rw (length-map ts (λ t. kind_of t.kind)) c.if-next-tokens.true in
    refused_as c.args.edition file ts 0 c.in-Ok.next c.place-span.result c.place-span.ensures
    (left_over c.args.edition (terminals_of ts) 0 c.in-Ok.next told.events told.read lt)
