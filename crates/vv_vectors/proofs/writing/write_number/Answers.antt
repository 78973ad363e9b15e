use Rattle.std.proofs.Common.{◌≡◌, length, map, sym, ◌∙◌, arith}
use Rattle.std.proofs.lemmas.List.{length-map}
use Rattle.vv_bits.specs.declared.nine.S9.TheVariants.{Dash}
use Rattle.vv_types.specs.Number.{vector_of}
use Rattle.vv_types.proofs.Numbers.{length-vector_of}
use Rattle.vv_vectors.specs.Vectors.{cell_of}
use Rattle.vv_vectors.proofs.Places.{get_or-vector_of, lies_written, vector_more, vector_all}
use Rattle.vv_vectors.proofs.Written.{written_start}
use Rattle.vv_vectors.proofs.writing.write_number.Goals as goal

pub loop-k-init : goal.loop-k-init
loop-k-init c = sym (written_start c.args.cells.now c.args.to.first (map cell_of (vector_of c.args.to.size c.args.n)))

pub write_bit-requires-clause-lies : goal.write_bit-requires-clause-lies
write_bit-requires-clause-lies c =
    let xs = vector_of c.args.to.size c.args.n in
    let size : length xs ≡ c.args.to.size = length-vector_of c.args.to.size c.args.n in
    lies_written c.args.cells.now c.loop-k.cells (map cell_of xs) c.args.to c.args.to c.loop-k.k c.loop-k.invariant
    (omega (arith, length-map xs cell_of, size, c.loop-k-test.true)) c.loop-k.auto.k-end c.requires.lies c.requires.lies

pub loop-k-preserved : goal.loop-k-preserved
loop-k-preserved c =
    let size = c.args.to.size in
    let n = c.args.n in
    vector_more c.args.cells.now c.loop-k.cells c.write_bit.new.cells c.args.to (vector_of size n) c.loop-k.k c.digit_of.result Dash c.requires.lies
    (length-vector_of size n) c.loop-k-test.true
    (get_or-vector_of size n c.loop-k.k Dash c.loop-k-test.true ∙ sym c.digit_of.ensures)
    c.loop-k.invariant c.write_bit.ensures

pub returns : goal.returns
returns c =
    vector_all c.args.cells.now c.loop-k.cells c.args.to (vector_of c.args.to.size c.args.n) c.loop-k.k
    (length-vector_of c.args.to.size c.args.n) (omega (arith, c.loop-k-test.false, c.loop-k.auto.k-end)) c.loop-k.invariant
