use Rattle.std.proofs.Common.{◌≡◌, length, map, replicate, sym, arith}
use Rattle.std.proofs.lemmas.List.{get_or-replicate, length-map, length-replicate}
use Rattle.vv_bits.specs.declared.nine.S9.TheVariants.{Dash}
use Rattle.vv_vectors.specs.Vectors.{cell_of}
use Rattle.vv_vectors.proofs.Places.{lies_written, vector_more, vector_all}
use Rattle.vv_vectors.proofs.Written.{written_start}
use Rattle.vv_vectors.proofs.writing.fill.Goals as goal

pub loop-k-init : goal.loop-k-init
loop-k-init c = sym (written_start c.args.cells.now c.args.to.first (map cell_of (replicate c.args.to.size c.args.value)))

pub write_bit-requires-clause-lies : goal.write_bit-requires-clause-lies
write_bit-requires-clause-lies c =
    let xs = replicate c.args.to.size c.args.value in
    let size : length xs ≡ c.args.to.size = length-replicate c.args.to.size c.args.value in
    lies_written c.args.cells.now c.loop-k.cells (map cell_of xs) c.args.to c.args.to c.loop-k.k c.loop-k.invariant
    (omega (arith, length-map xs cell_of, size, c.loop-k-test.true)) c.loop-k.auto.k-end c.requires c.requires

pub loop-k-preserved : goal.loop-k-preserved
loop-k-preserved c =
    let size = c.args.to.size in
    let value = c.args.value in
    vector_more c.args.cells.now c.loop-k.cells c.write_bit.new.cells c.args.to (replicate size value) c.loop-k.k value Dash c.requires
    (length-replicate size value) c.loop-k-test.true (get_or-replicate size c.loop-k.k value Dash c.loop-k-test.true)
    c.loop-k.invariant c.write_bit.ensures

pub returns : goal.returns
returns c =
    vector_all c.args.cells.now c.loop-k.cells c.args.to (replicate c.args.to.size c.args.value) c.loop-k.k
    (length-replicate c.args.to.size c.args.value) (omega (arith, c.loop-k-test.false, c.loop-k.auto.k-end)) c.loop-k.invariant
