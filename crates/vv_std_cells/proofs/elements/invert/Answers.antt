use Rattle.std.proofs.Common.{◌≡◌, ◌<◌, length, map, ap, sym, ◌∙◌, arith, get_or}
use Rattle.std.proofs.lemmas.List.{get_or-map, length-map}
use Rattle.vv_bits.specs.declared.nine.S9.TheVariants.{Dash}
use Rattle.vv_bits.specs.Nine.{not_rule}
use Rattle.vv_vectors.specs.Vectors.{cell_of, vector_at}
use Rattle.vv_vectors.proofs.Places.{length-vector_at, vector_more, vector_all}
use Rattle.vv_vectors.proofs.Written.{written_start}
use Rattle.vv_std_cells.proofs.Reading.{length_of_vector_kept, lies_while_written, read_apart}
use Rattle.vv_std_cells.proofs.elements.invert.Goals as goal

pub loop-k-init : goal.loop-k-init
loop-k-init c = sym (written_start c.args.cells.now c.args.to.first (map cell_of (map not_rule (vector_at c.args.cells.now c.args.a))))

pub bit-requires-clause-lies : goal.bit-requires-clause-lies
bit-requires-clause-lies c =
    let old = c.args.cells.now in
    let xs = vector_at old c.args.a in
    let count : length xs ≡ c.args.to.size = length-vector_at old c.args.a (omega (arith, c.requires.a)) ∙ c.requires.size in
    lies_while_written old c.loop-k.cells (map not_rule xs) c.args.a c.args.to c.loop-k.k c.loop-k.invariant c.requires.to c.requires.a (length-map xs not_rule ∙ count) c.loop-k.auto.k-end

pub write_bit-requires-clause-lies : goal.write_bit-requires-clause-lies
write_bit-requires-clause-lies c =
    let old = c.args.cells.now in
    let xs = vector_at old c.args.a in
    let count : length xs ≡ c.args.to.size = length-vector_at old c.args.a (omega (arith, c.requires.a)) ∙ c.requires.size in
    lies_while_written old c.loop-k.cells (map not_rule xs) c.args.to c.args.to c.loop-k.k c.loop-k.invariant c.requires.to c.requires.to (length-map xs not_rule ∙ count) c.loop-k.auto.k-end

pub loop-k-preserved : goal.loop-k-preserved
loop-k-preserved c =
    let old = c.args.cells.now in
    let k = c.loop-k.k in
    let to = c.args.to in
    let xs = vector_at old c.args.a in
    let zs = map not_rule xs in
    let count : length xs ≡ to.size = length-vector_at old c.args.a (omega (arith, c.requires.a)) ∙ c.requires.size in
    let size : length zs ≡ to.size = length-map xs not_rule ∙ count in
    let x : get_or xs k Dash ≡ c.bit.result
    = read_apart old c.loop-k.cells zs c.args.a to k k c.bit.result Dash c.loop-k.invariant c.requires.to c.requires.a size c.requires.apart c.loop-k.auto.k-end c.bit.ensures in
    let within : k < length xs = omega (arith, count, c.loop-k-test.true) in
    vector_more old c.loop-k.cells c.write_bit.new.cells to zs k c.not9.result Dash c.requires.to size c.loop-k-test.true
    (get_or-map not_rule xs k Dash Dash within ∙ ap not_rule x ∙ sym c.not9.ensures.value)
    c.loop-k.invariant c.write_bit.ensures

pub returns-clause-value : goal.returns-clause-value
returns-clause-value c =
    let old = c.args.cells.now in
    let xs = vector_at old c.args.a in
    let count : length xs ≡ c.args.to.size = length-vector_at old c.args.a (omega (arith, c.requires.a)) ∙ c.requires.size in
    vector_all old c.loop-k.cells c.args.to (map not_rule xs) c.loop-k.k (length-map xs not_rule ∙ count) (omega (arith, c.loop-k-test.false, c.loop-k.auto.k-end)) c.loop-k.invariant

pub returns-clause-length : goal.returns-clause-length
returns-clause-length c =
    let old = c.args.cells.now in
    let xs = vector_at old c.args.a in
    let count : length xs ≡ c.args.to.size = length-vector_at old c.args.a (omega (arith, c.requires.a)) ∙ c.requires.size in
    length_of_vector_kept old c.loop-k.cells c.args.to (map not_rule xs)
    (vector_all old c.loop-k.cells c.args.to (map not_rule xs) c.loop-k.k (length-map xs not_rule ∙ count) (omega (arith, c.loop-k-test.false, c.loop-k.auto.k-end)) c.loop-k.invariant)
    c.requires.to (length-map xs not_rule ∙ count)
