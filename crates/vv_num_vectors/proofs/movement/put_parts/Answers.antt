use Rattle.std.proofs.Common.{◌≡◌, ◌<◌, length, map, ap, sym, ◌∙◌, arith, get_or}
use Rattle.std.proofs.lemmas.List.{get_or_read}
use Rattle.vv_bits.specs.declared.nine.S9.TheVariants.{Dash}
use Rattle.vv_vectors.specs.Vectors.{cell_of, vector_at}
use Rattle.vv_vectors.proofs.Places.{length-vector_at, vector_more, vector_all}
use Rattle.vv_vectors.proofs.Written.{written_start}
use Rattle.vv_num_vectors.specs.Parts.{made_of}
use Rattle.vv_num_vectors.proofs.Moved.{length-made_of}
use Rattle.vv_num_vectors.proofs.Reading.{apart_vector_written, length_of_vector_kept, lies_while_written}
use Rattle.vv_num_vectors.proofs.movement.put_parts.Goals as goal

pub loop-k-init : goal.loop-k-init
loop-k-init c = sym (written_start c.args.cells.now c.args.to.first (map cell_of (made_of (vector_at c.args.cells.now c.args.a) c.args.parts c.args.to.size)))

pub element-x-requires-clause-lies : goal.element-x-requires-clause-lies
element-x-requires-clause-lies c =
    let old = c.args.cells.now in
    let a = c.args.a in
    let to = c.args.to in
    let xs = vector_at old a in
    let ys = made_of xs c.args.parts to.size in
    let count : length xs ≡ a.size = length-vector_at old a (omega (arith, c.requires.a)) in
    let size : length ys ≡ to.size = length-made_of xs a.size c.args.parts to.size count c.requires.made in
    lies_while_written old c.loop-k.cells ys a to c.loop-k.k c.loop-k.invariant c.requires.to c.requires.a size c.loop-k.auto.k-end

pub write_bit-requires-clause-lies : goal.write_bit-requires-clause-lies
write_bit-requires-clause-lies c =
    let old = c.args.cells.now in
    let a = c.args.a in
    let to = c.args.to in
    let xs = vector_at old a in
    let ys = made_of xs c.args.parts to.size in
    let count : length xs ≡ a.size = length-vector_at old a (omega (arith, c.requires.a)) in
    let size : length ys ≡ to.size = length-made_of xs a.size c.args.parts to.size count c.requires.made in
    lies_while_written old c.loop-k.cells ys to to c.loop-k.k c.loop-k.invariant c.requires.to c.requires.to size c.loop-k.auto.k-end

pub loop-k-preserved : goal.loop-k-preserved
loop-k-preserved c =
    let old = c.args.cells.now in
    let a = c.args.a in
    let to = c.args.to in
    let k = c.loop-k.k in
    let x = c.element-x.result in
    let xs = vector_at old a in
    let ys = made_of xs c.args.parts to.size in
    let count : length xs ≡ a.size = length-vector_at old a (omega (arith, c.requires.a)) in
    let size : length ys ≡ to.size = length-made_of xs a.size c.args.parts to.size count c.requires.made in
    let same : vector_at c.loop-k.cells a ≡ xs = apart_vector_written old c.loop-k.cells ys a to k c.loop-k.invariant c.requires.to c.requires.a size c.requires.apart c.loop-k.auto.k-end in
    let read : x ≡ get_or ys k x = c.element-x.ensures ∙ ap (λ zs. get_or (made_of zs c.args.parts to.size) k x) same in
    let within : k < length ys = omega (arith, size, c.loop-k-test.true) in
    vector_more old c.loop-k.cells c.write_bit.new.cells to ys k x Dash c.requires.to size c.loop-k-test.true
    (sym (get_or_read ys k x within read Dash)) c.loop-k.invariant c.write_bit.ensures

pub returns-clause-value : goal.returns-clause-value
returns-clause-value c =
    let old = c.args.cells.now in
    let a = c.args.a in
    let to = c.args.to in
    let xs = vector_at old a in
    let ys = made_of xs c.args.parts to.size in
    let count : length xs ≡ a.size = length-vector_at old a (omega (arith, c.requires.a)) in
    let size : length ys ≡ to.size = length-made_of xs a.size c.args.parts to.size count c.requires.made in
    vector_all old c.loop-k.cells to ys c.loop-k.k size (omega (arith, c.loop-k-test.false, c.loop-k.auto.k-end)) c.loop-k.invariant

pub returns-clause-length : goal.returns-clause-length
returns-clause-length c =
    let old = c.args.cells.now in
    let a = c.args.a in
    let to = c.args.to in
    let xs = vector_at old a in
    let ys = made_of xs c.args.parts to.size in
    let count : length xs ≡ a.size = length-vector_at old a (omega (arith, c.requires.a)) in
    let size : length ys ≡ to.size = length-made_of xs a.size c.args.parts to.size count c.requires.made in
    length_of_vector_kept old c.loop-k.cells to ys
    (vector_all old c.loop-k.cells to ys c.loop-k.k size (omega (arith, c.loop-k-test.false, c.loop-k.auto.k-end)) c.loop-k.invariant)
    c.requires.to size
