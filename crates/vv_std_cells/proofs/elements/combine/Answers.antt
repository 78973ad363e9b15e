use Rattle.std.proofs.Common.{◌≡◌, ◌<◌, length, map, sym, ◌∙◌, arith, get_or}
use Rattle.vv_bits.specs.declared.nine.S9.TheVariants.{Dash}
use Rattle.vv_vectors.specs.Vectors.{cell_of, vector_at}
use Rattle.vv_vectors.proofs.Places.{length-vector_at, vector_more, vector_all}
use Rattle.vv_vectors.proofs.Written.{written_start}
use Rattle.vv_std_values.specs.Rows.{logic_rule}
use Rattle.vv_std_cells.specs.Rows.{logic}
use Rattle.vv_std_cells.proofs.Pairs.{get_or-logic, length-logic}
use Rattle.vv_std_cells.proofs.Reading.{length_of_vector_kept, lies_while_written, read_apart}
use Rattle.vv_std_cells.proofs.elements.combine.Goals as goal

pub loop-k-init : goal.loop-k-init
loop-k-init c = sym (written_start c.args.cells.now c.args.to.first (map cell_of (logic c.args.gate (vector_at c.args.cells.now c.args.a) (vector_at c.args.cells.now c.args.b))))

pub bit-x-requires-clause-lies : goal.bit-x-requires-clause-lies
bit-x-requires-clause-lies c =
    let old = c.args.cells.now in
    let xs = vector_at old c.args.a in
    let ys = vector_at old c.args.b in
    let la : length xs ≡ c.args.to.size = length-vector_at old c.args.a (omega (arith, c.requires.a)) ∙ c.requires.size_a in
    let lb : length ys ≡ c.args.to.size = length-vector_at old c.args.b (omega (arith, c.requires.b)) ∙ c.requires.size_b in
    let size : length (logic c.args.gate xs ys) ≡ c.args.to.size = length-logic c.args.gate xs ys (la ∙ sym lb) ∙ la in
    lies_while_written old c.loop-k.cells (logic c.args.gate xs ys) c.args.a c.args.to c.loop-k.k c.loop-k.invariant c.requires.to c.requires.a size c.loop-k.auto.k-end

pub bit-y-requires-clause-lies : goal.bit-y-requires-clause-lies
bit-y-requires-clause-lies c =
    let old = c.args.cells.now in
    let xs = vector_at old c.args.a in
    let ys = vector_at old c.args.b in
    let la : length xs ≡ c.args.to.size = length-vector_at old c.args.a (omega (arith, c.requires.a)) ∙ c.requires.size_a in
    let lb : length ys ≡ c.args.to.size = length-vector_at old c.args.b (omega (arith, c.requires.b)) ∙ c.requires.size_b in
    let size : length (logic c.args.gate xs ys) ≡ c.args.to.size = length-logic c.args.gate xs ys (la ∙ sym lb) ∙ la in
    lies_while_written old c.loop-k.cells (logic c.args.gate xs ys) c.args.b c.args.to c.loop-k.k c.loop-k.invariant c.requires.to c.requires.b size c.loop-k.auto.k-end

pub write_bit-requires-clause-lies : goal.write_bit-requires-clause-lies
write_bit-requires-clause-lies c =
    let old = c.args.cells.now in
    let xs = vector_at old c.args.a in
    let ys = vector_at old c.args.b in
    let la : length xs ≡ c.args.to.size = length-vector_at old c.args.a (omega (arith, c.requires.a)) ∙ c.requires.size_a in
    let lb : length ys ≡ c.args.to.size = length-vector_at old c.args.b (omega (arith, c.requires.b)) ∙ c.requires.size_b in
    let size : length (logic c.args.gate xs ys) ≡ c.args.to.size = length-logic c.args.gate xs ys (la ∙ sym lb) ∙ la in
    lies_while_written old c.loop-k.cells (logic c.args.gate xs ys) c.args.to c.args.to c.loop-k.k c.loop-k.invariant c.requires.to c.requires.to size c.loop-k.auto.k-end

pub loop-k-preserved : goal.loop-k-preserved
loop-k-preserved c =
    let old = c.args.cells.now in
    let gate = c.args.gate in
    let k = c.loop-k.k in
    let to = c.args.to in
    let xs = vector_at old c.args.a in
    let ys = vector_at old c.args.b in
    let zs = logic gate xs ys in
    let la : length xs ≡ to.size = length-vector_at old c.args.a (omega (arith, c.requires.a)) ∙ c.requires.size_a in
    let lb : length ys ≡ to.size = length-vector_at old c.args.b (omega (arith, c.requires.b)) ∙ c.requires.size_b in
    let size : length zs ≡ to.size = length-logic gate xs ys (la ∙ sym lb) ∙ la in
    let x : get_or xs k Dash ≡ c.bit-x.result
    = read_apart old c.loop-k.cells zs c.args.a to k k c.bit-x.result Dash c.loop-k.invariant c.requires.to c.requires.a size c.requires.apart_a c.loop-k.auto.k-end c.bit-x.ensures in
    let y : get_or ys k Dash ≡ c.bit-y.result
    = read_apart old c.loop-k.cells zs c.args.b to k k c.bit-y.result Dash c.loop-k.invariant c.requires.to c.requires.b size c.requires.apart_b c.loop-k.auto.k-end c.bit-y.ensures in
    let within : k < length xs = omega (arith, la, c.loop-k-test.true) in
    vector_more old c.loop-k.cells c.write_bit.new.cells to zs k c.of_logics.result Dash c.requires.to size c.loop-k-test.true
    (get_or-logic gate xs ys k Dash (la ∙ sym lb) within ∙ (λ i. logic_rule gate (x i) (y i)) ∙ sym c.of_logics.ensures)
    c.loop-k.invariant c.write_bit.ensures

pub returns-clause-value : goal.returns-clause-value
returns-clause-value c =
    let old = c.args.cells.now in
    let xs = vector_at old c.args.a in
    let ys = vector_at old c.args.b in
    let la : length xs ≡ c.args.to.size = length-vector_at old c.args.a (omega (arith, c.requires.a)) ∙ c.requires.size_a in
    let lb : length ys ≡ c.args.to.size = length-vector_at old c.args.b (omega (arith, c.requires.b)) ∙ c.requires.size_b in
    let size : length (logic c.args.gate xs ys) ≡ c.args.to.size = length-logic c.args.gate xs ys (la ∙ sym lb) ∙ la in
    vector_all old c.loop-k.cells c.args.to (logic c.args.gate xs ys) c.loop-k.k size (omega (arith, c.loop-k-test.false, c.loop-k.auto.k-end)) c.loop-k.invariant

pub returns-clause-length : goal.returns-clause-length
returns-clause-length c =
    let old = c.args.cells.now in
    let xs = vector_at old c.args.a in
    let ys = vector_at old c.args.b in
    let la : length xs ≡ c.args.to.size = length-vector_at old c.args.a (omega (arith, c.requires.a)) ∙ c.requires.size_a in
    let lb : length ys ≡ c.args.to.size = length-vector_at old c.args.b (omega (arith, c.requires.b)) ∙ c.requires.size_b in
    let size : length (logic c.args.gate xs ys) ≡ c.args.to.size = length-logic c.args.gate xs ys (la ∙ sym lb) ∙ la in
    length_of_vector_kept old c.loop-k.cells c.args.to (logic c.args.gate xs ys)
    (vector_all old c.loop-k.cells c.args.to (logic c.args.gate xs ys) c.loop-k.k size (omega (arith, c.loop-k-test.false, c.loop-k.auto.k-end)) c.loop-k.invariant)
    c.requires.to size
