use Rattle.std.proofs.Common.{◌≡◌, sym, ◌∙◌, arith, length}
use Rattle.vv_vectors.specs.Vectors.{vector_at}
use Rattle.vv_vectors.proofs.Places.{length-vector_at}
use Rattle.vv_num_vectors.proofs.Moved.{right_element}
use Rattle.vv_num_vectors.proofs.movement.Parts.element.Goals as goal

pub returns-else-k-self : goal.returns-else-k-self
returns-else-k-self c =
    let xs = vector_at c.args.cells.now c.args.a in
    let size : length xs ≡ c.args.a.size = length-vector_at c.args.cells.now c.args.a (omega (arith, c.requires.lies)) in
    c.element-else-k-self.ensures
    ∙ sym (right_element xs c.args.a.size c.args.self c.args.size c.args.k c.element-else-k-self.result size c.requires.made c.if-k-self.false)
