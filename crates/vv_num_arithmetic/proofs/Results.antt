-- Lengths and elements of results.
use Rattle.std.proofs.Common.{◌≡◌, ℕ, ◌≤◌, Bool, true, false, List, length, map, replicate, ℤ, ap, sym, ◌∙◌, arith}
use Rattle.vv_bits.specs.declared.nine.S9.{S9}
use Rattle.vv_bits.specs.declared.nine.S9.TheVariants.{X}
use Rattle.vv_types.specs.Number.{has_meta, residue, signed_vector_of, vector_of}
use Rattle.std.proofs.lemmas.List.{length-map, length-replicate}
use Rattle.vv_types.specs.declared.cells.Place.{Place}
use Rattle.vv_vectors.specs.Vectors.{LiesIn, cell_of, with_vector}
use Rattle.vv_vectors.proofs.Places.{length_with_cells}
use Rattle.vv_types.proofs.Numbers.{length-vector_of, all_binary_vector, binary_has_no_meta}
use Rattle.vv_num_arithmetic.specs.Arithmetic.{size_of, result_of}
use Rattle.vv_num_arithmetic.specs.declared.operands.Operator.{Operator}
use Rattle.vv_num_arithmetic.specs.declared.operands.Operator.TheVariants.{Add, Subtract, Multiply}

pub left_size : (operator : Operator) (m n : ℕ) → m ≤ size_of operator m n
left_size Add m n = omega arith
left_size Subtract m n = omega arith
left_size Multiply m n = omega arith

pub right_size : (operator : Operator) (m n : ℕ) → n ≤ size_of operator m n
right_size Add m n = omega arith
right_size Subtract m n = omega arith
right_size Multiply m n = omega arith

pub all_unknown : (meta : Bool) (n size : ℕ) (z : ℤ) → meta ≡ true → n ≡ size → replicate n X ≡ result_of meta size z
all_unknown meta n size z h e = ap (λ k. replicate k X) e ∙ ap (λ t. result_of t size z) (sym h)

pub all_known : (meta : Bool) (n size : ℕ) (z : ℤ) → meta ≡ false → n ≡ size → signed_vector_of n z ≡ result_of meta size z
all_known meta n size z h e = ap (λ k. signed_vector_of k z) e ∙ ap (λ t. result_of t size z) (sym h)

-- numbers have no metavalues
pub no_meta : (n : ℕ) (z : ℤ) → has_meta (signed_vector_of n z) ≡ false
no_meta n z = binary_has_no_meta (signed_vector_of n z) (all_binary_vector n (residue n z))

-- as many cells stay
pub length_kept : (old new : List ℤ) (to : Place) (n : ℕ) → LiesIn old to → new ≡ with_vector old to (vector_of to.size n) → length new ≡ length old
length_kept old new to n lies e =
    let xs : List S9 = vector_of to.size n in
    ap length e ∙ length_with_cells old (map cell_of xs) to lies (length-map xs cell_of ∙ length-vector_of to.size n)

pub length_of_result : (meta : Bool) (size : ℕ) (z : ℤ) → length (result_of meta size z) ≡ size
length_of_result true size z = length-replicate size X
length_of_result false size z = length-vector_of size (residue size z)
