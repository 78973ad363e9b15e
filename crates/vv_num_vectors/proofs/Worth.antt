-- The digits of operands.
use Rattle.std.proofs.Common.{◌≡◌, ℕ, ◌-◌, ◌*◌, ◌^◌, ◌<◌, ◌≤◌, List, ◌++◌, length, replicate, get_or, ℤ, pos, ◌-ℤ◌, ap, sym, ◌∙◌, arith, length-append, subst}
use Rattle.std.proofs.lemmas.List.{length-replicate, get_or-replicate, get_or_append_left, get_or-append_right}
use Rattle.vv_bits.specs.declared.nine.S9.{S9}
use Rattle.vv_types.specs.Number.{bit, number_of, residue}
use Rattle.vv_types.proofs.Numbers.{length-vector_of, number_bound}
use Rattle.vv_vectors.proofs.Places.{length-vector_at}
use Rattle.vv_vectors.specs.Vectors.{number_at}
use Rattle.vv_num_vectors.specs.declared.operand.Operand.{Operand}
use Rattle.vv_num_vectors.specs.declared.operand.Operand.TheVariants.{Unsigned, Signed, Number}
use Rattle.vv_num_vectors.specs.Operands.{IsIn, IsWorth, digits_of, elements_of, sign_of, size_of, value_of}

pub length-elements_of : (cells : List ℤ) (x : Operand) → IsIn cells x → length (elements_of cells x) ≡ size_of x
length-elements_of cells (Unsigned place) lies = length-vector_at cells place (omega (arith, lies))
length-elements_of cells (Signed place) lies = length-vector_at cells place (omega (arith, lies))
length-elements_of cells (Number place) lies = length-vector_of 32 (residue 32 (number_at cells place))

pub length-digits_of : (cells : List ℤ) (x : Operand) (n : ℕ) → IsIn cells x → size_of x ≤ n → length (digits_of cells x n) ≡ n
length-digits_of cells x n lies le =
    length-append (replicate (n - size_of x) (sign_of cells x)) (elements_of cells x)
    ∙ omega (arith, length-replicate (n - size_of x) (sign_of cells x), length-elements_of cells x lies, le)

pub digits_below : (cells : List ℤ) (x : Operand) (n : ℕ) → IsIn cells x → size_of x ≤ n → number_of (digits_of cells x n) < 2 ^ n
digits_below cells x n lies le =
    subst (λ k. number_of (digits_of cells x n) < 2 ^ k) (length-digits_of cells x n lies le) (number_bound (digits_of cells x n))

-- the digits before the elements
pub sign_digit : (cells : List ℤ) (x : Operand) (n k : ℕ) (d : S9) → k < n - size_of x → get_or (digits_of cells x n) k d ≡ sign_of cells x
sign_digit cells x n k d lt =
    get_or_append_left (replicate (n - size_of x) (sign_of cells x)) (elements_of cells x) d k
    (omega (arith, lt, length-replicate (n - size_of x) (sign_of cells x)))
    ∙ get_or-replicate (n - size_of x) k (sign_of cells x) d lt

pub element_digit : (cells : List ℤ) (x : Operand) (n k : ℕ) (d : S9) → n - size_of x ≤ k →
    get_or (digits_of cells x n) k d ≡ get_or (elements_of cells x) (k - (n - size_of x)) d
element_digit cells x n k d le =
    get_or-append_right (replicate (n - size_of x) (sign_of cells x)) (elements_of cells x) (n - size_of x) k d
    (length-replicate (n - size_of x) (sign_of cells x)) le

-- the worth of an operand by its elements alone
pub worth_of_elements : (cells : List ℤ) (x : Operand) → IsIn cells x → IsWorth cells x →
    value_of cells x ≡ pos (number_of (elements_of cells x)) -ℤ pos (bit (sign_of cells x) * 2 ^ length (elements_of cells x))
worth_of_elements cells x lies worth =
    let n : ℕ = size_of x in
    let none : n - n ≡ 0 = omega arith in
    worth n (omega arith)
    ∙ ap (λ k. pos (number_of (replicate k (sign_of cells x) ++ elements_of cells x)) -ℤ pos (bit (sign_of cells x) * 2 ^ n)) none
    ∙ ap (λ k. pos (number_of (elements_of cells x)) -ℤ pos (bit (sign_of cells x) * 2 ^ k)) (sym (length-elements_of cells x lies))
