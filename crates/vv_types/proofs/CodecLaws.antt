-- The bits of a value by its codec.
use Rattle.std.proofs.Common.{◌≡◌, ℕ, List, length, take, ℤ, ◌≤◌, ap, sym, subst, ◌∙◌, FitsSigned, w32, of_z}
use Rattle.std.proofs.Math.Seq.{take-length}
use Rattle.std.specs.List.{flat_map}
use Rattle.vv_bits.specs.declared.nine.S9.{S9}
use Rattle.vv_types.specs.Codec.{bits_of, bits_step, array_bits, int_bits, int_width}
use Rattle.vv_types.specs.Number.{vector_of, signed_vector_of}
use Rattle.vv_types.proofs.Numbers.{vector_of_bits}
use Rattle.vv_types.specs.declared.codec.Codec.{Codec, fold-roll-Codec}
use Rattle.vv_types.specs.declared.codec.Codec.TheOpen as layer
use Rattle.vv_types.specs.declared.codec.Codec.TheVariants as codec
use Rattle.vv_types.specs.declared.codec.Codec.TheViews.{Of, rolls-Of, rolls-Int}
use Rattle.vv_types.specs.declared.value.Value.{Value}
use Rattle.vv_types.specs.declared.value.Value.TheVariants as value
use Rattle.vv_types.specs.declared.value.Value.TheViews.{Array, outs-Array, outs-Int}

pub array_bits_are : (n : ℕ) (elem : Codec) (xs : List Value) → bits_of (Of n elem) (Array xs) ≡ flat_map (bits_of elem) xs
array_bits_are n elem xs =
    ap (λ c. bits_of c (Array xs)) (sym (rolls-Of n elem))
    ∙ (λ i. fold-roll-Codec (Value → List S9) bits_step (layer.Of n elem) i (Array xs))
    ∙ ap (array_bits (bits_of elem)) (outs-Array xs)

-- the bits of all elements that were gone over
pub array_bits_by_elements : (n : ℕ) (elem : Codec) (xs list : List Value) (i : ℕ) → list ≡ xs → i ≡ length list →
    flat_map (bits_of elem) (take i list) ≡ bits_of (Of n elem) (Array xs)
array_bits_by_elements n elem xs list i same end =
    ap (λ k. flat_map (bits_of elem) (take k list)) end
    ∙ ap (flat_map (bits_of elem)) (take-length list ∙ same)
    ∙ sym (array_bits_are n elem xs)

pub int_bits_are : (low high x : ℤ) → bits_of (codec.Int low high) (value.Int x) ≡ signed_vector_of (int_width low high) x
int_bits_are low high x =
    ap (λ c. bits_of c (value.Int x)) (sym (rolls-Int low high))
    ∙ (λ i. fold-roll-Codec (Value → List S9) bits_step (layer.Int low high) i (value.Int x))
    ∙ ap (int_bits (int_width low high)) (outs-Int x)

-- the digits that are written, by the width and the bits of 32 that the code has
pub int_bits_by_digits : (low high x : ℤ) (w n : ℕ) → w ≤ 32 → FitsSigned w32 x → w ≡ int_width low high → n ≡ of_z w32 x →
    vector_of w n ≡ bits_of (codec.Int low high) (value.Int x)
int_bits_by_digits low high x w n few fits width number =
    (λ i. vector_of (width i) (number i))
    ∙ vector_of_bits (int_width low high) x (subst (λ k. k ≤ 32) width few) fits
    ∙ sym (int_bits_are low high x)
