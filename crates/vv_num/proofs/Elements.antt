-- Vectors that are read and written one element at a time.
use Rattle.std.proofs.Common.{◌≡◌, ℕ, ◌+◌, ◌<◌, List, [], ◌∷◌, ◌++◌, length, map, take, Some, slice_get, ap, ◌∙◌, add-one}
use Rattle.std.proofs.Math.Seq.{take-suc}
use Rattle.std.proofs.lemmas.List.{map-append}
use Rattle.std.proofs.lemmas.Option.{get_or_from_slice_get, slice_get_within}
use Rattle.vv_bits.specs.declared.nine.S9.{S9}
use Rattle.vv_bits.specs.declared.nine.S9.TheVariants.{Dash}
use Rattle.vv_types.specs.declared.value.Value.{Value}
use Rattle.vv_num.specs.Values.{logic}

pub grown : (xs : List S9) (k : ℕ) (x : S9) (made : List Value) → made ≡ map logic (take k xs) → slice_get xs k ≡ Some x →
    made ++ logic x ∷ [] ≡ map logic (take (k + 1) xs)
grown xs k x made so_far is =
    let within : k < length xs = slice_get_within xs k x is in
    let more : take (k + 1) xs ≡ take k xs ++ x ∷ []
    = ap (λ n. take n xs) (add-one k) ∙ take-suc xs k Dash within ∙ ap (λ y. take k xs ++ y ∷ []) (get_or_from_slice_get xs k x Dash is) in
    rw (so_far, more, map-append)
