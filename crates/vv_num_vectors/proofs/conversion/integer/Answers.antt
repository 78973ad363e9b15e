use Rattle.std.proofs.Common.{◌≡◌, ◌<◌, ◌≤◌, ◌+◌, ◌*◌, ◌^◌, ◌-ℤ◌, ℤ, pos, negsuc, length, map, take, get_or, ap, sym, ◌∙◌, arith, false, Some, to_z, of_z, w32}
use Rattle.std.proofs.lemmas.Int.{ints}
use Rattle.std.proofs.lemmas.List.{get_or_read, length-map, take_all}
use Rattle.vv_bits.specs.declared.nine.S9.TheVariants.{Dash}
use Rattle.vv_types.specs.Number.{bit, number_of}
use Rattle.vv_types.proofs.Numbers.{front_le}
use Rattle.vv_num_vectors.specs.Operands.{elements_of, is_meta_in, sign_of, size_of, value_of}
use Rattle.vv_num_vectors.specs.Rows.{integer_from}
use Rattle.vv_num_vectors.proofs.Integers.{above, below, beside, number_beside, outside}
use Rattle.vv_num_vectors.proofs.Worth.{length-elements_of, worth_of_elements}
use Rattle.vv_num_vectors.proofs.conversion.integer.Goals as goal

pub returns-then-reach-ge2147483648 : goal.returns-then-reach-ge2147483648
returns-then-reach-ge2147483648 c =
    let cells = c.args.cells.now in
    let a = c.args.a in
    let xs = elements_of cells a in
    let sign = c.counts-sign.result in
    let k = c.loop-k.k in
    let size : length xs ≡ size_of a = length-elements_of cells a c.requires in
    let plain : is_meta_in cells a ≡ false = sym c.any_meta.ensures ∙ c.if-any_meta.false in
    let signed : bit (sign_of cells a) ≡ sign = sym (c.counts-sign.ensures.value ∙ ap bit c.sign.ensures.sign) in
    let worth : value_of cells a ≡ pos (number_of xs) -ℤ pos (sign * 2 ^ length xs)
    = worth_of_elements cells a c.requires c.sign.ensures.worth ∙ ap (λ s. pos (number_of xs) -ℤ pos (s * 2 ^ length xs)) signed in
    let within : k < length xs = omega (arith, size, c.size-k-end.ensures, c.loop-k-test.true) in
    let count : c.counts.result ≡ bit (get_or xs k Dash) = c.counts.ensures.value ∙ ap bit (get_or_read xs k c.element.result within c.element.ensures Dash) in
    let more : c.loop-k.reach * 2 + c.from.result ≡ number_of (take (k + 1) (map (beside sign) xs))
    = number_beside xs k sign c.loop-k.reach c.counts.result c.from.result Dash within c.loop-k.invariant.value count c.from.ensures in
    let big : 2 ^ 31 ≤ number_of (map (beside sign) xs) = omega (arith, more, front_le (map (beside sign) xs) (k + 1), c.if-reach-ge2147483648.true) in
    outside (value_of cells a) sign xs c.counts-sign.ensures.small worth big ∙ ap (λ m. integer_from m (value_of cells a)) (sym plain)

pub loop-k-preserved : goal.loop-k-preserved
loop-k-preserved c =
    let cells = c.args.cells.now in
    let a = c.args.a in
    let xs = elements_of cells a in
    let sign = c.counts-sign.result in
    let k = c.loop-k.k in
    let size : length xs ≡ size_of a = length-elements_of cells a c.requires in
    let within : k < length xs = omega (arith, size, c.size-k-end.ensures, c.loop-k-test.true) in
    let count : c.counts.result ≡ bit (get_or xs k Dash) = c.counts.ensures.value ∙ ap bit (get_or_read xs k c.element.result within c.element.ensures Dash) in
    let more : c.loop-k.reach * 2 + c.from.result ≡ number_of (take (k + 1) (map (beside sign) xs))
    = number_beside xs k sign c.loop-k.reach c.counts.result c.from.result Dash within c.loop-k.invariant.value count c.from.ensures in
    record { value = more; small = omega (arith, c.if-reach-ge2147483648.false) }

pub returns-then-sign-eq0 : goal.returns-then-sign-eq0
returns-then-sign-eq0 c =
    let cells = c.args.cells.now in
    let a = c.args.a in
    let xs = elements_of cells a in
    let sign = c.counts-sign.result in
    let k = c.loop-k.k in
    let size : length xs ≡ size_of a = length-elements_of cells a c.requires in
    let plain : is_meta_in cells a ≡ false = sym c.any_meta.ensures ∙ c.if-any_meta.false in
    let signed : bit (sign_of cells a) ≡ sign = sym (c.counts-sign.ensures.value ∙ ap bit c.sign.ensures.sign) in
    let worth : value_of cells a ≡ pos (number_of xs) -ℤ pos (sign * 2 ^ length xs)
    = worth_of_elements cells a c.requires c.sign.ensures.worth ∙ ap (λ s. pos (number_of xs) -ℤ pos (s * 2 ^ length xs)) signed in
    let all : c.loop-k.reach ≡ number_of (map (beside sign) xs)
    = c.loop-k.invariant.value ∙ ap number_of (take_all k (map (beside sign) xs) (omega (arith, length-map xs (beside sign), size, c.size-k-end.ensures, c.loop-k-test.false))) in
    let cast : to_z w32 c.loop-k.reach ≡ pos c.loop-k.reach = omega (arith, ints, c.loop-k.invariant.small) in
    ap (λ (z : ℤ). Some z) cast
    ∙ above (value_of cells a) xs c.loop-k.reach sign c.if-sign-eq0.true worth all c.loop-k.invariant.small
    ∙ ap (λ m. integer_from m (value_of cells a)) (sym plain)

pub returns-else-sign-eq0 : goal.returns-else-sign-eq0
returns-else-sign-eq0 c =
    let cells = c.args.cells.now in
    let a = c.args.a in
    let xs = elements_of cells a in
    let sign = c.counts-sign.result in
    let k = c.loop-k.k in
    let size : length xs ≡ size_of a = length-elements_of cells a c.requires in
    let plain : is_meta_in cells a ≡ false = sym c.any_meta.ensures ∙ c.if-any_meta.false in
    let signed : bit (sign_of cells a) ≡ sign = sym (c.counts-sign.ensures.value ∙ ap bit c.sign.ensures.sign) in
    let worth : value_of cells a ≡ pos (number_of xs) -ℤ pos (sign * 2 ^ length xs)
    = worth_of_elements cells a c.requires c.sign.ensures.worth ∙ ap (λ s. pos (number_of xs) -ℤ pos (s * 2 ^ length xs)) signed in
    let all : c.loop-k.reach ≡ number_of (map (beside sign) xs)
    = c.loop-k.invariant.value ∙ ap number_of (take_all k (map (beside sign) xs) (omega (arith, length-map xs (beside sign), size, c.size-k-end.ensures, c.loop-k-test.false))) in
    let cast : to_z w32 (of_z w32 (negsuc 0 -ℤ to_z w32 c.loop-k.reach)) ≡ negsuc c.loop-k.reach = omega (arith, ints, c.loop-k.invariant.small) in
    let one : sign ≡ 1 = omega (arith, c.counts-sign.ensures.small, c.if-sign-eq0.false) in
    ap (λ (z : ℤ). Some z) cast
    ∙ below (value_of cells a) xs c.loop-k.reach sign one worth all c.loop-k.invariant.small
    ∙ ap (λ m. integer_from m (value_of cells a)) (sym plain)
