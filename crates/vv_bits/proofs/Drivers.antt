-- Resolution of four-valued drivers, one driver at a time.
use Rattle.std.proofs.Common.{◌≡◌, ◌≢◌, ℕ, Bool, true, false, ◌&&◌, ◌||◌, List, [], ◌∷◌, ◌++◌, ◌<◌, ◌+◌, length, take, get_or, add-one, refl, ap, sym, ◌∙◌}
use Rattle.std.proofs.Math.Seq.{take-suc}
use Rattle.std.specs.Prelude.{if◌then◌else◌}
use Rattle.std.specs.List.{All, AllByRecursion, filter}
use Rattle.std.proofs.lemmas.List.Elements.{recursion_from_All}
use Rattle.vv_bits.specs.declared.four.V4.{V4}
use Rattle.vv_bits.specs.declared.four.V4.TheVariants.{Zero, One, X, Z}
use Rattle.vv_bits.specs.Four.{is4}
use Rattle.vv_bits.specs.Resolution.{has4, resolve4_rule, drives}

pub or-right : (a : Bool) → (a || false) ≡ a
or-right true = refl
or-right false = refl

pub or-step : (a b c : Bool) → (a || (b || c)) ≡ ((a || b) || c)
or-step true b c = refl
or-step false b c = refl

-- the rule, from which values occur
abbrev pub pick4 : Bool → Bool → Bool → V4
pick4 x zero one =
    if x || (zero && one) then X
    else if zero then Zero
    else if one then One
    else Z

abbrev meet4 : V4 → V4 → V4
meet4 a b = resolve4_rule (a ∷ b ∷ [])

pick4-more : (x zero one : Bool) (y : V4) → pick4 (x || is4 y X) (zero || is4 y Zero) (one || is4 y One) ≡ meet4 (pick4 x zero one) y
pick4-more true zero one Zero = refl
pick4-more true zero one One = refl
pick4-more true zero one X = refl
pick4-more true zero one Z = refl
pick4-more false true true Zero = refl
pick4-more false true true One = refl
pick4-more false true true X = refl
pick4-more false true true Z = refl
pick4-more false true false Zero = refl
pick4-more false true false One = refl
pick4-more false true false X = refl
pick4-more false true false Z = refl
pick4-more false false true Zero = refl
pick4-more false false true One = refl
pick4-more false false true X = refl
pick4-more false false true Z = refl
pick4-more false false false Zero = refl
pick4-more false false false One = refl
pick4-more false false false X = refl
pick4-more false false false Z = refl

has4-append : (v : V4) (xs : List V4) (y : V4) → has4 v (xs ++ y ∷ []) ≡ (has4 v xs || is4 y v)
has4-append v [] y = or-right (is4 y v)
has4-append v (x ∷ xs) y = ap (λ b. is4 x v || b) (has4-append v xs y) ∙ or-step (is4 x v) (has4 v xs) (is4 y v)

resolve4_rule-append : (xs : List V4) (y : V4) → resolve4_rule (xs ++ y ∷ []) ≡ meet4 (resolve4_rule xs) y
resolve4_rule-append xs y =
    (λ i. pick4 (has4-append X xs y i) (has4-append Zero xs y i) (has4-append One xs y i))
    ∙ pick4-more (has4 X xs) (has4 Zero xs) (has4 One xs) y

pub next_driver : (xs : List V4) (i : ℕ) (d all : V4) → i < length xs → all ≡ resolve4_rule (take i xs) → (r : V4) → r ≡ meet4 all (get_or xs i d) → r ≡ resolve4_rule (take (i + 1) xs)
next_driver xs i d all lt inv r e =
    e ∙ ap (λ a. meet4 a (get_or xs i d)) inv ∙ sym (resolve4_rule-append (take i xs) (get_or xs i d))
    ∙ ap resolve4_rule (sym (take-suc xs i d lt)) ∙ ap (λ k. resolve4_rule (take k xs)) (sym (add-one i))

-- where each driver is v, no other value occurs
has4-equal : (v w : V4) (xs : List V4) → AllByRecursion (λ x. x ≡ v) xs → is4 v w ≡ false → has4 w xs ≡ false
has4-equal v w [] h other = refl
has4-equal v w (x ∷ xs) h other =
    ap (λ y. is4 y w || has4 w xs) h.0 ∙ ap (λ b. b || has4 w xs) other ∙ has4-equal v w xs h.1 other

first_equal : (v : V4) (xs : List V4) → AllByRecursion (λ x. x ≡ v) xs → resolve4_rule (v ∷ xs) ≡ v
first_equal Zero xs h = λ i. pick4 (has4-equal Zero X xs h refl i) true (has4-equal Zero One xs h refl i)
first_equal One xs h = λ i. pick4 (has4-equal One X xs h refl i) (has4-equal One Zero xs h refl i) true
first_equal X xs h = refl
first_equal Z xs h = λ i. pick4 (has4-equal Z X xs h refl i) (has4-equal Z Zero xs h refl i) (has4-equal Z One xs h refl i)

pub all_equal : (xs : List V4) (v : V4) → length xs ≢ 0 → All (λ x. x ≡ v) xs → resolve4_rule xs ≡ v
all_equal [] v some h = absurd (some refl)
all_equal (x ∷ xs) v some h =
    let each = recursion_from_All (λ x. x ≡ v) (x ∷ xs) h in
    ap (λ y. resolve4_rule (y ∷ xs)) each.0 ∙ first_equal v xs each.1

has4-filter : (v : V4) (xs : List V4) → is4 Z v ≡ false → has4 v (filter drives xs) ≡ has4 v xs
has4-filter v [] other = refl
has4-filter v (Zero ∷ xs) other = ap (λ b. is4 Zero v || b) (has4-filter v xs other)
has4-filter v (One ∷ xs) other = ap (λ b. is4 One v || b) (has4-filter v xs other)
has4-filter v (X ∷ xs) other = ap (λ b. is4 X v || b) (has4-filter v xs other)
has4-filter v (Z ∷ xs) other = has4-filter v xs other ∙ sym (ap (λ b. b || has4 v xs) other)

pub without_z : (xs : List V4) → resolve4_rule (filter drives xs) ≡ resolve4_rule xs
without_z xs = λ i. pick4 (has4-filter X xs refl i) (has4-filter Zero xs refl i) (has4-filter One xs refl i)
