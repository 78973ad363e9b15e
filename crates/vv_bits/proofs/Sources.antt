-- Resolution of nine-valued sources, one source at a time, and as four values.
use Rattle.std.proofs.Common.{◌≡◌, ◌≢◌, ℕ, Bool, true, false, ◌&&◌, ◌||◌, List, [], ◌∷◌, ◌++◌, ◌<◌, ◌+◌, length, take, get_or, map, add-one, refl, ap, sym, subst, ◌∙◌}
use Rattle.std.proofs.Math.Seq.{take-suc}
use Rattle.std.specs.Prelude.{if◌then◌else◌}
use Rattle.std.specs.List.{list_all}
use Rattle.vv_bits.specs.declared.nine.S9.{S9}
use Rattle.vv_bits.specs.declared.nine.S9.TheVariants.{U, X, Zero, One, Z, W, L, H, Dash}
use Rattle.vv_bits.specs.declared.four.V4.TheVariants as four
use Rattle.vv_bits.specs.Nine.{same, all_nine, IsSix, AllSix}
use Rattle.vv_bits.specs.Four.{abs_rule}
use Rattle.vv_bits.specs.Resolution.{has, resolve_several, resolve_rule, has4, resolve4_rule}
use Rattle.vv_bits.proofs.Finite.{both, bool_law, nine_law, same_law}
use Rattle.vv_bits.proofs.Drivers.{pick4, or-right, or-step}

-- the rule, from which values occur
abbrev pick : Bool → Bool → Bool → Bool → Bool → Bool → Bool → Bool → S9
pick u x d zero one w l h =
    if u then U
    else if (x || d) || (zero && one) then X
    else if zero then Zero
    else if one then One
    else if w || (l && h) then W
    else if l then L
    else if h then H
    else Z

abbrev meet : S9 → S9 → S9
meet a b = resolve_several (a ∷ b ∷ [])

-- one source more, where the earlier ones had these values
abbrev one_more : S9 → Bool → Bool → Bool → Bool → Bool → Bool → Bool → Bool → Bool
one_more y u x d zero one w l h =
    same (pick (u || same y U) (x || same y X) (d || same y Dash) (zero || same y Zero) (one || same y One) (w || same y W) (l || same y L) (h || same y H))
    (meet (pick u x d zero one w l h) y)

abbrev from_l : S9 → Bool → Bool → Bool → Bool → Bool → Bool → Bool → Bool
from_l y u x d zero one w l = list_all (λ h. one_more y u x d zero one w l h) both

abbrev from_w : S9 → Bool → Bool → Bool → Bool → Bool → Bool → Bool
from_w y u x d zero one w = list_all (λ l. from_l y u x d zero one w l) both

abbrev from_one : S9 → Bool → Bool → Bool → Bool → Bool → Bool
from_one y u x d zero one = list_all (λ w. from_w y u x d zero one w) both

abbrev from_zero : S9 → Bool → Bool → Bool → Bool → Bool
from_zero y u x d zero = list_all (λ one. from_one y u x d zero one) both

abbrev from_d : S9 → Bool → Bool → Bool → Bool
from_d y u x d = list_all (λ zero. from_zero y u x d zero) both

abbrev from_x : S9 → Bool → Bool → Bool
from_x y u x = list_all (λ d. from_d y u x d) both

abbrev from_u : S9 → Bool → Bool
from_u y u = list_all (λ x. from_x y u x) both

abbrev from_y : S9 → Bool
from_y y = list_all (λ u. from_u y u) both

every_one_more : list_all from_y all_nine ≡ true
every_one_more = refl

one_more_law : (y : S9) (u x d zero one w l h : Bool) → one_more y u x d zero one w l h ≡ true
one_more_law y u x d zero one w l h =
    let at_y = nine_law from_y every_one_more y in
    let at_u = bool_law (from_u y) at_y u in
    let at_x = bool_law (from_x y u) at_u x in
    let at_d = bool_law (from_d y u x) at_x d in
    let at_zero = bool_law (from_zero y u x d) at_d zero in
    let at_one = bool_law (from_one y u x d zero) at_zero one in
    let at_w = bool_law (from_w y u x d zero one) at_one w in
    let at_l = bool_law (from_l y u x d zero one w) at_w l in
    bool_law (one_more y u x d zero one w l) at_l h

-- a value occurs in a list with one more at its end
has-append : (v : S9) (xs : List S9) (y : S9) → has v (xs ++ y ∷ []) ≡ (has v xs || same y v)
has-append v [] y = or-right (same y v)
has-append v (x ∷ xs) y = ap (λ b. same x v || b) (has-append v xs y) ∙ or-step (same x v) (has v xs) (same y v)

pub resolve_several-append : (xs : List S9) (y : S9) → resolve_several (xs ++ y ∷ []) ≡ meet (resolve_several xs) y
resolve_several-append xs y =
    (λ i. pick (has-append U xs y i) (has-append X xs y i) (has-append Dash xs y i) (has-append Zero xs y i) (has-append One xs y i) (has-append W xs y i) (has-append L xs y i) (has-append H xs y i))
    ∙ same_law _ _ (one_more_law y (has U xs) (has X xs) (has Dash xs) (has Zero xs) (has One xs) (has W xs) (has L xs) (has H xs))

pub next_source : (xs : List S9) (i : ℕ) (d all : S9) → i < length xs → all ≡ resolve_several (take i xs) → (r : S9) → r ≡ meet all (get_or xs i d) → r ≡ resolve_several (take (i + 1) xs)
next_source xs i d all lt inv r e =
    e ∙ ap (λ a. meet a (get_or xs i d)) inv ∙ sym (resolve_several-append (take i xs) (get_or xs i d))
    ∙ ap resolve_several (sym (take-suc xs i d lt)) ∙ ap (λ k. resolve_several (take k xs)) (sym (add-one i))

pub several_rule : (xs : List S9) → length xs ≢ 0 → length xs ≢ 1 → resolve_several xs ≡ resolve_rule xs
several_rule [] h k = absurd (h refl)
several_rule (x ∷ []) h k = absurd (k refl)
several_rule (x ∷ y ∷ more) h k = refl

-- which of the six values occur is what occurs among the four that they are
abbrev Seen : List S9 → Type 0
Seen xs =
    (has4 four.X (map abs_rule xs) ≡ ((has U xs || has X xs) || has Dash xs))
    × (has4 four.Zero (map abs_rule xs) ≡ has Zero xs) × (has4 four.One (map abs_rule xs) ≡ has One xs)
    × (has W xs ≡ false) × (has L xs ≡ false) × (has H xs ≡ false)

middle : (a d : Bool) → true ≡ ((a || true) || d)
middle true d = refl
middle false d = refl

last : (a : Bool) → true ≡ (a || true)
last true = refl
last false = refl

seen : (xs : List S9) → AllSix xs → Seen xs
seen [] h = (refl, refl, refl, refl, refl, refl)
seen (U ∷ xs) h = let s = seen xs h.1 in (refl, s.1, s.2, s.3, s.4, s.5)
seen (X ∷ xs) h = let s = seen xs h.1 in (middle (has U xs) (has Dash xs), s.1, s.2, s.3, s.4, s.5)
seen (Zero ∷ xs) h = let s = seen xs h.1 in (s.0, refl, s.2, s.3, s.4, s.5)
seen (One ∷ xs) h = let s = seen xs h.1 in (s.0, s.1, refl, s.3, s.4, s.5)
seen (Z ∷ xs) h = seen xs h.1
seen (W ∷ xs) h = absurd h.0
seen (L ∷ xs) h = absurd h.0
seen (H ∷ xs) h = absurd h.0
seen (Dash ∷ xs) h = let s = seen xs h.1 in (last (has U xs || has X xs), s.1, s.2, s.3, s.4, s.5)

abbrev pick_six : Bool → Bool → Bool → Bool → Bool → S9
pick_six u x d zero one = pick u x d zero one false false false

abs_rule-pick : (u x d zero one : Bool) → abs_rule (pick_six u x d zero one) ≡ pick4 ((u || x) || d) zero one
abs_rule-pick true x d zero one = refl
abs_rule-pick false true d zero one = refl
abs_rule-pick false false true zero one = refl
abs_rule-pick false false false true true = refl
abs_rule-pick false false false true false = refl
abs_rule-pick false false false false true = refl
abs_rule-pick false false false false false = refl

IsSix-pick : (u x d zero one : Bool) → IsSix (pick_six u x d zero one)
IsSix-pick true x d zero one = tt
IsSix-pick false true d zero one = tt
IsSix-pick false false true zero one = tt
IsSix-pick false false false true true = tt
IsSix-pick false false false true false = tt
IsSix-pick false false false false true = tt
IsSix-pick false false false false false = tt

several_of_six : (xs : List S9) → AllSix xs → resolve_several xs ≡ pick_six (has U xs) (has X xs) (has Dash xs) (has Zero xs) (has One xs)
several_of_six xs h =
    let s = seen xs h in
    λ i. pick (has U xs) (has X xs) (has Dash xs) (has Zero xs) (has One xs) (s.3 i) (s.4 i) (s.5 i)

pub several_abs : (xs : List S9) → AllSix xs → abs_rule (resolve_several xs) ≡ resolve4_rule (map abs_rule xs)
several_abs xs h =
    let s = seen xs h in
    ap abs_rule (several_of_six xs h) ∙ abs_rule-pick (has U xs) (has X xs) (has Dash xs) (has Zero xs) (has One xs) ∙ sym (λ i. pick4 (s.0 i) (s.1 i) (s.2 i))

one_abs : (x : S9) → IsSix x → abs_rule x ≡ resolve4_rule (abs_rule x ∷ [])
one_abs U h = refl
one_abs X h = refl
one_abs Zero h = refl
one_abs One h = refl
one_abs Z h = refl
one_abs W h = absurd h
one_abs L h = absurd h
one_abs H h = absurd h
one_abs Dash h = refl

pub resolve_abs : (xs : List S9) → AllSix xs → abs_rule (resolve_rule xs) ≡ resolve4_rule (map abs_rule xs)
resolve_abs [] h = refl
resolve_abs (x ∷ []) h = one_abs x h.0
resolve_abs (x ∷ y ∷ more) h = several_abs (x ∷ y ∷ more) h

pub resolve_six : (xs : List S9) → AllSix xs → IsSix (resolve_rule xs)
resolve_six [] h = tt
resolve_six (x ∷ []) h = h.0
resolve_six (x ∷ y ∷ more) h =
    let xs = x ∷ y ∷ more in
    let P : S9 → Type 0 = IsSix in
    subst P (sym (several_of_six xs h)) (IsSix-pick (has U xs) (has X xs) (has Dash xs) (has Zero xs) (has One xs))
