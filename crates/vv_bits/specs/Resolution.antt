-- What several sources of a signal, or drivers of a wire, give together.
use Rattle.std.specs.Prelude.{Bool, false, not, ◌||◌, ◌&&◌, if◌then◌else◌, List, [], ◌∷◌}
use Rattle.vv_bits.specs.declared.nine.S9.{S9}
use Rattle.vv_bits.specs.declared.nine.S9.TheVariants.{U, X, Zero, One, Z, W, L, H, Dash}
use Rattle.vv_bits.specs.declared.four.V4.{V4}
use Rattle.vv_bits.specs.declared.four.V4.TheVariants as four
use Rattle.vv_bits.specs.Nine.{same}
use Rattle.vv_bits.specs.Four.{is4}

-- v occurs
abbrev pub has : S9 → List S9 → Bool
has v [] = false
has v (x ∷ xs) = same x v || has v xs

-- Of several sources U wins, then X, for which - counts too. Else 0 and 1 win over the weak values,
-- which win over Z. 0 together with 1 gives X, and L together with H gives W.
abbrev pub resolve_several : List S9 → S9
resolve_several xs =
    if has U xs then U
    else if (has X xs || has Dash xs) || (has Zero xs && has One xs) then X
    else if has Zero xs then Zero
    else if has One xs then One
    else if has W xs || (has L xs && has H xs) then W
    else if has L xs then L
    else if has H xs then H
    else Z

-- one source passes unchanged
abbrev pub resolve_rule : List S9 → S9
resolve_rule [] = Z
resolve_rule (x ∷ []) = x
resolve_rule (x ∷ y ∷ more) = resolve_several (x ∷ y ∷ more)

-- v occurs
abbrev pub has4 : V4 → List V4 → Bool
has4 v [] = false
has4 v (x ∷ xs) = is4 x v || has4 v xs

-- z yields to each other value, and values that differ otherwise give x
abbrev pub resolve4_rule : List V4 → V4
resolve4_rule xs =
    if has4 four.X xs || (has4 four.Zero xs && has4 four.One xs) then four.X
    else if has4 four.Zero xs then four.Zero
    else if has4 four.One xs then four.One
    else four.Z

-- z drives nothing
abbrev pub drives : V4 → Bool
drives x = not (is4 x four.Z)
