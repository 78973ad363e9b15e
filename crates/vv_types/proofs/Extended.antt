-- Lists that begin with another one.
use Rattle.std.proofs.Common.{◌≡◌, ℕ, ◌≤◌, List, ◌++◌, length, take, ap, sym, subst, ◌∙◌, arith}
use Rattle.std.proofs.Math.Seq.{take-append_seam}
use Rattle.std.proofs.lemmas.List.{take-append-le, length-take, length-append, take-append-drop}
use Rattle.vv_bits.specs.declared.nine.S9.{S9}
use Rattle.vv_types.specs.Prefix.{Extends}

pub extends_append : (xs ys : List S9) → Extends xs (xs ++ ys)
extends_append xs ys = take-append_seam xs ys

longer : (xs ys : List S9) → Extends xs ys → length xs ≤ length ys
longer xs ys h = let e = sym (length-take (length xs) ys) ∙ ap length h in omega (arith, e)

pub extends_more : (xs ys zs : List S9) → Extends xs ys → Extends xs (ys ++ zs)
extends_more xs ys zs h = take-append-le (length xs) ys zs (longer xs ys h) ∙ h

-- what begins with more begins with less
pub extends_less : (xs ys zs : List S9) → Extends (xs ++ ys) zs → Extends xs zs
extends_less xs ys zs h =
    let k : ℕ = length (xs ++ ys) in
    let le : length xs ≤ length (take k zs) = rw h (omega (arith, length-append xs ys)) in
    ap (take (length xs)) (sym (take-append-drop k zs))
    ∙ take-append-le (length xs) (take k zs) _ le
    ∙ ap (take (length xs)) h
    ∙ take-append_seam xs ys

pub extends_through : (xs ys zs front : List S9) → front ≡ xs ++ ys → Extends front zs → Extends xs zs
extends_through xs ys zs front e h = extends_less xs ys zs (subst (λ list. Extends list zs) e h)
