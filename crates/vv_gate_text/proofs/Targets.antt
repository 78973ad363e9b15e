-- One more name in the set of targets.
use Rattle.std.proofs.Common.{◌≡◌, ℕ, ◌+◌, ◌<◌, Bool, true, false, cond, List, [], ◌∷◌, ◌++◌, map, length, take, get_or, refl, sym, ap, ◌∙◌}
use Rattle.std.proofs.lemmas.List.{take_more, map-append}
use Rattle.std.proofs.lemmas.List.Folds.{list_any-append}
use Rattle.std.specs.Prelude.{◌||◌}
use Rattle.std.specs.Str.{bytes_eq}
use Rattle.vv_gate.specs.View.{assignment_of}
use Rattle.vv_gate.specs.declared.tree.Assignment.{Assignment}
use Rattle.vv_gate_text.specs.Made.{is_assigned}

either : (b old : Bool) → cond b true old ≡ (old || (b || false))
either true true = refl
either true false = refl
either false true = refl
either false false = refl

pub one_more : (xs : List Assignment) (i : ℕ) (x : Assignment) (q : List ℕ) (before after : Bool) → i < length xs → x ≡ get_or xs i x
    → before ≡ is_assigned (map assignment_of (take i xs)) q → after ≡ cond (bytes_eq x.target.text.now q) true before
    → after ≡ is_assigned (map assignment_of (take (i + 1) xs)) q
one_more xs i x q before after l at old new =
    let test = λ (a : Assignment). bytes_eq a.target.text.now q in
    let e : map assignment_of (take (i + 1) xs) ≡ map assignment_of (take i xs) ++ map assignment_of (x ∷ []) =
    ap (map assignment_of) (take_more xs i x l ∙ ap (λ y. take i xs ++ y ∷ []) (sym at)) ∙ map-append assignment_of (take i xs) (x ∷ []) in
    let k : is_assigned (map assignment_of (take (i + 1) xs)) q ≡ (is_assigned (map assignment_of (take i xs)) q || (test x || false)) =
    ap (λ l. is_assigned l q) e ∙ list_any-append _ (map assignment_of (take i xs)) (map assignment_of (x ∷ [])) in
    new ∙ (either (test x) before ∙ (ap (λ b. b || (test x || false)) old ∙ sym k))
