-- The place of a report lies in its file or at its end.
use Rattle.std.proofs.Common.{◌≡◌, ℕ, suc, ◌+◌, ◌-◌, ◌≤◌, ◌<◌, Bool, true, false, nat_lt, List, [], ◌∷◌, length, get_or, Some, None, Ok, Err, refl, sym, ap, subst, arith}
use Rattle.std.proofs.lemmas.Bool.{ltb-true, ltb-false}
use Rattle.std.proofs.lemmas.List.{length-append}
use Rattle.std.specs.Option.{option_or}
use Rattle.vv_base.specs.declared.rules.Rule.TheVariants.{L1}
use Rattle.vv_vlex.specs.Lexical.{Broken, Elements, elements_of}
use Rattle.vv_vlex_laws.specs.Cut.{IsStuckAt}
use Rattle.vv_vlex_laws.proofs.Cuts.{over_limit, stuck_of}
use Rattle.vv_trans.specs.Translation.{most_bytes, Report, element_report, lexing}
use Rattle.vv_trans.proofs.Phases.{one_err, same_report}

-- no element stands at some place before the end
stuck_inside : (file : List ℕ) (b : Broken) → IsStuckAt file b.at b.rule → b.at ≤ length file
stuck_inside file b s =
    let whole = simp length-append at (ap length s.whole) in
    let place = s.place in
    omega (arith, whole, place)

broken_inside : (file : List ℕ) (b : Broken) → elements_of file ≡ Err b → b.at ≤ length file
broken_inside file b e = by_size (nat_lt most_bytes (length file)) refl
  where
    by_size : (long : Bool) → nat_lt most_bytes (length file) ≡ long → b.at ≤ length file
    by_size true h =
        let same : record { rule = L1; at = 0 } ≡ b = one_err (record { rule = L1; at = 0 }) b (elements_of file) (over_limit file (ltb-true most_bytes (length file) h)) e in
        subst (λ (x : Broken). x.at ≤ length file) same (omega arith)
    by_size false h = stuck_inside file b (stuck_of file b.at b.rule (ltb-false most_bytes (length file) h) e)

-- the place of a report over files of which the first has this number
pub record IsPlaced (number : ℕ) (files : List (List ℕ)) (r : Report) : Type 0 where
  pub from : number ≤ r.file
  pub to : r.file < number + length files
  pub inside : r.at ≤ length (get_or files (r.file - number) [])

placed_here : (number : ℕ) (file : List ℕ) (more : List (List ℕ)) (b : Broken) → elements_of file ≡ Err b
    → IsPlaced number (file ∷ more) (record { rule = b.rule; file = number; at = b.at })
placed_here number file more b e = record {
  from = omega arith;
  to = omega arith;
  inside = let zero_is : number - number ≡ 0 = omega arith in subst (λ (k : ℕ). b.at ≤ length (get_or (file ∷ more) k [])) (sym zero_is) (broken_inside file b e);
}

pub placed_later : (number : ℕ) (file : List ℕ) (more : List (List ℕ)) (r : Report) → IsPlaced (number + 1) more r → IsPlaced number (file ∷ more) r
placed_later number file more r p =
    let from = p.from in
    let to = p.to in
    record {
      from = omega arith;
      to = omega arith;
      inside = let next : r.file - number ≡ suc (r.file - (number + 1)) = omega arith in subst (λ (k : ℕ). r.at ≤ length (get_or (file ∷ more) k [])) (sym next) p.inside;
    }

lexing_placed : (number : ℕ) (files : List (List ℕ)) (r : Report) → lexing number files ≡ Some r → IsPlaced number files r
unfolding lexing
lexing_placed number [] r e = let z : None ≡ Some r = e in cc
lexing_placed number (file ∷ more) r e = here (λ k. lexing_placed (number + 1) more r k) (elements_of file) refl e
  where
    here : (lexing (number + 1) more ≡ Some r → IsPlaced (number + 1) more r)
        → (o : Elements) → elements_of file ≡ o → option_or (element_report number o) (lexing (number + 1) more) ≡ Some r → IsPlaced number (file ∷ more) r
    here later (Err b) is e = subst (IsPlaced number (file ∷ more)) (same_report (record { rule = b.rule; file = number; at = b.at }) r e) (placed_here number file more b is)
    here later (Ok ls) is e = placed_later number file more r (later e)

pub lexing_file : (files : List (List ℕ)) (r : Report) → lexing 0 files ≡ Some r → r.file < length files
lexing_file files r e = let p = (lexing_placed 0 files r e).to in omega (arith, p)

pub lexing_inside : (files : List (List ℕ)) (r : Report) → lexing 0 files ≡ Some r → r.at ≤ length (get_or files r.file [])
lexing_inside files r e = let same : r.file - 0 ≡ r.file = omega arith in subst (λ (k : ℕ). r.at ≤ length (get_or files k [])) same (lexing_placed 0 files r e).inside
