-- The token at which a file breaks a rule of syntax lies in the file or at its end.
use Rattle.std.proofs.Common.{◌≡◌, ℕ, zero, suc, ◌+◌, ◌-◌, ◌≤◌, ◌<◌, List, [], ◌∷◌, length, flat_map, get_or, All, Option, Some, None, Ok, Err, refl, sym, ap, subst, arith}
use Rattle.std.specs.Prelude.{slice_get}
use Rattle.std.specs.Option.{option_or}
use Rattle.std.proofs.lemmas.List.{length-append}
use Rattle.std.proofs.lemmas.List.Elements.{All-nil, All-cons, All-head, All-tail, All-append}
use Rattle.vv_base.specs.declared.rules.Rule.TheVariants.{Y1, Y2}
use Rattle.vv_vlex.specs.Elements.{Element, Lexeme, finish}
use Rattle.vv_vlex.specs.Lexical.{Broken, Elements, elements_of, placed}
use Rattle.vv_vlex_laws.specs.Cut.{Piece, text_of, element_for, elements_from, IsCutOf}
use Rattle.vv_vlex_laws.proofs.Cuts.{cut_of}
use Rattle.vv_machine.specs.Machine.{Outcome, reads, misplaced, too_deep}
use Rattle.vv_grammar.specs.Terminals.{terminals_of_elements}
use Rattle.vv_trans.specs.Parsing.{offset_of, judged, judged_of, parsed, syntax}
use Rattle.vv_trans.specs.Translation.{Report, syntax_report, parsing}
use Rattle.vv_trans.proofs.Inside.{IsPlaced, placed_later}
use Rattle.vv_trans.proofs.Phases.{same_report}

abbrev Within : ℕ → Lexeme → Type 0
Within n l = l.at ≤ n

one_within : (o : Option Element) (at len n : ℕ) → at ≤ n → All (Within n) (placed o at len)
one_within None at len n h = All-nil (Within n)
one_within (Some e) at len n h = All-cons (Within n) (record { element = e; at = at; len = len }) [] h (All-nil (Within n))

elements_within : (at n : ℕ) (ps : List Piece) → at + length (flat_map text_of ps) ≤ n → All (Within n) (elements_from at ps)
elements_within at n [] h = All-nil (Within n)
elements_within at n (p ∷ more) h =
    let size = length-append (text_of p) (flat_map text_of more) in
    All-append (Within n) (placed (element_for p) at (length (text_of p))) (elements_from (at + length (text_of p)) more)
    (one_within (element_for p) at (length (text_of p)) n (omega (arith, h, size)))
    (elements_within (at + length (text_of p)) n more (omega (arith, h, size)))

lexemes_within : (file : List ℕ) (ls : List Lexeme) → IsCutOf file ls → All (Within (length file)) ls
lexemes_within file ls c =
    let size : length (flat_map text_of c.pieces) ≡ length file = ap length c.whole in
    subst (λ (x : List Lexeme). All (Within (length file)) x) c.elements
    (All-append (Within (length file)) (elements_from 0 c.pieces) (record { element = finish; at = length file; len = 0 } ∷ [])
    (elements_within 0 (length file) c.pieces (omega (arith, size)))
    (All-cons (Within (length file)) (record { element = finish; at = length file; len = 0 }) [] (omega arith) (All-nil (Within (length file)))))

places_within : (n : ℕ) (ls : List Lexeme) (k : ℕ) → All (Within n) ls → offset_of (slice_get ls k) ≤ n
places_within n [] k all = omega arith
places_within n (l ∷ ls) zero all = All-head (Within n) l ls all
places_within n (l ∷ ls) (suc k) all = places_within n ls k (All-tail (Within n) l ls all)

some_same : (a b : Broken) → Some a ≡ Some b → a ≡ b
some_same a b e = cc

judged_within : (n : ℕ) (ts : List Lexeme) (o : Outcome) (b : Broken) → ((k : ℕ) → offset_of (slice_get ts k) ≤ n) → judged ts o ≡ Some b → b.at ≤ n
judged_within n ts (reads es at) b all e = let z : None ≡ Some b = e in cc
judged_within n ts (misplaced k) b all e = let z : record { rule = Y1; at = offset_of (slice_get ts k) } ≡ b = some_same (record { rule = Y1; at = offset_of (slice_get ts k) }) b e in subst (λ (x : Broken). x.at ≤ n) z (all k)
judged_within n ts (too_deep k) b all e = let z : record { rule = Y2; at = offset_of (slice_get ts k) } ≡ b = some_same (record { rule = Y2; at = offset_of (slice_get ts k) }) b e in subst (λ (x : Broken). x.at ≤ n) z (all k)

by_elements : (file : List ℕ) (o : Elements) (b : Broken) → elements_of file ≡ o → judged_of o ≡ Some b → b.at ≤ length file
by_elements file (Ok ls) b is e = judged_within (length file) ls (parsed (terminals_of_elements ls)) b (λ k. places_within (length file) ls k (lexemes_within file ls (cut_of file ls is))) e
by_elements file (Err x) b is e = let z : None ≡ Some b = e in cc

syntax_inside : (file : List ℕ) (b : Broken) → syntax file ≡ Some b → b.at ≤ length file
unfolding syntax
syntax_inside file b e = by_elements file (elements_of file) b refl e

placed_here : (number : ℕ) (file : List ℕ) (more : List (List ℕ)) (b : Broken) → syntax file ≡ Some b
    → IsPlaced number (file ∷ more) (record { rule = b.rule; file = number; at = b.at })
placed_here number file more b e = record {
  from = omega arith;
  to = omega arith;
  inside = let zero_is : number - number ≡ 0 = omega arith in subst (λ (k : ℕ). b.at ≤ length (get_or (file ∷ more) k [])) (sym zero_is) (syntax_inside file b e);
}

parsing_placed : (number : ℕ) (files : List (List ℕ)) (r : Report) → parsing number files ≡ Some r → IsPlaced number files r
unfolding parsing
parsing_placed number [] r e = let z : None ≡ Some r = e in cc
parsing_placed number (file ∷ more) r e = here (λ k. parsing_placed (number + 1) more r k) (syntax file) refl e
  where
    here : (parsing (number + 1) more ≡ Some r → IsPlaced (number + 1) more r)
        → (o : Option Broken) → syntax file ≡ o → option_or (syntax_report number o) (parsing (number + 1) more) ≡ Some r → IsPlaced number (file ∷ more) r
    here later (Some b) is e = subst (IsPlaced number (file ∷ more)) (same_report (record { rule = b.rule; file = number; at = b.at }) r e) (placed_here number file more b is)
    here later None is e = placed_later number file more r (later e)

pub parsing_file : (files : List (List ℕ)) (r : Report) → parsing 0 files ≡ Some r → r.file < length files
parsing_file files r e = let p = (parsing_placed 0 files r e).to in omega (arith, p)

pub parsing_inside : (files : List (List ℕ)) (r : Report) → parsing 0 files ≡ Some r → r.at ≤ length (get_or files r.file [])
parsing_inside files r e = let same : r.file - 0 ≡ r.file = omega arith in subst (λ (k : ℕ). r.at ≤ length (get_or files k [])) same (parsing_placed 0 files r e).inside
