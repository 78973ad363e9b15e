-- A file is gone over piece by piece.
use Rattle.std.proofs.Common.{◌≡◌, ℕ, zero, suc, ◌<◌, ◌≤◌, ◌-◌, Bool, true, false, nat_lt, List, [], ◌∷◌, ◌++◌, length, take, drop, get_or, Ok, Err, Option, refl, sym, ap, ◌∙◌, subst, append_assoc, arith}
use Rattle.std.proofs.Math.Seq.{take-length}
use Rattle.std.proofs.lemmas.List.{take_rest, length-drop}
use Rattle.vv_base.specs.declared.fault.Fault.{Fault}
use Rattle.vv_base.specs.declared.fault.Fault.TheVariants.{Refused, Memory}
use Rattle.vv_base.specs.declared.rules.Rule.{Rule}
use Rattle.vv_base.specs.declared.rules.Rule.TheVariants.{L1}
use Rattle.vv_vlex.specs.Elements.{Element, Lexeme, finish}
use Rattle.vv_vlex.specs.Pieces.{piece_at}
use Rattle.vv_vlex.specs.Lexical.{Elements, in_front, placed, is_named_behind, with_piece, scan, elements_of, ForRefused, IsRefusal}

-- the bytes of a piece are passed over
pub scan-drop : (total : ℕ) (bytes : List ℕ) (k : ℕ) (n : Bool) → scan total bytes k n ≡ scan total (drop k bytes) 0 n
unfolding scan
scan-drop total [] zero n = refl
scan-drop total [] (suc k) n = refl
scan-drop total (b ∷ more) zero n = refl
scan-drop total (b ∷ more) (suc k) n = scan-drop total more k n

pub in_front-append : (xs ys : List Lexeme) (r : Elements) → in_front (xs ++ ys) r ≡ in_front xs (in_front ys r)
in_front-append xs ys (Ok more) = ap (λ (k : List Lexeme). let r : Elements = Ok k in r) (append_assoc xs ys more)
in_front-append xs ys (Err e) = refl

pub in_front-nil : (r : Elements) → in_front [] r ≡ r
in_front-nil (Ok more) = refl
in_front-nil (Err e) = refl

-- the first piece, and what follows it
pub scan-next : (total b : ℕ) (more : List ℕ) (n : Bool) (e : Option Element) (size : ℕ) → piece_at n b more ≡ Ok (e, size) → 0 < size
    → scan total (b ∷ more) 0 n ≡ in_front (placed e (total - suc (length more)) size) (scan total (drop size (b ∷ more)) 0 (is_named_behind n e))
unfolding scan
scan-next total b more n e zero h some = absurd (omega arith)
scan-next total b more n e (suc k) h some =
    ap (with_piece (λ k n. scan total more k n) n (total - suc (length more))) h
    ∙ ap (in_front (placed e (total - suc (length more)) (suc k))) (ap (λ (i : ℕ). scan total more i (is_named_behind n e)) (let i : suc k - 1 ≡ k = omega arith in i) ∙ scan-drop total more k (is_named_behind n e))

-- the first place where no piece starts
pub scan-broken : (total b : ℕ) (more : List ℕ) (n : Bool) (r : Rule) → piece_at n b more ≡ Err r
    → scan total (b ∷ more) 0 n ≡ Err (record { rule = r; at = total - suc (length more) })
unfolding scan
scan-broken total b more n r h = ap (with_piece (λ k n. scan total more k n) n (total - suc (length more))) h

cons_of : (xs : List ℕ) → 1 ≤ length xs → xs ≡ get_or xs 0 0 ∷ take (length xs - 1) (drop 1 xs)
cons_of [] h = absurd (omega arith)
cons_of (x ∷ xs) h = let n : suc (length xs) - 1 ≡ length xs = omega arith in ap (λ (k : List ℕ). x ∷ k) (sym (rw n (take-length xs)))

-- one more piece, by the slices that the program cuts
pub scan-step : (total : ℕ) (all : Elements) (done new : List Lexeme) (rest : List ℕ) (n m : Bool) (e : Option Element) (size at : ℕ) → 1 ≤ length rest
    → Ok (e, size) ≡ piece_at n (get_or rest 0 0) (take (length rest - 1) (drop 1 rest)) → 0 < size
    → at ≡ total - length rest → new ≡ done ++ placed e at size → m ≡ is_named_behind n e
    → in_front done (scan total rest 0 n) ≡ all → in_front new (scan total (take (length rest - size) (drop size rest)) 0 m) ≡ all
scan-step total all done new rest n m e size at long found some place appended named before =
    let more = take (length rest - 1) (drop 1 rest) in
    let b = get_or rest 0 0 in
    let split : rest ≡ b ∷ more = cons_of rest long in
    let here : scan total (b ∷ more) 0 n ≡ in_front (placed e (total - length (b ∷ more)) size) (scan total (drop size (b ∷ more)) 0 (is_named_behind n e)) = scan-next total b more n e size (sym found) some in
    let first : scan total rest 0 n ≡ in_front (placed e (total - length rest) size) (scan total (drop size rest) 0 (is_named_behind n e)) =
    subst (λ (k : List ℕ). scan total k 0 n ≡ in_front (placed e (total - length k) size) (scan total (drop size k) 0 (is_named_behind n e))) (sym split) here in
    let behind : take (length rest - size) (drop size rest) ≡ drop size rest = take_rest rest size in
    rw (behind, appended, named, place) (in_front-append done (placed e (total - length rest) size) (scan total (drop size rest) 0 (is_named_behind n e)) ∙ (ap (in_front done) (sym first) ∙ before))

-- the first place where no piece starts, likewise
pub scan-stop : (total : ℕ) (all : Elements) (done : List Lexeme) (rest : List ℕ) (n : Bool) (r : Rule) → 1 ≤ length rest
    → Err r ≡ piece_at n (get_or rest 0 0) (take (length rest - 1) (drop 1 rest))
    → in_front done (scan total rest 0 n) ≡ all → all ≡ Err (record { rule = r; at = total - length rest })
scan-stop total all done rest n r long broken before =
    let more = take (length rest - 1) (drop 1 rest) in
    let b = get_or rest 0 0 in
    let split : rest ≡ b ∷ more = cons_of rest long in
    let here : scan total (b ∷ more) 0 n ≡ Err (record { rule = r; at = total - length (b ∷ more) }) = scan-broken total b more n r (sym broken) in
    let first : scan total rest 0 n ≡ Err (record { rule = r; at = total - length rest }) =
    subst (λ (k : List ℕ). scan total k 0 n ≡ Err (record { rule = r; at = total - length k })) (sym split) here in
    sym before ∙ ap (in_front done) first

pub slice_within : (xs : List ℕ) (n total : ℕ) → length xs ≤ total → length (take (length xs - n) (drop n xs)) ≤ total
slice_within xs n total h = rw (take_rest xs n) (omega (arith, length-drop n xs))

pub scan-end : (total : ℕ) (all : Elements) (done : List Lexeme) (rest : List ℕ) (n : Bool) → length rest < 1
    → in_front done (scan total rest 0 n) ≡ all → all ≡ Ok (done ++ (record { element = finish; at = total; len = 0 } ∷ []))
unfolding scan
scan-end total all done [] n short before = sym before
scan-end total all done (b ∷ more) n short before = absurd (omega arith)

pub over_limit : (bytes : List ℕ) → 16777216 < length bytes → elements_of bytes ≡ Err (record { rule = L1; at = 0 })
unfolding elements_of
over_limit bytes h = let t : nat_lt 16777216 (length bytes) ≡ true = search (arith, h) in rw t refl

pub within_limit : (bytes : List ℕ) → length bytes ≤ 16777216 → elements_of bytes ≡ scan (length bytes) bytes 0 false
unfolding elements_of
within_limit bytes h = let t : nat_lt 16777216 (length bytes) ≡ false = search (arith, h) in rw t refl

pub told : (fault : Fault) (file at len : ℕ) (rule : Rule) (all : Elements) → ForRefused fault (λ r. IsRefusal file rule at len r) → all ≡ Err (record { rule = rule; at = at })
    → ForRefused fault (λ r. all ≡ Err (record { rule = r.rule; at = r.span.at }))
told (Refused r) file at len rule all h e =
    let a : r.rule ≡ rule = h.rule_is in
    let b : r.span.at ≡ at = h.at_is in
    rw (a, b) e
told Memory file at len rule all h e = tt
