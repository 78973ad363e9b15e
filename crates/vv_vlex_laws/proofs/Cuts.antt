-- The lexer cuts a file into the pieces that stand there, and stops where none stands.
use Rattle.std.proofs.Common.{◌≡◌, ℕ, zero, suc, ◌<◌, ◌≤◌, ◌+◌, ◌-◌, Bool, true, false, nat_lt, inl, inr, List, [], ◌∷◌, ◌++◌, length, drop, flat_map, Option, Some, None, Ok, Err, refl, sym, ap, ◌∙◌, subst, append_assoc, arith}
use Rattle.std.proofs.lemmas.List.{length-append, drop_at, append-nil}
use Rattle.vv_base.specs.declared.rules.Rule.{Rule}
use Rattle.vv_base.specs.declared.rules.Rule.TheVariants.{L1}
use Rattle.vv_vlex.specs.Elements.{Element, Lexeme, finish}
use Rattle.vv_vlex.specs.Pieces.{piece_at}
use Rattle.vv_vlex.specs.Lexical.{Elements, Broken, in_front, placed, is_named_behind, with_piece, scan, elements_of}
use Rattle.vv_vlex.specs.Tokens.{Lexed, lexed, with_names, tokens_of, names_behind}
use Rattle.vv_vlex.specs.declared.sign.Sign.{Sign}
use Rattle.vv_vlex.specs.declared.sign.Sign.TheVariants as sn
use Rattle.vv_vlex_laws.specs.Cut.{Piece, space, comment, name, decimal, based, character, string, bits, mark, sign_text, text_of, IsPiece, IsGood, IsLongest, Stands, AreStanding, is_named_after, elements_from, element_for, code_at, IsCutOf, IsStuckAt}
use Rattle.vv_vlex_laws.proofs.Widest.{Finds, Reads, widest}
use Rattle.vv_vlex_laws.proofs.Signs.{widest_read}
use Rattle.vv_vlex_laws.proofs.Numbers.{text_size}
use Rattle.vv_vlex_laws.proofs.Wide.{widest_of, wide}

-- the bytes of a piece are passed over
scan-drop : (total : ℕ) (bytes : List ℕ) (k : ℕ) (n : Bool) → scan total bytes k n ≡ scan total (drop k bytes) 0 n
unfolding scan
scan-drop total [] zero n = refl
scan-drop total [] (suc k) n = refl
scan-drop total (b ∷ more) zero n = refl
scan-drop total (b ∷ more) (suc k) n = scan-drop total more k n

scan-next : (total b : ℕ) (more : List ℕ) (n : Bool) (e : Option Element) (size : ℕ) → piece_at n b more ≡ Ok (e, size) → 0 < size
    → scan total (b ∷ more) 0 n ≡ in_front (placed e (total - suc (length more)) size) (scan total (drop size (b ∷ more)) 0 (is_named_behind n e))
unfolding scan
scan-next total b more n e zero h some = absurd (omega arith)
scan-next total b more n e (suc k) h some =
    ap (with_piece (λ k n. scan total more k n) n (total - suc (length more))) h
    ∙ ap (in_front (placed e (total - suc (length more)) (suc k))) (ap (λ (i : ℕ). scan total more i (is_named_behind n e)) (let i : suc k - 1 ≡ k = omega arith in i) ∙ scan-drop total more k (is_named_behind n e))

scan-broken : (total b : ℕ) (more : List ℕ) (n : Bool) (r : Rule) → piece_at n b more ≡ Err r → scan total (b ∷ more) 0 n ≡ Err (record { rule = r; at = total - suc (length more) })
unfolding scan
scan-broken total b more n r h = ap (with_piece (λ k n. scan total more k n) n (total - suc (length more))) h

scan-end : (total : ℕ) (n : Bool) → scan total [] 0 n ≡ Ok (record { element = finish; at = total; len = 0 } ∷ [])
unfolding scan
scan-end total n = refl

found_in : (n : Bool) (b : ℕ) (more : List ℕ) (w : Piece) → widest n b more ≡ Some w → Finds n b more w
found_in n b more w e = subst (Reads n b more) e (widest_read n b more)

-- a piece that stands is the longest one
longest_is : (n : Bool) (bytes behind : List ℕ) (p w : Piece) → bytes ≡ text_of p ++ behind → IsLongest n p (text_of p ++ behind) → widest_of n bytes ≡ Some w → length (text_of w) ≤ length (text_of p)
longest_is n [] behind p w s l e = cc
longest_is n (b ∷ more) behind p w s l e = let f = found_in n b more w e in l w f.behind f.kind (sym s ∙ f.split)

standing_widest : (n : Bool) (p : Piece) (behind : List ℕ) → Stands n p behind → widest_of n (text_of p ++ behind) ≡ Some p
standing_widest n p behind h =
    let w = wide n p behind h.kind in
    let far : length (text_of w.piece) ≤ length (text_of p) = longest_is n (text_of p ++ behind) behind p w.piece refl h.longest w.found in
    elim w.far [
      | inl e ↦ w.found ∙ ap (λ (q : Piece). let o : Option Piece = Some q in o) e
      | inr l ↦ absurd (omega arith)
    ]

-- the longest piece stands where it is good
widest_stands : (n : Bool) (b : ℕ) (more : List ℕ) (w : Piece) (f : Finds n b more w) → widest n b more ≡ Some w → IsGood w f.behind → Stands n w f.behind
widest_stands n b more w f e good = record {
  kind = f.kind;
  longest = λ q rest kind s.
      let v = wide n q rest kind in
      let same : widest_of n (text_of q ++ rest) ≡ Some w = ap (widest_of n) (sym (f.split ∙ s)) ∙ e in
      let both : Some v.piece ≡ Some w = sym v.found ∙ same in
      let one : v.piece ≡ w = cc in
      let size : length (text_of v.piece) ≡ length (text_of w) = ap text_size one in
      elim v.far [
        | inl g ↦ (let z : length (text_of v.piece) ≡ length (text_of q) = ap text_size g in omega arith)
        | inr l ↦ omega arith
      ];
  good = good;
}

same_behind : (p : Piece) (x y bytes : List ℕ) → bytes ≡ text_of p ++ x → bytes ≡ text_of p ++ y → x ≡ y
same_behind p x y bytes h k =
    sym (drop_at (text_of p) x (length (text_of p)) refl) ∙ ap (drop (length (text_of p))) (sym h ∙ k) ∙ drop_at (text_of p) y (length (text_of p)) refl

-- what the lexer does at a piece that stands
stood : (n : Bool) (b : ℕ) (more behind : List ℕ) (p : Piece) → b ∷ more ≡ text_of p ++ behind → Stands n p behind → (piece_at n b more ≡ Ok (element_for p, length (text_of p)))
stood n b more behind p s h =
    let e : widest n b more ≡ Some p = ap (widest_of n) s ∙ standing_widest n p behind h in
    let f = found_in n b more p e in
    let same : f.behind ≡ behind = same_behind p f.behind behind (b ∷ more) f.split s in
    elim f.verdict [
      | inl v ↦ v.1
      | inr v ↦ absurd (v.0 (subst (IsGood p) (sym same) h.good))
    ]

-- where no piece stands, the lexer refuses
refused : (n : Bool) (b : ℕ) (more : List ℕ) → ((p : Piece) (behind : List ℕ) → b ∷ more ≡ text_of p ++ behind → Stands n p behind → ⊥) → piece_at n b more ≡ Err (code_at (b ∷ more))
refused n b more none = go (widest n b more) refl (widest_read n b more)
  where
    go : (o : Option Piece) → widest n b more ≡ o → Reads n b more o → piece_at n b more ≡ Err (code_at (b ∷ more))
    go None e r = r
    go (Some w) e r = elim r.verdict [
      | inl v ↦ absurd (none w r.behind r.split (widest_stands n b more w r e v.0))
      | inr v ↦ v.1
    ]

sign_some : (s : Sign) → 0 < length (sign_text s)
sign_some sn.Semicolon = omega arith
sign_some sn.Comma = omega arith
sign_some sn.Dot = omega arith
sign_some sn.Open = omega arith
sign_some sn.Close = omega arith
sign_some sn.Colon = omega arith
sign_some sn.Becomes = omega arith
sign_some sn.Unconstrained = omega arith
sign_some sn.LessEqual = omega arith
sign_some sn.Arrow = omega arith
sign_some sn.Bar = omega arith
sign_some sn.Equal = omega arith
sign_some sn.NotEqual = omega arith
sign_some sn.Less = omega arith
sign_some sn.Greater = omega arith
sign_some sn.GreaterEqual = omega arith
sign_some sn.Plus = omega arith
sign_some sn.Minus = omega arith
sign_some sn.Ampersand = omega arith
sign_some sn.Star = omega arith
sign_some sn.Slash = omega arith
sign_some sn.StarStar = omega arith
sign_some sn.Tick = omega arith

piece_some : (n : Bool) (p : Piece) → IsPiece n p → 0 < length (text_of p)
piece_some n (space []) h = let z : false ≡ true = h.0 in cc
piece_some n (space (b ∷ text)) h = omega arith
piece_some n (comment line) h = omega arith
piece_some n (name []) h = let z : false ≡ true = h.0 in cc
piece_some n (name (b ∷ text)) h = omega arith
piece_some n (decimal [] x) h = let z : false ≡ true = h.0.first in cc
piece_some n (decimal (b ∷ digits) x) h = omega arith
piece_some n (based [] digits x) h = let z : false ≡ true = h.0.first in cc
piece_some n (based (b ∷ base) digits x) h = omega arith
piece_some n (character b) h = omega arith
piece_some n (string bytes) h = omega arith
piece_some n (bits b bytes) h = omega arith
piece_some n (mark s) h = sign_some s

in_front-append : (xs ys : List Lexeme) (r : Elements) → in_front xs (in_front ys r) ≡ in_front (xs ++ ys) r
in_front-append xs ys (Ok more) = ap (λ (k : List Lexeme). let r : Elements = Ok k in r) (sym (append_assoc xs ys more))
in_front-append xs ys (Err e) = refl

in_front-nil : (r : Elements) → in_front [] r ≡ r
in_front-nil (Ok more) = refl
in_front-nil (Err e) = refl

-- one piece that stands
step : (total : ℕ) (n : Bool) (bytes behind : List ℕ) (p : Piece) → bytes ≡ text_of p ++ behind → Stands n p behind
    → scan total bytes 0 n ≡ in_front (placed (element_for p) (total - length bytes) (length (text_of p))) (scan total behind 0 (is_named_behind n (element_for p)))
step total n [] behind p s h =
    let some = piece_some n p h.kind in
    let none : 0 ≡ length (text_of p) + length behind = ap length s ∙ length-append (text_of p) behind in
    absurd (omega arith)
step total n (b ∷ more) behind p s h =
    let read = stood n b more behind p s h in
    let rest : drop (length (text_of p)) (b ∷ more) ≡ behind = ap (drop (length (text_of p))) s ∙ drop_at (text_of p) behind (length (text_of p)) refl in
    scan-next total b more n (element_for p) (length (text_of p)) read (piece_some n p h.kind)
    ∙ ap (λ (z : List ℕ). in_front (placed (element_for p) (total - suc (length more)) (length (text_of p))) (scan total z 0 (is_named_behind n (element_for p)))) rest

-- the pieces that stand are gone over
pub replay : (total : ℕ) (n : Bool) (bytes : List ℕ) (ps : List Piece) (rest : List ℕ) (at : ℕ) → flat_map text_of ps ++ rest ≡ bytes → AreStanding n ps rest → at + length bytes ≡ total
    → scan total bytes 0 n ≡ in_front (elements_from at ps) (scan total rest 0 (is_named_after n ps))
replay total n bytes [] rest at w h t = ap (λ (z : List ℕ). scan total z 0 n) (sym w) ∙ sym (in_front-nil (scan total rest 0 n))
replay total n bytes (p ∷ ps) rest at w h t =
    let behind = flat_map text_of ps ++ rest in
    let split : bytes ≡ text_of p ++ behind = sym w ∙ append_assoc (text_of p) (flat_map text_of ps) rest in
    let size : length bytes ≡ length (text_of p) + length behind = ap length split ∙ length-append (text_of p) behind in
    let place : total - length bytes ≡ at = omega arith in
    let far : at + length (text_of p) + length behind ≡ total = omega arith in
    let e = element_for p in
    let m = is_named_behind n e in
    step total n bytes behind p split h.0
    ∙ ap (λ (k : ℕ). in_front (placed e k (length (text_of p))) (scan total behind 0 m)) place
    ∙ ap (in_front (placed e at (length (text_of p)))) (replay total m behind ps rest (at + length (text_of p)) refl h.1 far)
    ∙ in_front-append (placed e at (length (text_of p))) (elements_from (at + length (text_of p)) ps) (scan total rest 0 (is_named_after m ps))

-- how far the pieces go, and what stands behind them
pub record Goes (n : Bool) (bytes : List ℕ) : Type 0 where
  pub pieces : List Piece
  pub rest : List ℕ
  pub whole : flat_map text_of pieces ++ rest ≡ bytes
  pub standing : AreStanding n pieces rest
  pub none : (p : Piece) (behind : List ℕ) → rest ≡ text_of p ++ behind → Stands (is_named_after n pieces) p behind → ⊥

nothing_stands : (n : Bool) (p : Piece) (behind : List ℕ) → [] ≡ text_of p ++ behind → Stands n p behind → ⊥
nothing_stands n p behind s h =
    let some = piece_some n p h.kind in
    let none : 0 ≡ length (text_of p) + length behind = ap length s ∙ length-append (text_of p) behind in
    omega arith

one_more : (n : Bool) (bytes behind : List ℕ) (p : Piece) → bytes ≡ text_of p ++ behind → Stands n p behind → Goes (is_named_behind n (element_for p)) behind → Goes n bytes
one_more n bytes behind p s h g = record {
  pieces = p ∷ g.pieces;
  rest = g.rest;
  whole = append_assoc (text_of p) (flat_map text_of g.pieces) g.rest ∙ (ap (λ (z : List ℕ). text_of p ++ z) g.whole ∙ sym s);
  standing = (subst (Stands n p) (sym g.whole) h, g.standing);
  none = g.none;
}

goes : (k : ℕ) (n : Bool) (bytes : List ℕ) → length bytes < k → Goes n bytes
goes zero n bytes h = absurd (omega arith)
goes (suc k) n [] h = record { pieces = []; rest = []; whole = refl; standing = tt; none = nothing_stands n }
goes (suc k) n (b ∷ more) h = go (widest n b more) refl (widest_read n b more) (λ m behind less. goes k m behind less)
  where
    stuck : ((p : Piece) (behind : List ℕ) → b ∷ more ≡ text_of p ++ behind → Stands n p behind → ⊥) → Goes n (b ∷ more)
    stuck none = record { pieces = []; rest = b ∷ more; whole = refl; standing = tt; none = none }

    go : (o : Option Piece) → widest n b more ≡ o → Reads n b more o → ((m : Bool) (behind : List ℕ) → length behind < k → Goes m behind) → Goes n (b ∷ more)
    go None e r next = stuck (λ p behind s h. let f : widest n b more ≡ Some p = ap (widest_of n) s ∙ standing_widest n p behind h in let z : None ≡ Some p = sym e ∙ f in cc)
    go (Some w) e r next = elim r.verdict [
      | inl v ↦ (
          let size : suc (length more) ≡ length (text_of w) + length r.behind = ap length r.split ∙ length-append (text_of w) r.behind in
          let some = piece_some n w r.kind in
          one_more n (b ∷ more) r.behind w r.split (widest_stands n b more w r e v.0) (next (is_named_behind n (element_for w)) r.behind (omega arith)))
      | inr v ↦ stuck (λ p behind s h.
          let f : widest n b more ≡ Some p = ap (widest_of n) s ∙ standing_widest n p behind h in
          let both : Some w ≡ Some p = sym e ∙ f in
          let one : p ≡ w = cc in
          let again : b ∷ more ≡ text_of w ++ behind = s ∙ ap (λ (q : Piece). text_of q ++ behind) one in
          let same : behind ≡ r.behind = same_behind w behind r.behind (b ∷ more) again r.split in
          v.0 (subst (IsGood w) same (subst (λ (q : Piece). IsGood q behind) one h.good)))
    ]

pub goes_on : (bytes : List ℕ) → Goes false bytes
goes_on bytes = goes (suc (length bytes)) false bytes (omega arith)

-- the end of a file: all pieces stand
pub at_end : (bytes : List ℕ) (ps : List Piece) → flat_map text_of ps ≡ bytes → AreStanding false ps [] → scan (length bytes) bytes 0 false ≡ Ok (elements_from 0 ps ++ (record { element = finish; at = length bytes; len = 0 } ∷ []))
at_end bytes ps w h =
    let total = length bytes in
    let whole : flat_map text_of ps ++ [] ≡ bytes = append-nil (flat_map text_of ps) ∙ w in
    let far : 0 + length bytes ≡ total = omega arith in
    replay total false bytes ps [] 0 whole h far ∙ ap (in_front (elements_from 0 ps)) (scan-end total (is_named_after false ps))

pub at_stuck : (bytes : List ℕ) (ps : List Piece) (rest : List ℕ) → flat_map text_of ps ++ rest ≡ bytes → 0 < length rest → AreStanding false ps rest
    → ((p : Piece) (behind : List ℕ) → rest ≡ text_of p ++ behind → Stands (is_named_after false ps) p behind → ⊥)
    → scan (length bytes) bytes 0 false ≡ Err (record { rule = code_at rest; at = length (flat_map text_of ps) })
at_stuck bytes ps [] w some h none = absurd (omega arith)
at_stuck bytes ps (b ∷ more) w some h none =
    let total = length bytes in
    let far : 0 + length bytes ≡ total = omega arith in
    let size : length (flat_map text_of ps) + suc (length more) ≡ total = sym (length-append (flat_map text_of ps) (b ∷ more)) ∙ ap length w in
    let place : total - suc (length more) ≡ length (flat_map text_of ps) = omega arith in
    replay total false bytes ps (b ∷ more) 0 w h far
    ∙ ap (in_front (elements_from 0 ps)) (scan-broken total b more (is_named_after false ps) (code_at (b ∷ more)) (refused (is_named_after false ps) b more none))
    ∙ ap (λ (k : ℕ). let r : Elements = Err (record { rule = code_at (b ∷ more); at = k }) in r) place

pub over_limit : (bytes : List ℕ) → 16777216 < length bytes → elements_of bytes ≡ Err (record { rule = L1; at = 0 })
unfolding elements_of
over_limit bytes h = let t : nat_lt 16777216 (length bytes) ≡ true = search (arith, h) in rw t refl

within_limit : (bytes : List ℕ) → length bytes ≤ 16777216 → elements_of bytes ≡ scan (length bytes) bytes 0 false
unfolding elements_of
within_limit bytes h = let t : nat_lt 16777216 (length bytes) ≡ false = search (arith, h) in rw t refl

-- in a file within the limit: a cut, or a place where no piece stands
pub data Outcome (bytes : List ℕ) : Type 0 where
  large : 16777216 < length bytes → elements_of bytes ≡ Err (record { rule = L1; at = 0 }) → Outcome bytes
  cut : (ls : List Lexeme) → IsCutOf bytes ls → elements_of bytes ≡ Ok ls → Outcome bytes
  stuck : (rule : Rule) (at : ℕ) → IsStuckAt bytes at rule → elements_of bytes ≡ Err (record { rule = rule; at = at }) → Outcome bytes

outcome_within : (bytes : List ℕ) → length bytes ≤ 16777216 → Goes false bytes → Outcome bytes
outcome_within bytes h g = go g.rest g.whole g.standing g.none
  where
    go : (rest : List ℕ) → flat_map text_of g.pieces ++ rest ≡ bytes → AreStanding false g.pieces rest
        → ((p : Piece) (behind : List ℕ) → rest ≡ text_of p ++ behind → Stands (is_named_after false g.pieces) p behind → ⊥) → Outcome bytes
    go [] w s none =
        let whole : flat_map text_of g.pieces ≡ bytes = sym (append-nil (flat_map text_of g.pieces)) ∙ w in
        cut (elements_from 0 g.pieces ++ (record { element = finish; at = length bytes; len = 0 } ∷ [])) (record { pieces = g.pieces; whole = whole; standing = s; elements = refl }) (within_limit bytes h ∙ at_end bytes g.pieces whole s)
    go (b ∷ more) w s none =
        let some : 0 < length (b ∷ more) = omega arith in
        stuck (code_at (b ∷ more)) (length (flat_map text_of g.pieces)) (record { pieces = g.pieces; rest = b ∷ more; whole = w; some = some; standing = s; none = none; place = refl; code = refl })
        (within_limit bytes h ∙ at_stuck bytes g.pieces (b ∷ more) w some s none)

pub outcome : (bytes : List ℕ) → Outcome bytes
outcome bytes =
    elim (nat_lt 16777216 (length bytes)) as (λ (t : Bool). nat_lt 16777216 (length bytes) ≡ t → Outcome bytes) [
      | true ↦ λ e. let h : 16777216 < length bytes = search (arith, e) in large h (over_limit bytes h)
      | false ↦ λ e. let h : length bytes ≤ 16777216 = search (arith, e) in outcome_within bytes h (goes_on bytes)
    ] refl

pub only_cut : (bytes : List ℕ) (ls : List Lexeme) → length bytes ≤ 16777216 → IsCutOf bytes ls → elements_of bytes ≡ Ok ls
only_cut bytes ls h c = within_limit bytes h ∙ at_end bytes c.pieces c.whole c.standing ∙ ap (λ (k : List Lexeme). let r : Elements = Ok k in r) c.elements

pub only_stuck : (bytes : List ℕ) (at : ℕ) (rule : Rule) → length bytes ≤ 16777216 → IsStuckAt bytes at rule → elements_of bytes ≡ Err (record { rule = rule; at = at })
only_stuck bytes at rule h c =
    within_limit bytes h ∙ at_stuck bytes c.pieces c.rest c.whole c.some c.standing c.none
    ∙ (let place = c.place in let code = c.code in rw (place, code) refl)

pub cut_of : (bytes : List ℕ) (ls : List Lexeme) → elements_of bytes ≡ Ok ls → IsCutOf bytes ls
cut_of bytes ls e = go (outcome bytes)
  where
    go : Outcome bytes → IsCutOf bytes ls
    go (large h f) = cc
    go (cut more c f) = let both : Ok more ≡ elements_of bytes = sym f in let same : more ≡ ls = cc in subst (IsCutOf bytes) same c
    go (stuck rule at s f) = cc

pub stuck_of : (bytes : List ℕ) (at : ℕ) (rule : Rule) → length bytes ≤ 16777216 → elements_of bytes ≡ Err (record { rule = rule; at = at }) → IsStuckAt bytes at rule
stuck_of bytes at rule h e = go (outcome bytes)
  where
    go : Outcome bytes → IsStuckAt bytes at rule
    go (large k f) = absurd (omega arith)
    go (cut more c f) = cc
    go (stuck r a s f) =
        let found : Broken = record { rule = r; at = a } in
        let wanted : Broken = record { rule = rule; at = at } in
        let same : found ≡ wanted = cc in
        let first : r ≡ rule = ap (λ (x : Broken). x.rule) same in
        let second : a ≡ at = ap (λ (x : Broken). x.at) same in
        subst (λ (z : ℕ). IsStuckAt bytes z rule) second (subst (IsStuckAt bytes a) first s)

scan_cut : (bytes : List ℕ) (ls : List Lexeme) → IsCutOf bytes ls → scan (length bytes) bytes 0 false ≡ Ok ls
scan_cut bytes ls c = at_end bytes c.pieces c.whole c.standing ∙ ap (λ (k : List Lexeme). let r : Elements = Ok k in r) c.elements

pub one_cut : (bytes : List ℕ) (ls more : List Lexeme) → IsCutOf bytes ls → IsCutOf bytes more → ls ≡ more
one_cut bytes ls more c d = let e = scan_cut bytes ls c in let f = scan_cut bytes more d in let both : Ok ls ≡ Ok more = sym e ∙ f in cc

pub apart_cut : (bytes : List ℕ) (ls : List Lexeme) (rule : Rule) (at : ℕ) → IsCutOf bytes ls → IsStuckAt bytes at rule → ⊥
apart_cut bytes ls rule at c s =
    let e = scan_cut bytes ls c in
    let f = at_stuck bytes s.pieces s.rest s.whole s.some s.standing s.none in
    cc

in_pieces : (file : ℕ) (names : List (List ℕ)) (bytes : List ℕ) (found : Lexed) (r : Elements) → elements_of bytes ≡ r → with_names file names r ≡ Ok found
    → (ls : List Lexeme) × IsCutOf bytes ls × (found.tokens ≡ tokens_of file names ls) × (found.names ≡ names_behind names ls)
in_pieces file names bytes found (Ok ls) e h =
    let same : found ≡ record { tokens = tokens_of file names ls; names = names_behind names ls } = cc in
    (ls, cut_of bytes ls e, ap (λ (k : Lexed). k.tokens) same, ap (λ (k : Lexed). k.names) same)
in_pieces file names bytes found (Err b) e h = cc

pub tokens_cut : (bytes : List ℕ) (file : ℕ) (names : List (List ℕ)) (found : Lexed) → lexed file bytes names ≡ Ok found
    → (ls : List Lexeme) × IsCutOf bytes ls × (found.tokens ≡ tokens_of file names ls) × (found.names ≡ names_behind names ls)
unfolding lexed
tokens_cut bytes file names found h = in_pieces file names bytes found (elements_of bytes) refl h

pub tokens_only : (bytes : List ℕ) (file : ℕ) (names : List (List ℕ)) (ls : List Lexeme) → length bytes ≤ 16777216 → IsCutOf bytes ls
    → lexed file bytes names ≡ Ok (record { tokens = tokens_of file names ls; names = names_behind names ls })
unfolding lexed
tokens_only bytes file names ls h c = ap (with_names file names) (only_cut bytes ls h c)
