-- A trace of flat parts is a match, and as often something is too deep.
use Rattle.std.proofs.Common.{◌≡◌, ℕ, zero, suc, ◌+◌, ◌<◌, true, List, [], ◌∷◌, ◌++◌, length, refl, sym, ap, ◌∙◌, subst, append_assoc, arith}
use Rattle.vv_grammar.specs.declared.edition.Edition.{Edition}
use Rattle.vv_grammar.specs.declared.event.Event.{Event}
use Rattle.vv_grammar.specs.declared.terminal.Terminal.{Terminal}
use Rattle.vv_grammar.specs.Terminals.{same}
use Rattle.vv_grammar_laws.proofs.Words.{same-self}
use Rattle.vv_productions.specs.Phrases as p
use Rattle.vv_productions.specs.Phrases.{Phrase, ◌▸◌, ◌or◌}
use Rattle.vv_productions.specs.Productions.{definition}
use Rattle.vv_productions.specs.Matches.{Matches, done, skipped, kept, made, by_rule, both, left, right, left_out, put_in, no_more, one_more}
use Rattle.vv_productions.specs.Depths.{counted, Around, inside, starts, openings}
use Rattle.vv_productions.proofs.Items.{Way, either, option, many, rule, flat}
use Rattle.vv_productions.proofs.Traces.{End, ended, Trace, o_here, o_there, opens, after-skip, after-keep, after-make, after-close, at-end}
use Rattle.vv_productions.proofs.Counts.{count, count-append}
use Rattle.vv_productions.proofs.Parts.{Part, phrase, end, phrases, flats, round_of, framed, waiting, ending, round-flats, flats-ending, phrases-ending, framed-ending, round-ending, waiting-ending, Balance}

pub record Untracing (e : Edition) (u : List Terminal) (es : List Event) (T a : ℕ) (Y : List Part) (os : List End) : Type 0 where
  pub matches : Matches e (phrases Y) u es
  pub balance : Balance e (phrases Y) u es matches T a Y os

-- a match of the same phrases, written otherwise
pub same_match : (e : Edition) (S T : List Phrase) (x : List Terminal) (es : List Event) → S ≡ T → (m : Matches e S x es) → (F : List Around) (a : ℕ)
    → (k : Matches e T x es) × (openings e S x es m F a ≡ openings e T x es k F a)
same_match e S T x es v m F a = subst (λ (Z : List Phrase). (k : Matches e Z x es) × (openings e S x es m F a ≡ openings e Z x es k F a)) v (m, refl)

abbrev pub Below : Edition → ℕ → ℕ → Type 0
Below e T n = (m a : ℕ) (Y : List Part) (u : List Terminal) (es : List Event) (os : List End) → T ≡ a + length u → m < n → Trace e m (flats Y) u es os → Untracing e u es T a Y os

behind-token : (T a : ℕ) (u rest : List Terminal) (t : Terminal) → u ≡ t ∷ rest → T ≡ a + length u → T ≡ (a + 1) + length rest
behind-token T a u rest t h i = let l : length u ≡ length (t ∷ rest) = ap (λ (x : List Terminal). length x) h in omega (arith, i, l)

head-whole : (e : Edition) (T n : ℕ) → Below e T n → (a : ℕ) (x : Phrase) (Y : List Part) (u : List Terminal) (es : List Event) (os : List End) → T ≡ a + length u
    → Trace e n (flat x ++ flats Y) u es os → Untracing e u es T a (phrase x ∷ Y) os
head-whole e T n IH a (p.skip w) Y u es os i r =
    let z = after-skip e n w (flats Y) u es os r in
    let m = IH z.size (a + 1) Y z.rest z.others os (behind-token T a u z.rest z.token z.tokens i) z.less z.trace in
    subst (λ (v : List Terminal). Untracing e v es T a (phrase (p.skip w) ∷ Y) os) (sym z.tokens)
    (subst (λ (fs : List Event). Untracing e (z.token ∷ z.rest) fs T a (phrase (p.skip w) ∷ Y) os) (sym z.events)
    (record {
      matches = skipped w z.token (phrases Y) z.rest z.others (subst (λ (t : Terminal). same w t ≡ true) z.is (same-self w)) m.matches;
      balance = m.balance;
    }))
head-whole e T n IH a (p.keep w) Y u es os i r =
    let z = after-keep e n w (flats Y) u es os r in
    let m = IH z.size (a + 1) Y z.rest z.others os (behind-token T a u z.rest z.token z.tokens i) z.less z.trace in
    subst (λ (v : List Terminal). Untracing e v es T a (phrase (p.keep w) ∷ Y) os) (sym z.tokens)
    (subst (λ (fs : List Event). Untracing e (z.token ∷ z.rest) fs T a (phrase (p.keep w) ∷ Y) os) (sym z.events)
    (record {
      matches = kept w z.token (phrases Y) z.rest z.others (subst (λ (t : Terminal). same w t ≡ true) z.is (same-self w)) m.matches;
      balance = m.balance;
    }))
head-whole e T n IH a (p.make f) Y u es os i r =
    let z = after-make e n f (flats Y) u es os r in
    let m = IH z.size a Y u z.others os i z.less z.trace in
    subst (λ (fs : List Event). Untracing e u fs T a (phrase (p.make f) ∷ Y) os) (sym z.events)
    (record { matches = made f (phrases Y) u z.others m.matches; balance = m.balance })
head-whole e T n IH a (x ▸ y) Y u es os i r =
    let m = head-whole e T n IH a x (phrase y ∷ Y) u es os i (subst (λ (s : Way). Trace e n s u es os) (append_assoc (flat x) (flat y) (flats Y)) r) in
    record { matches = both x y (phrases Y) u es m.matches; balance = m.balance }
head-whole e T n IH a (p.rule q) Y u es os i r = elim (opens e n (rule q ∷ flats Y) u es os r refl) [
  | o_here k _ _ l d ↦
      let len = length u in
      let E = ending (counted q) len Y in
      let m = IH k a (phrase (definition e q) ∷ E) u es os i l (subst (λ (z : Way). Trace e k (flat (definition e q) ++ z) u es os) (sym (flats-ending (counted q) len Y)) d) in
      let F = inside (counted q) (round_of Y) ∷ framed Y in
      let v = same_match e (definition e q ∷ phrases E) (definition e q ∷ phrases Y) u es (ap (λ (z : List Phrase). definition e q ∷ z) (phrases-ending (counted q) len Y)) m.matches F a in
      record {
        matches = by_rule q (phrases Y) u es v.0;
        balance = λ n. (let rest = openings e (definition e q ∷ phrases Y) u es v.0 F a in
            let x : count n (starts (counted q) (round_of Y) a ++ rest) ≡ count n (starts (counted q) (round_of Y) a) + count n rest = count-append n (starts (counted q) (round_of Y) a) rest in
            let w : waiting n T E ≡ count n (starts (counted q) (round_of Y) a) + waiting n T Y = waiting-ending n T a len (counted q) Y i in
            let f : count n (openings e (definition e q ∷ phrases E) u es m.matches (round_of E ∷ framed E) a) ≡ count n rest =
            ap (λ (z : Around). count n (openings e (definition e q ∷ phrases E) u es m.matches (z ∷ framed E) a)) (round-ending (counted q) len Y)
            ∙ ap (λ (z : List Around). count n (openings e (definition e q ∷ phrases E) u es m.matches (inside (counted q) (round_of Y) ∷ z) a)) (framed-ending (counted q) len Y)
            ∙ ap (count n) v.1 in
            let y = m.balance n in
            omega (arith, x, w, f, y));
      }
  | o_there _ _ o ↦ elim o [ ]
]
head-whole e T n IH a (x or y) Y u es os i r = elim (opens e n (either x y ∷ flats Y) u es os r refl) [
  | o_here k _ _ l d ↦ let m = IH k a (phrase x ∷ Y) u es os i l d in record { matches = left x y (phrases Y) u es m.matches; balance = m.balance }
  | o_there _ _ (o_here k _ _ l d) ↦ let m = IH k a (phrase y ∷ Y) u es os i l d in record { matches = right x y (phrases Y) u es m.matches; balance = m.balance }
  | o_there _ _ (o_there _ _ o) ↦ elim o [ ]
]
head-whole e T n IH a (p.option x) Y u es os i r = elim (opens e n (option x ∷ flats Y) u es os r refl) [
  | o_here k _ _ l d ↦ let m = IH k a Y u es os i l d in record { matches = left_out x (phrases Y) u es m.matches; balance = m.balance }
  | o_there _ _ (o_here k _ _ l d) ↦ let m = IH k a (phrase x ∷ Y) u es os i l d in record { matches = put_in x (phrases Y) u es m.matches; balance = m.balance }
  | o_there _ _ (o_there _ _ o) ↦ elim o [ ]
]
head-whole e T n IH a (p.many x) Y u es os i r = elim (opens e n (many x ∷ flats Y) u es os r refl) [
  | o_here k _ _ l d ↦ let m = IH k a Y u es os i l d in record { matches = no_more x (phrases Y) u es m.matches; balance = m.balance }
  | o_there _ _ (o_here k _ _ l d) ↦ let m = IH k a (phrase x ∷ (phrase (p.many x) ∷ Y)) u es os i l d in record { matches = one_more x (phrases Y) u es m.matches; balance = m.balance }
  | o_there _ _ (o_there _ _ o) ↦ elim o [ ]
]

whole-at : (e : Edition) (T n : ℕ) → Below e T n → (a : ℕ) (Y : List Part) (u : List Terminal) (es : List Event) (os : List End) → T ≡ a + length u
    → Trace e n (flats Y) u es os → Untracing e u es T a Y os
whole-at e T n IH a [] u es os i r =
    let z = at-end e n u es os r in
    subst (λ (v : List Terminal). Untracing e v es T a [] os) (sym z.0) (subst (λ (fs : List Event). Untracing e [] fs T a [] os) (sym z.1)
    (subst (Untracing e [] [] T a []) (sym z.2) (record { matches = done; balance = λ n. refl })))
whole-at e T n IH a (phrase x ∷ Y) u es os i r = head-whole e T n IH a x Y u es os i r
whole-at e T n IH a (end k s ∷ Y) u es os i r =
    let z = after-close e n k s (flats Y) u es os r in
    let m = IH z.size a Y u es z.others i z.less z.trace in
    subst (Untracing e u es T a (end k s ∷ Y)) (sym (z.ends ∙ ap (λ (d : ℕ). ended s (d + 1) ∷ z.others) (round-flats k Y)))
    (record { matches = m.matches; balance = λ n. (let y = m.balance n in omega (arith, y)) })

below : (e : Edition) (T n : ℕ) → Below e T n
below e T zero m a Y u es os i l r = absurd (omega (arith, l))
below e T (suc n) m a Y u es os i l r = whole-at e T m (λ k b L v fs qs j h d. below e T n k b L v fs qs j (omega (arith, h, l)) d) a Y u es os i r

pub whole : (e : Edition) (n T a : ℕ) (Y : List Part) (u : List Terminal) (es : List Event) (os : List End) → T ≡ a + length u → Trace e n (flats Y) u es os → Untracing e u es T a Y os
whole e n T a Y u es os i r = below e T (suc n) n a Y u es os i (omega arith) r
