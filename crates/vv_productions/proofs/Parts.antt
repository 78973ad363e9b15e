-- What matches has a trace, and as often something is too deep.
use Rattle.std.proofs.Common.{◌≡◌, ℕ, zero, suc, ◌+◌, ◌-◌, List, [], ◌∷◌, ◌++◌, length, Option, Some, None, refl, sym, ap, ◌∙◌, subst, append_assoc, arith}
use Rattle.vv_grammar.specs.declared.edition.Edition.{Edition}
use Rattle.vv_grammar.specs.declared.event.Event.{Event}
use Rattle.vv_grammar.specs.declared.event.Event.TheVariants as event
use Rattle.vv_grammar.specs.declared.terminal.Terminal.{Terminal}
use Rattle.vv_productions.specs.Phrases as p
use Rattle.vv_productions.specs.Phrases.{Production, Phrase, ◌▸◌, ◌or◌}
use Rattle.vv_productions.specs.Productions.{definition}
use Rattle.vv_productions.specs.Matches.{Matches, done, skipped, kept, made, by_rule, both, left, right, left_out, put_in, no_more, one_more}
use Rattle.vv_productions.specs.Depths.{Kind, an_expression, a_statement, counted, Around, starts, inside, openings}
use Rattle.vv_productions.proofs.Items.{Way, close, flat, closing, more_if, same_kind, round, round-append}
use Rattle.vv_productions.proofs.Traces.{End, ended, Trace, t_done, t_skip, t_keep, t_make, t_rule, t_left, t_right, t_none, t_some, t_stop, t_more, t_close}
use Rattle.vv_productions.proofs.Counts.{hit, count, count-append, ends_count}

-- A phrase, or an end, with how many tokens were left where it began.
pub data Part : Type 0 where
  phrase : Phrase → Part
  end : Kind → ℕ → Part

abbrev pub phrases : List Part → List Phrase
phrases [] = []
phrases (phrase a ∷ Y) = a ∷ phrases Y
phrases (end k s ∷ Y) = phrases Y

abbrev pub flats : List Part → Way
flats [] = []
flats (phrase a ∷ Y) = flat a ++ flats Y
flats (end k s ∷ Y) = close k s ∷ flats Y

abbrev pub rounds : Kind → List Part → ℕ
rounds k [] = 0
rounds k (phrase a ∷ Y) = rounds k Y
rounds k (end j s ∷ Y) = more_if (same_kind k j) (rounds k Y)

abbrev pub round_of : List Part → Around
round_of Y = record { expressions = rounds an_expression Y; statements = rounds a_statement Y }

abbrev pub framed : List Part → List Around
framed [] = []
framed (phrase a ∷ Y) = round_of Y ∷ framed Y
framed (end k s ∷ Y) = framed Y

-- what has started and is not at its end
abbrev pub waiting : ℕ → ℕ → List Part → ℕ
waiting n T [] = 0
waiting n T (phrase a ∷ Y) = waiting n T Y
waiting n T (end k s ∷ Y) = hit n (T - s) (rounds k Y + 1) + waiting n T Y

abbrev pub ending : Option Kind → ℕ → List Part → List Part
ending None s Y = Y
ending (Some k) s Y = end k s ∷ Y

round-flat : (k : Kind) (a : Phrase) → round k (flat a) ≡ 0
round-flat k (p.skip w) = refl
round-flat k (p.keep w) = refl
round-flat k (p.make f) = refl
round-flat k (p.rule q) = refl
round-flat k (a ▸ b) = let x = round-flat k a in let y = round-flat k b in let z = round-append k (flat a) (flat b) in omega (arith, x, y, z)
round-flat k (a or b) = refl
round-flat k (p.option a) = refl
round-flat k (p.many a) = refl

pub round-flats : (k : Kind) (Y : List Part) → round k (flats Y) ≡ rounds k Y
round-flats k [] = refl
round-flats k (phrase a ∷ Y) = let x = round-flat k a in let y = round-flats k Y in let z = round-append k (flat a) (flats Y) in omega (arith, x, y, z)
round-flats k (end j s ∷ Y) = ap (more_if (same_kind k j)) (round-flats k Y)

pub flats-ending : (o : Option Kind) (s : ℕ) (Y : List Part) → flats (ending o s Y) ≡ closing o s (flats Y)
flats-ending None s Y = refl
flats-ending (Some k) s Y = refl

pub phrases-ending : (o : Option Kind) (s : ℕ) (Y : List Part) → phrases (ending o s Y) ≡ phrases Y
phrases-ending None s Y = refl
phrases-ending (Some k) s Y = refl

pub framed-ending : (o : Option Kind) (s : ℕ) (Y : List Part) → framed (ending o s Y) ≡ framed Y
framed-ending None s Y = refl
framed-ending (Some k) s Y = refl

pub round-ending : (o : Option Kind) (s : ℕ) (Y : List Part) → round_of (ending o s Y) ≡ inside o (round_of Y)
round-ending None s Y = refl
round-ending (Some an_expression) s Y = refl
round-ending (Some a_statement) s Y = refl

pub waiting-ending : (n T a len : ℕ) (o : Option Kind) (Y : List Part) → T ≡ a + len → waiting n T (ending o len Y) ≡ count n (starts o (round_of Y) a) + waiting n T Y
waiting-ending n T a len None Y h = omega arith
waiting-ending n T a len (Some an_expression) Y h =
    let y : hit n (T - len) (rounds an_expression Y + 1) ≡ hit n a (rounds an_expression Y + 1) = ap (λ (z : ℕ). hit n z (rounds an_expression Y + 1)) (let i : T - len ≡ a = omega (arith, h) in i) in omega (arith, y)
waiting-ending n T a len (Some a_statement) Y h =
    let y : hit n (T - len) (rounds a_statement Y + 1) ≡ hit n a (rounds a_statement Y + 1) = ap (λ (z : ℕ). hit n z (rounds a_statement Y + 1)) (let i : T - len ≡ a = omega (arith, h) in i) in omega (arith, y)

-- as often something is too deep in a match, and among what waits, as among the ends
abbrev pub Balance : (e : Edition) (K : List Phrase) (u : List Terminal) (es : List Event) → Matches e K u es → ℕ → ℕ → List Part → List End → Type 0
Balance e K u es m T a Y os = (n : ℕ) → count n (openings e K u es m (framed Y) a) + waiting n T Y ≡ ends_count n T os

pub record Tracing (e : Edition) (K : List Phrase) (u : List Terminal) (es : List Event) (m : Matches e K u es) (T a : ℕ) (Y : List Part) : Type 0 where
  pub ends : List End
  pub size : ℕ
  pub trace : Trace e size (flats Y) u es ends
  pub balance : Balance e K u es m T a Y ends

with-end : (e : Edition) (K : List Phrase) (u : List Terminal) (es : List Event) (m : Matches e K u es) (T a : ℕ) (k : Kind) (s : ℕ) (Y : List Part)
    → Tracing e K u es m T a Y → Tracing e K u es m T a (end k s ∷ Y)
with-end e K u es m T a k s Y r = record {
  ends = ended s (rounds k Y + 1) ∷ r.ends;
  size = suc r.size;
  trace = subst (λ (d : ℕ). Trace e (suc r.size) (close k s ∷ flats Y) u es (ended s (d + 1) ∷ r.ends)) (round-flats k Y) (t_close r.size k s (flats Y) u es r.ends r.trace);
  balance = λ n. (let x = r.balance n in omega (arith, x));
}

abbrev IsSome : List Phrase → Type 0
IsSome [] = ⊥
IsSome (s ∷ K) = Unit {0}

abbrev lead_of : Phrase → List Phrase → Phrase
lead_of s [] = s
lead_of s (x ∷ K) = x

abbrev rest_of : List Phrase → List Phrase
rest_of [] = []
rest_of (x ∷ K) = K

-- behind the ends in front stands the first phrase
from-phrase : (e : Edition) (s : Phrase) (K : List Phrase) (u : List Terminal) (es : List Event) (m : Matches e (s ∷ K) u es) (T a : ℕ)
    → ((Y : List Part) → phrases Y ≡ K → Tracing e (s ∷ K) u es m T a (phrase s ∷ Y)) → (Y : List Part) → phrases Y ≡ s ∷ K → Tracing e (s ∷ K) u es m T a Y
from-phrase e s K u es m T a f [] h = absurd (subst IsSome (sym h) tt)
from-phrase e s K u es m T a f (end k b ∷ Y) h = with-end e (s ∷ K) u es m T a k b Y (from-phrase e s K u es m T a f Y h)
from-phrase e s K u es m T a f (phrase x ∷ Y) h =
    let same : s ≡ x = ap (lead_of x) (sym h) in
    subst (λ (z : Phrase). Tracing e (s ∷ K) u es m T a (phrase z ∷ Y)) same (f Y (ap rest_of h))

from-nothing : (e : Edition) (T a : ℕ) (Y : List Part) → phrases Y ≡ [] → Tracing e [] [] [] done T a Y
from-nothing e T a [] h = record { ends = []; size = zero; trace = t_done; balance = λ n. refl }
from-nothing e T a (end k b ∷ Y) h = with-end e [] [] [] done T a k b Y (from-nothing e T a Y h)
from-nothing e T a (phrase s ∷ Y) h = absurd (subst IsSome h tt)

pub traced : (e : Edition) (K : List Phrase) (u : List Terminal) (es : List Event) (m : Matches e K u es) (T a : ℕ) → T ≡ a + length u → (Y : List Part) → phrases Y ≡ K → Tracing e K u es m T a Y
traced e _ _ _ done T a i Y h = from-nothing e T a Y h
traced e _ _ _ (skipped w t K u es s m) T a i Y h = from-phrase e (p.skip w) K (t ∷ u) (event.Skip ∷ es) (skipped w t K u es s m) T a (λ Y h.
    (let r = traced e K u es m T (a + 1) (omega (arith, i)) Y h in
    record { ends = r.ends; size = suc r.size; trace = t_skip r.size w t (flats Y) u es r.ends s r.trace; balance = r.balance })) Y h
traced e _ _ _ (kept w t K u es s m) T a i Y h = from-phrase e (p.keep w) K (t ∷ u) (event.Keep ∷ es) (kept w t K u es s m) T a (λ Y h.
    (let r = traced e K u es m T (a + 1) (omega (arith, i)) Y h in
    record { ends = r.ends; size = suc r.size; trace = t_keep r.size w t (flats Y) u es r.ends s r.trace; balance = r.balance })) Y h
traced e _ _ _ (made f K u es m) T a i Y h = from-phrase e (p.make f) K u (event.Make f ∷ es) (made f K u es m) T a (λ Y h.
    (let r = traced e K u es m T a i Y h in record { ends = r.ends; size = suc r.size; trace = t_make r.size f (flats Y) u es r.ends r.trace; balance = r.balance })) Y h
traced e _ _ _ (by_rule q K u es m) T a i Y h = from-phrase e (p.rule q) K u es (by_rule q K u es m) T a (λ Y h.
    (let len = length u in
    let E = ending (counted q) len Y in
    let r = traced e (definition e q ∷ K) u es m T a i (phrase (definition e q) ∷ E) (ap (λ (z : List Phrase). definition e q ∷ z) (phrases-ending (counted q) len Y ∙ h)) in
    record {
      ends = r.ends;
      size = suc r.size;
      trace = t_rule r.size q (flats Y) u es r.ends (subst (λ (z : Way). Trace e r.size (flat (definition e q) ++ z) u es r.ends) (flats-ending (counted q) len Y) r.trace);
      balance = λ n. (let rest = openings e (definition e q ∷ K) u es m (inside (counted q) (round_of Y) ∷ framed Y) a in
          let x : count n (starts (counted q) (round_of Y) a ++ rest) ≡ count n (starts (counted q) (round_of Y) a) + count n rest = count-append n (starts (counted q) (round_of Y) a) rest in
          let w : waiting n T E ≡ count n (starts (counted q) (round_of Y) a) + waiting n T Y = waiting-ending n T a len (counted q) Y i in
          let f : count n (openings e (definition e q ∷ K) u es m (round_of E ∷ framed E) a) ≡ count n rest =
          ap (λ (z : Around). count n (openings e (definition e q ∷ K) u es m (z ∷ framed E) a)) (round-ending (counted q) len Y)
          ∙ ap (λ (z : List Around). count n (openings e (definition e q ∷ K) u es m (inside (counted q) (round_of Y) ∷ z) a)) (framed-ending (counted q) len Y) in
          let y = r.balance n in
          omega (arith, x, w, f, y));
    })) Y h
traced e _ _ _ (both a b K u es m) T at i Y h = from-phrase e (a ▸ b) K u es (both a b K u es m) T at (λ Y h.
    (let r = traced e (a ∷ b ∷ K) u es m T at i (phrase a ∷ (phrase b ∷ Y)) (ap (λ (z : List Phrase). a ∷ (b ∷ z)) h) in
    record { ends = r.ends; size = r.size; trace = subst (λ (z : Way). Trace e r.size z u es r.ends) (sym (append_assoc (flat a) (flat b) (flats Y))) r.trace; balance = r.balance })) Y h
traced e _ _ _ (left a b K u es m) T at i Y h = from-phrase e (a or b) K u es (left a b K u es m) T at (λ Y h.
    (let r = traced e (a ∷ K) u es m T at i (phrase a ∷ Y) (ap (λ (z : List Phrase). a ∷ z) h) in
    record { ends = r.ends; size = suc r.size; trace = t_left r.size a b (flats Y) u es r.ends r.trace; balance = r.balance })) Y h
traced e _ _ _ (right a b K u es m) T at i Y h = from-phrase e (a or b) K u es (right a b K u es m) T at (λ Y h.
    (let r = traced e (b ∷ K) u es m T at i (phrase b ∷ Y) (ap (λ (z : List Phrase). b ∷ z) h) in
    record { ends = r.ends; size = suc r.size; trace = t_right r.size a b (flats Y) u es r.ends r.trace; balance = r.balance })) Y h
traced e _ _ _ (left_out a K u es m) T at i Y h = from-phrase e (p.option a) K u es (left_out a K u es m) T at (λ Y h.
    (let r = traced e K u es m T at i Y h in record { ends = r.ends; size = suc r.size; trace = t_none r.size a (flats Y) u es r.ends r.trace; balance = r.balance })) Y h
traced e _ _ _ (put_in a K u es m) T at i Y h = from-phrase e (p.option a) K u es (put_in a K u es m) T at (λ Y h.
    (let r = traced e (a ∷ K) u es m T at i (phrase a ∷ Y) (ap (λ (z : List Phrase). a ∷ z) h) in
    record { ends = r.ends; size = suc r.size; trace = t_some r.size a (flats Y) u es r.ends r.trace; balance = r.balance })) Y h
traced e _ _ _ (no_more a K u es m) T at i Y h = from-phrase e (p.many a) K u es (no_more a K u es m) T at (λ Y h.
    (let r = traced e K u es m T at i Y h in record { ends = r.ends; size = suc r.size; trace = t_stop r.size a (flats Y) u es r.ends r.trace; balance = r.balance })) Y h
traced e _ _ _ (one_more a K u es m) T at i Y h = from-phrase e (p.many a) K u es (one_more a K u es m) T at (λ Y h.
    (let r = traced e (a ∷ p.many a ∷ K) u es m T at i (phrase a ∷ (phrase (p.many a) ∷ Y)) (ap (λ (z : List Phrase). a ∷ (p.many a ∷ z)) h) in
    record { ends = r.ends; size = suc r.size; trace = t_more r.size a (flats Y) u es r.ends r.trace; balance = r.balance })) Y h
