-- Matches of items, with their lengths, and with what ended in its order.
use Rattle.std.proofs.Common.{◌≡◌, ℕ, zero, suc, ◌+◌, ◌<◌, Bool, true, false, List, [], ◌∷◌, ◌++◌, length, Option, Some, None, refl, sym, ap, ◌∙◌, subst, append_assoc, arith}
use Rattle.std.proofs.lemmas.Bool.{false≢true}
use Rattle.vv_grammar.specs.declared.edition.Edition.{Edition}
use Rattle.vv_grammar.specs.declared.event.Event.{Event}
use Rattle.vv_grammar.specs.declared.event.Event.TheVariants as event
use Rattle.vv_grammar.specs.declared.form.Form.{Form}
use Rattle.vv_grammar.specs.declared.terminal.Terminal.{Terminal}
use Rattle.vv_grammar.specs.Terminals.{same}
use Rattle.vv_productions.specs.Phrases.{Production, Phrase}
use Rattle.vv_productions.specs.Productions.{definition}
use Rattle.vv_productions.specs.Depths.{Kind, counted}
use Rattle.vv_productions.proofs.Equal.{same-is}
use Rattle.vv_productions.proofs.Items.{skip, keep, make, rule, either, option, many, close, Way, flat, closing, put, put-append, put-flat, round}
use Rattle.vv_productions.proofs.Among.{In, at_head, behind}

-- What ended: how many tokens were left where it began, and its depth.
pub record End : Type 0 where
  pub left : ℕ
  pub depth : ℕ

abbrev pub ended : ℕ → ℕ → End
ended s d = record { left = s; depth = d }

pub data Trace (e : Edition) : ℕ → Way → List Terminal → List Event → List End → Type 0 where
  t_done : Trace e zero [] [] [] []
  t_skip : (n : ℕ) (w t : Terminal) (K : Way) (u : List Terminal) (es : List Event) (os : List End)
      → same w t ≡ true → Trace e n K u es os → Trace e (suc n) (skip w ∷ K) (t ∷ u) (event.Skip ∷ es) os
  t_keep : (n : ℕ) (w t : Terminal) (K : Way) (u : List Terminal) (es : List Event) (os : List End)
      → same w t ≡ true → Trace e n K u es os → Trace e (suc n) (keep w ∷ K) (t ∷ u) (event.Keep ∷ es) os
  t_make : (n : ℕ) (f : Form) (K : Way) (u : List Terminal) (es : List Event) (os : List End)
      → Trace e n K u es os → Trace e (suc n) (make f ∷ K) u (event.Make f ∷ es) os
  t_rule : (n : ℕ) (p : Production) (K : Way) (u : List Terminal) (es : List Event) (os : List End)
      → Trace e n (flat (definition e p) ++ closing (counted p) (length u) K) u es os → Trace e (suc n) (rule p ∷ K) u es os
  t_left : (n : ℕ) (a b : Phrase) (K : Way) (u : List Terminal) (es : List Event) (os : List End)
      → Trace e n (flat a ++ K) u es os → Trace e (suc n) (either a b ∷ K) u es os
  t_right : (n : ℕ) (a b : Phrase) (K : Way) (u : List Terminal) (es : List Event) (os : List End)
      → Trace e n (flat b ++ K) u es os → Trace e (suc n) (either a b ∷ K) u es os
  t_none : (n : ℕ) (a : Phrase) (K : Way) (u : List Terminal) (es : List Event) (os : List End)
      → Trace e n K u es os → Trace e (suc n) (option a ∷ K) u es os
  t_some : (n : ℕ) (a : Phrase) (K : Way) (u : List Terminal) (es : List Event) (os : List End)
      → Trace e n (flat a ++ K) u es os → Trace e (suc n) (option a ∷ K) u es os
  t_stop : (n : ℕ) (a : Phrase) (K : Way) (u : List Terminal) (es : List Event) (os : List End)
      → Trace e n K u es os → Trace e (suc n) (many a ∷ K) u es os
  t_more : (n : ℕ) (a : Phrase) (K : Way) (u : List Terminal) (es : List Event) (os : List End)
      → Trace e n (flat a ++ (many a ∷ K)) u es os → Trace e (suc n) (many a ∷ K) u es os
  t_close : (n : ℕ) (k : Kind) (s : ℕ) (K : Way) (u : List Terminal) (es : List Event) (os : List End)
      → Trace e n K u es os → Trace e (suc n) (close k s ∷ K) u es (ended s (round k K + 1) ∷ os)

pub record Traced (e : Edition) (s : Way) (u : List Terminal) (es : List Event) (os : List End) : Type 0 where
  pub size : ℕ
  pub trace : Trace e size s u es os

-- What items that start with an open one can become, before so many tokens.
abbrev pub expand : Edition → ℕ → Way → List Way
expand e h (rule p ∷ K) = (flat (definition e p) ++ closing (counted p) h K) ∷ []
expand e h (either a b ∷ K) = (flat a ++ K) ∷ (flat b ++ K) ∷ []
expand e h (option a ∷ K) = K ∷ (flat a ++ K) ∷ []
expand e h (many a ∷ K) = K ∷ (flat a ++ (many a ∷ K)) ∷ []
expand e h _ = []

abbrev pub is_open : Way → Bool
is_open (rule p ∷ K) = true
is_open (either a b ∷ K) = true
is_open (option a ∷ K) = true
is_open (many a ∷ K) = true
is_open _ = false

-- one of these has a shorter trace
pub data Opened (e : Edition) (n : ℕ) (u : List Terminal) (es : List Event) (os : List End) : List Way → Type 0 where
  o_here : (m : ℕ) (x : Way) (xs : List Way) → m < n → Trace e m x u es os → Opened e n u es os (x ∷ xs)
  o_there : (x : Way) (xs : List Way) → Opened e n u es os xs → Opened e n u es os (x ∷ xs)

pub opens : (e : Edition) (n : ℕ) (s : Way) (u : List Terminal) (es : List Event) (os : List End) → Trace e n s u es os → is_open s ≡ true → Opened e n u es os (expand e (length u) s)
opens e _ _ _ _ _ t_done o = absurd (false≢true o)
opens e _ _ _ _ _ (t_skip n w t K u es os s d) o = absurd (false≢true o)
opens e _ _ _ _ _ (t_keep n w t K u es os s d) o = absurd (false≢true o)
opens e _ _ _ _ _ (t_make n f K u es os d) o = absurd (false≢true o)
opens e _ _ _ _ _ (t_close n k s K u es os d) o = absurd (false≢true o)
opens e _ _ _ _ _ (t_rule n p K u es os d) o = o_here n (flat (definition e p) ++ closing (counted p) (length u) K) [] (omega arith) d
opens e _ _ _ _ _ (t_left n a b K u es os d) o = o_here n (flat a ++ K) ((flat b ++ K) ∷ []) (omega arith) d
opens e _ _ _ _ _ (t_right n a b K u es os d) o = o_there (flat a ++ K) ((flat b ++ K) ∷ []) (o_here n (flat b ++ K) [] (omega arith) d)
opens e _ _ _ _ _ (t_none n a K u es os d) o = o_here n K ((flat a ++ K) ∷ []) (omega arith) d
opens e _ _ _ _ _ (t_some n a K u es os d) o = o_there K ((flat a ++ K) ∷ []) (o_here n (flat a ++ K) [] (omega arith) d)
opens e _ _ _ _ _ (t_stop n a K u es os d) o = o_here n K ((flat a ++ (many a ∷ K)) ∷ []) (omega arith) d
opens e _ _ _ _ _ (t_more n a K u es os d) o = o_there K ((flat a ++ (many a ∷ K)) ∷ []) (o_here n (flat a ++ (many a ∷ K)) [] (omega arith) d)

-- what becomes of items stands for them
pub closes : (e : Edition) (s g : Way) (u : List Terminal) (es : List Event) (os : List End) → In g (expand e (length u) s) → Traced e g u es os → Traced e s u es os
closes e [] g u es os i r = elim i [ ]
closes e (skip w ∷ K) g u es os i r = elim i [ ]
closes e (keep w ∷ K) g u es os i r = elim i [ ]
closes e (make f ∷ K) g u es os i r = elim i [ ]
closes e (close k s ∷ K) g u es os i r = elim i [ ]
closes e (rule p ∷ K) _ u es os (at_head _ _) r = record { size = suc r.size; trace = t_rule r.size p K u es os r.trace }
closes e (either a b ∷ K) _ u es os (at_head _ _) r = record { size = suc r.size; trace = t_left r.size a b K u es os r.trace }
closes e (either a b ∷ K) _ u es os (behind _ _ _ (at_head _ _)) r = record { size = suc r.size; trace = t_right r.size a b K u es os r.trace }
closes e (option a ∷ K) _ u es os (at_head _ _) r = record { size = suc r.size; trace = t_none r.size a K u es os r.trace }
closes e (option a ∷ K) _ u es os (behind _ _ _ (at_head _ _)) r = record { size = suc r.size; trace = t_some r.size a K u es os r.trace }
closes e (many a ∷ K) _ u es os (at_head _ _) r = record { size = suc r.size; trace = t_stop r.size a K u es os r.trace }
closes e (many a ∷ K) _ u es os (behind _ _ _ (at_head _ _)) r = record { size = suc r.size; trace = t_more r.size a K u es os r.trace }
closes e (rule p ∷ K) g u es os (behind _ _ _ i) r = elim i [ ]
closes e (either a b ∷ K) g u es os (behind _ _ _ (behind _ _ _ i)) r = elim i [ ]
closes e (option a ∷ K) g u es os (behind _ _ _ (behind _ _ _ i)) r = elim i [ ]
closes e (many a ∷ K) g u es os (behind _ _ _ (behind _ _ _ i)) r = elim i [ ]

-- the same lists put into the tokens, with something behind each
abbrev pub all_before : ℕ → ℕ → Way → List Way → List Way
all_before h b y [] = []
all_before h b y (x ∷ xs) = (put h b x ++ y) ∷ all_before h b y xs

put-closing : (h b : ℕ) (o : Option Kind) (K : Way) → put h b (closing o 0 K) ≡ closing o h (put h b K)
put-closing h b None K = refl
put-closing h b (Some k) K = refl

closing-append : (o : Option Kind) (s : ℕ) (K y : Way) → closing o s K ++ y ≡ closing o s (K ++ y)
closing-append None s K y = refl
closing-append (Some k) s K y = refl

flat-put : (h b : ℕ) (a : Phrase) (K y : Way) → flat a ++ (put h b K ++ y) ≡ put h b (flat a ++ K) ++ y
flat-put h b a K y =
    sym (append_assoc (flat a) (put h b K) y) ∙ ap (λ (z : Way). z ++ y) (ap (λ (z : Way). z ++ put h b K) (sym (put-flat h b a)) ∙ sym (put-append h b (flat a) K))

rule-put : (e : Edition) (h b : ℕ) (p : Production) (K y : Way)
    → flat (definition e p) ++ closing (counted p) h (put h b K ++ y) ≡ put h b (flat (definition e p) ++ closing (counted p) 0 K) ++ y
rule-put e h b p K y =
    ap (λ (z : Way). flat (definition e p) ++ z) (sym (closing-append (counted p) h (put h b K) y) ∙ ap (λ (z : Way). z ++ y) (sym (put-closing h b (counted p) K)))
    ∙ flat-put h b (definition e p) (closing (counted p) 0 K) y

pub expand-append : (e : Edition) (h b : ℕ) (s y : Way) → is_open s ≡ true → expand e h (put h b s ++ y) ≡ all_before h b y (expand e 0 s)
expand-append e h b [] y o = absurd (false≢true o)
expand-append e h b (skip w ∷ K) y o = absurd (false≢true o)
expand-append e h b (keep w ∷ K) y o = absurd (false≢true o)
expand-append e h b (make f ∷ K) y o = absurd (false≢true o)
expand-append e h b (close k s ∷ K) y o = absurd (false≢true o)
expand-append e h b (rule p ∷ K) y o = ap (λ (x : Way). x ∷ []) (rule-put e h b p K y)
expand-append e h b (either x z ∷ K) y o =
    ap (λ (v : Way). v ∷ (flat z ++ (put h b K ++ y)) ∷ []) (flat-put h b x K y)
    ∙ ap (λ (v : Way). (put h b (flat x ++ K) ++ y) ∷ v ∷ []) (flat-put h b z K y)
expand-append e h b (option x ∷ K) y o = ap (λ (v : Way). (put h b K ++ y) ∷ v ∷ []) (flat-put h b x K y)
expand-append e h b (many x ∷ K) y o = ap (λ (v : Way). (put h b K ++ y) ∷ v ∷ []) (flat-put h b x (many x ∷ K) y)

pub open-append : (h b : ℕ) (s y : Way) → is_open s ≡ true → is_open (put h b s ++ y) ≡ true
open-append h b [] y o = absurd (false≢true o)
open-append h b (skip w ∷ K) y o = absurd (false≢true o)
open-append h b (keep w ∷ K) y o = absurd (false≢true o)
open-append h b (make f ∷ K) y o = absurd (false≢true o)
open-append h b (close k s ∷ K) y o = absurd (false≢true o)
open-append h b (rule p ∷ K) y o = refl
open-append h b (either x z ∷ K) y o = refl
open-append h b (option x ∷ K) y o = refl
open-append h b (many x ∷ K) y o = refl

in-before : (h b : ℕ) (y x : Way) (xs : List Way) → In x xs → In (put h b x ++ y) (all_before h b y xs)
in-before h b y x [] i = elim i [ ]
in-before h b y x (_ ∷ xs) (at_head _ _) = at_head (put h b x ++ y) (all_before h b y xs)
in-before h b y x (_ ∷ xs) (behind _ z _ i) = behind (put h b x ++ y) (put h b z ++ y) (all_before h b y xs) (in-before h b y x xs i)

in-open : (e : Edition) (s g : Way) → In g (expand e 0 s) → is_open s ≡ true
in-open e [] g i = elim i [ ]
in-open e (skip w ∷ K) g i = elim i [ ]
in-open e (keep w ∷ K) g i = elim i [ ]
in-open e (make f ∷ K) g i = elim i [ ]
in-open e (close k s ∷ K) g i = elim i [ ]
in-open e (rule p ∷ K) g i = refl
in-open e (either a b ∷ K) g i = refl
in-open e (option a ∷ K) g i = refl
in-open e (many a ∷ K) g i = refl

-- the same with something behind both
pub closes-before : (e : Edition) (b : ℕ) (s g y : Way) (u : List Terminal) (es : List Event) (os : List End)
    → In g (expand e 0 s) → Traced e (put (length u) b g ++ y) u es os → Traced e (put (length u) b s ++ y) u es os
closes-before e b s g y u es os i r =
    let h = length u in
    closes e (put h b s ++ y) (put h b g ++ y) u es os
    (subst (λ (xs : List Way). In (put h b g ++ y) xs) (sym (expand-append e h b s y (in-open e s g i))) (in-before h b y g (expand e 0 s) i)) r

-- what was a token
pub record AfterToken (e : Edition) (n : ℕ) (w : Terminal) (f : Event) (K : Way) (u : List Terminal) (es : List Event) (os : List End) : Type 0 where
  pub size : ℕ
  pub token : Terminal
  pub rest : List Terminal
  pub others : List Event
  pub less : size < n
  pub is : w ≡ token
  pub tokens : u ≡ token ∷ rest
  pub events : es ≡ f ∷ others
  pub trace : Trace e size K rest others os

pub after-skip : (e : Edition) (n : ℕ) (w : Terminal) (K : Way) (u : List Terminal) (es : List Event) (os : List End) → Trace e n (skip w ∷ K) u es os → AfterToken e n w event.Skip K u es os
after-skip e _ _ _ _ _ _ (t_skip n w t K u es os s d) = record { size = n; token = t; rest = u; others = es; less = omega arith; is = same-is w t s; tokens = refl; events = refl; trace = d }

pub after-keep : (e : Edition) (n : ℕ) (w : Terminal) (K : Way) (u : List Terminal) (es : List Event) (os : List End) → Trace e n (keep w ∷ K) u es os → AfterToken e n w event.Keep K u es os
after-keep e _ _ _ _ _ _ (t_keep n w t K u es os s d) = record { size = n; token = t; rest = u; others = es; less = omega arith; is = same-is w t s; tokens = refl; events = refl; trace = d }

-- what was a form
pub record AfterMake (e : Edition) (n : ℕ) (f : Form) (K : Way) (u : List Terminal) (es : List Event) (os : List End) : Type 0 where
  pub size : ℕ
  pub others : List Event
  pub less : size < n
  pub events : es ≡ event.Make f ∷ others
  pub trace : Trace e size K u others os

pub after-make : (e : Edition) (n : ℕ) (f : Form) (K : Way) (u : List Terminal) (es : List Event) (os : List End) → Trace e n (make f ∷ K) u es os → AfterMake e n f K u es os
after-make e _ _ _ _ _ _ (t_make n f K u es os d) = record { size = n; others = es; less = omega arith; events = refl; trace = d }

-- what was an end
pub record AfterClose (e : Edition) (n : ℕ) (k : Kind) (s : ℕ) (K : Way) (u : List Terminal) (es : List Event) (os : List End) : Type 0 where
  pub size : ℕ
  pub others : List End
  pub less : size < n
  pub ends : os ≡ ended s (round k K + 1) ∷ others
  pub trace : Trace e size K u es others

pub after-close : (e : Edition) (n : ℕ) (k : Kind) (s : ℕ) (K : Way) (u : List Terminal) (es : List Event) (os : List End) → Trace e n (close k s ∷ K) u es os → AfterClose e n k s K u es os
after-close e _ _ _ _ _ _ _ (t_close n k s K u es os d) = record { size = n; others = os; less = omega arith; ends = refl; trace = d }

pub at-end : (e : Edition) (n : ℕ) (u : List Terminal) (es : List Event) (os : List End) → Trace e n [] u es os → (u ≡ []) × (es ≡ []) × (os ≡ [])
at-end e _ _ _ _ t_done = (refl, refl, refl)
