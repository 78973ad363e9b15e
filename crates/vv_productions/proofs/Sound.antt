-- What the table derives is a match of what its steps stand for, and the same ends in it.
use Rattle.std.proofs.Common.{◌≡◌, inl, inr, ℕ, zero, suc, ◌+◌, true, ◌&&◌, List, [], ◌∷◌, ◌++◌, length, Some, refl, sym, ap, ◌∙◌, subst, append_assoc}
use Rattle.std.proofs.lemmas.Bool.{and_parts, or_cases}
use Rattle.vv_grammar.specs.declared.edition.Edition.{Edition}
use Rattle.vv_grammar.specs.declared.event.Event.{Event}
use Rattle.vv_grammar.specs.declared.form.Form.TheVariants as form
use Rattle.vv_grammar.specs.declared.place.Place.{Place}
use Rattle.vv_grammar.specs.declared.step.Level.{Level}
use Rattle.vv_grammar.specs.declared.step.Level.TheVariants as level
use Rattle.vv_grammar.specs.declared.step.Step.{Step}
use Rattle.vv_grammar.specs.declared.step.Step.TheVariants as step
use Rattle.vv_grammar.specs.declared.step.Take.{Take}
use Rattle.vv_grammar.specs.declared.step.Take.TheVariants as take
use Rattle.vv_grammar.specs.declared.terminal.Terminal.{Terminal}
use Rattle.vv_grammar.specs.Terminals.{contains}
use Rattle.vv_grammar.specs.Table.{Choice, alternatives, otherwise, level_of}
use Rattle.vv_grammar_laws.specs.Derivations.{IsAmong, left, noted}
use Rattle.vv_grammar_laws.proofs.Words.{same-self}
use Rattle.vv_productions.proofs.Items.{Way, skip, keep, make, many, close, flat, put, put-append, at_place, eq_all, eq_all-is}
use Rattle.vv_productions.proofs.Among.{In, at_head, behind, some, some-one, every-in, every_choice, every-choice, every_terminal, every-terminal}
use Rattle.vv_productions.proofs.Traces.{End, ended, expand, Trace, t_done, t_skip, t_keep, t_make, t_stop, t_more, t_close, Traced, closes-before}
use Rattle.vv_productions.proofs.Meanings.{ways}
use Rattle.vv_productions.proofs.Nested.{Nest, at, bare, pushed, level_end, began_behind, entered, bare-pushed, bare-entered, Nested, n_done, n_end, n_make, n_skip, n_keep, n_call, n_pass, n_stop, n_more}
use Rattle.vv_productions.proofs.Steps.{is_part, part, repeated, Means, m_nothing, m_end, m_make, m_skip, m_keep, m_call, m_many, listed, means-split, known, known-append}
use Rattle.vv_productions.proofs.Check.{depth, reaches, level_close, all_ended, turned_ways, taken, is_reached, choice_reached, else_reached, else_known}
use Rattle.vv_productions.proofs.Admitted.{admitted}
use Rattle.vv_productions.proofs.Checked.{single, way-put, put-way}
use Rattle.vv_productions.proofs.Guards.{same-round}

-- a way stands for what it becomes
pub folds : (e : Edition) (b n : ℕ) (x m y : Way) (u : List Terminal) (es : List Event) (os : List End) → reaches e n x m ≡ true
    → Traced e (put (length u) b x ++ y) u es os → Traced e (put (length u) b m ++ y) u es os
folds e b zero x m y u es os h r = subst (λ (z : Way). Traced e (put (length u) b z ++ y) u es os) (sym (eq_all-is m x h)) r
folds e b (suc n) x m y u es os h r = elim (or_cases (eq_all m x) (some (λ g. reaches e n x g) (expand e 0 m)) h) [
  | inl a ↦ subst (λ (z : Way). Traced e (put (length u) b z ++ y) u es os) (sym (eq_all-is m x a)) r
  | inr k ↦ let o = some-one (λ g. reaches e n x g) (expand e 0 m) k in closes-before e b m o.way y u es os o.among (folds e b n x o.way y u es os o.holds r)
]

-- a way of the place matches
pub record Way_of (e : Edition) (q : Place) (b : ℕ) (y : Way) (u : List Terminal) (es : List Event) (os : List End) : Type 0 where
  pub way : Way
  pub among : In way (ways e b q)
  pub traced : Traced e (way ++ y) u es os

reached : (e : Edition) (q : Place) (b : ℕ) (x y : Way) (u : List Terminal) (es : List Event) (os : List End) → is_reached e q x ≡ true
    → Traced e (put (length u) b x ++ y) u es os → Way_of e q b y u es os
reached e q b x y u es os h r =
    let o = some-one (λ m. reaches e depth x m) (ways e 1 q) h in
    record { way = put (length u) b o.way; among = put-way e (length u) b 1 q o.way o.among; traced = folds e b depth x o.way y u es os o.holds r }

took : (e : Edition) (h b : ℕ) (k : Take) (t : Terminal) (x y : Way) (u : List Terminal) (es : List Event) (os : List End) → Traced e (put h b x ++ y) (left k t u) es os
    → Traced e (put h b (taken k t x) ++ y) (t ∷ u) (noted k ++ es) os
took e h b take.Keep t x y u es os r = record { size = suc r.size; trace = t_keep r.size t t (put h b x ++ y) u es os (same-self t) r.trace }
took e h b take.Skip t x y u es os r = record { size = suc r.size; trace = t_skip r.size t t (put h b x ++ y) u es os (same-self t) r.trace }
took e h b take.Look t x y u es os r = r

-- the alternatives of a place
pub choice-known : (e : Edition) (q : Place) (c : Choice) → IsAmong c (alternatives e q) → (known c.steps ≡ true) × (choice_reached e q c ≡ true)
choice-known e q c a =
    let h = and_parts (every_choice (λ c. known c.steps && choice_reached e q c) (alternatives e q)) (else_known (otherwise q) && else_reached e q (otherwise q)) (admitted e q) in
    and_parts (known c.steps) (choice_reached e q c) (every-choice (λ c. known c.steps && choice_reached e q c) (alternatives e q) c h.0 a)

-- what it admits else
pub else-known : (e : Edition) (q : Place) (ss : List Step) → otherwise q ≡ Some ss → (known ss ≡ true) × (else_reached e q (Some ss) ≡ true)
else-known e q ss o =
    let h = and_parts (every_choice (λ c. known c.steps && choice_reached e q c) (alternatives e q)) (else_known (otherwise q) && else_reached e q (otherwise q)) (admitted e q) in
    let k = and_parts (else_known (otherwise q)) (else_reached e q (otherwise q)) h.1 in
    (ap else_known (sym o) ∙ k.0, ap (else_reached e q) (sym o) ∙ k.1)

turned : (e : Edition) (q : Place) (c : Choice) (t : Terminal) (b : ℕ) (x y : Way) (u : List Terminal) (es : List Event) (os : List End)
    → IsAmong c (alternatives e q) → contains c.on t ≡ true → In x (turned_ways e q c) → Traced e (put (length (t ∷ u)) b x ++ y) (left c.take t u) es os
    → Way_of e q b y (t ∷ u) (noted c.take ++ es) os
turned e q c t b x y u es os a h i r =
    let k = every-in (λ x. every_terminal (λ w. is_reached e q (taken c.take w x)) c.on) (turned_ways e q c) x (choice-known e q c a).1 i in
    let w = every-terminal (λ w. is_reached e q (taken c.take w x)) c.on t k h in
    reached e q b (taken c.take t x) y (t ∷ u) (noted c.take ++ es) os w (took e (length (t ∷ u)) b c.take t x y u es os r)

-- what steps stand for matches
pub record Found (e : Edition) (J : List Nest) (u : List Terminal) (es : List Event) (os : List End) : Type 0 where
  pub phrases : Way
  pub means : Means e J phrases
  pub traced : Traced e phrases u es os

-- where the steps behind a choice began
pub began-at : (k : Take) (h b : ℕ) → at_place h b (began_behind k 0 1) ≡ began_behind k h b
began-at take.Keep h b = refl
began-at take.Skip h b = refl
began-at take.Look h b = refl

pub in-ended : (y x : Way) (xs : List Way) → In x xs → In (x ++ y) (all_ended y xs)
in-ended y x [] i = elim i [ ]
in-ended y x (_ ∷ xs) (at_head _ _) = at_head (x ++ y) (all_ended y xs)
in-ended y x (_ ∷ xs) (behind _ z _ i) = behind (x ++ y) (z ++ y) (all_ended y xs) (in-ended y x xs i)

-- behind the end of what starts at a place
pub record Leveled (e : Edition) (l : Level) (h b : ℕ) (J : List Nest) (s : Way) : Type 0 where
  pub rest : Way
  pub means : Means e J rest
  pub is : put h b (level_close l) ++ rest ≡ s

behind-end : (e : Edition) (l : Level) (h b : ℕ) (J : List Nest) (s : Way) → Means e (level_end l h b J) s → Leveled e l h b J s
behind-end e level.Same h b J s m = record { rest = s; means = m; is = refl }
behind-end e level.Expression h b J _ (m_end _ _ _ s m) = record { rest = s; means = m; is = refl }
behind-end e level.ExpressionBehind h b J _ (m_end _ _ _ s m) = record { rest = s; means = m; is = refl }
behind-end e level.Statement h b J _ (m_end _ _ _ s m) = record { rest = s; means = m; is = refl }
behind-end e level.StatementBehind h b J _ (m_end _ _ _ s m) = record { rest = s; means = m; is = refl }

pub record Pair (e : Edition) (q : Place) (c : Choice) (h b : ℕ) (J : List Nest) (u : List Terminal) (es : List Event) (os : List End) : Type 0 where
  pub before : Way
  pub rest : Way
  pub first : In before (turned_ways e q c)
  pub second : Means e J rest
  pub traced : Traced e (put h b before ++ rest) u es os

paired : (e : Edition) (q : Place) (c : Choice) (h b : ℕ) (J : List Nest) (u : List Terminal) (es : List Event) (os : List End) → Found e (entered q c h b J) u es os → Pair e q c h b J u es os
paired e q c h b J u es os f =
    let L = level_end (level_of q) h b J in
    let m = subst (λ (z : ℕ). Means e (pushed c.steps z L) f.phrases) (sym (began-at c.take h b)) f.means in
    let s = means-split e h (began_behind c.take 0 1) b (λ p x i. way-put e h b (began_behind c.take 0 1) p x i) c.steps L f.phrases m in
    let l = behind-end e (level_of q) h b J s.rest s.second in
    record {
      before = s.before ++ level_close (level_of q);
      rest = l.rest;
      first = in-ended (level_close (level_of q)) s.before (listed e (began_behind c.take 0 1) c.steps) s.first;
      second = l.means;
      traced = subst (λ (z : Way). Traced e z u es os)
          (sym (ap (λ (z : Way). z ++ l.rest) (put-append h b s.before (level_close (level_of q))) ∙ append_assoc (put h b s.before) (put h b (level_close (level_of q))) l.rest
          ∙ ap (λ (z : Way). put h b s.before ++ z) l.is ∙ s.is)) f.traced;
    }

found-call : (e : Edition) (q : Place) (b : ℕ) (J : List Nest) (y : Way) (u : List Terminal) (es : List Event) (os : List End) → Means e J y → Way_of e q b y u es os
    → Found e (at (step.Call q) b ∷ J) u es os
found-call e q b J y u es os m w = record { phrases = w.way ++ y; means = m_call q w.way b J y w.among m; traced = w.traced }

one-way : (e : Edition) (q : Place) (b : ℕ) (x : Way) → is_part q ≡ true → In x (ways e b q) → x ≡ flat (part q)
one-way e q b x h i = only (ways e b q) (single e b q h) i
  where
    only : (xs : List Way) → xs ≡ (flat (part q) ∷ []) → In x xs → x ≡ flat (part q)
    only xs k j = at_it (flat (part q)) (subst (In x) k j)
      where
        at_it : (z : Way) → In x (z ∷ []) → x ≡ z
        at_it _ (at_head _ _) = refl
        at_it z (behind _ _ _ o) = elim o [ ]

found-more : (e : Edition) (q : Place) (b : ℕ) (J : List Nest) (u : List Terminal) (es : List Event) (os : List End) (y : Way)
    → Means e (at (step.Make form.Add) b ∷ (at (step.Many q) b ∷ J)) y → Way_of e q b y u es os → Found e (at (step.Many q) b ∷ J) u es os
found-more e q b J u es os _ (m_make _ _ _ _ (m_many _ _ _ s h m)) w =
    let r : Traced e (flat (part q) ++ (make form.Add ∷ many (repeated q) ∷ s)) u es os =
    subst (λ (z : Way). Traced e (z ++ (make form.Add ∷ many (repeated q) ∷ s)) u es os) (one-way e q b w.way h w.among) w.traced in
    record {
      phrases = many (repeated q) ∷ s;
      means = m_many q b J s h m;
      traced = record {
        size = suc r.size;
        trace = t_more r.size (repeated q) s u es os
            (subst (λ (z : Way). Trace e r.size z u es os) (sym (append_assoc (flat (part q)) (make form.Add ∷ []) (many (repeated q) ∷ s))) r.trace);
      };
    }

known-entered : (q : Place) (c : Choice) (h b : ℕ) (J : List Nest) → known c.steps ≡ true → known (bare J) ≡ true → known (bare (entered q c h b J)) ≡ true
known-entered q c h b J x y = subst (λ (z : List Step). known z ≡ true) (sym (bare-entered q c h b J)) (known-append c.steps (bare J) x y)

pub sound : (e : Edition) (J : List Nest) (u : List Terminal) (es : List Event) (os : List End) → Nested e J u es os → known (bare J) ≡ true → Found e J u es os
sound e _ _ _ _ n_done k = record { phrases = []; means = m_nothing; traced = record { size = zero; trace = t_done } }
sound e _ _ _ _ (n_end kind s J u es os x d) k =
    let r = sound e J u es os d k in
    record {
      phrases = close kind s ∷ r.phrases;
      means = m_end kind s J r.phrases r.means;
      traced = record {
        size = suc r.traced.size;
        trace = subst (λ (n : ℕ). Trace e (suc r.traced.size) (close kind s ∷ r.phrases) u es (ended s (n + 1) ∷ os)) (same-round e kind J r.phrases r.means x)
            (t_close r.traced.size kind s r.phrases u es os r.traced.trace);
      };
    }
sound e _ _ _ _ (n_make f b J u es os d) k =
    let r = sound e J u es os d k in
    record { phrases = make f ∷ r.phrases; means = m_make f b J r.phrases r.means; traced = record { size = suc r.traced.size; trace = t_make r.traced.size f r.phrases u es os r.traced.trace } }
sound e _ _ _ _ (n_skip w t b J u es os s d) k =
    let r = sound e J u es os d k in
    record { phrases = skip w ∷ r.phrases; means = m_skip w b J r.phrases r.means; traced = record { size = suc r.traced.size; trace = t_skip r.traced.size w t r.phrases u es os s r.traced.trace } }
sound e _ _ _ _ (n_keep w t b J u es os s d) k =
    let r = sound e J u es os d k in
    record { phrases = keep w ∷ r.phrases; means = m_keep w b J r.phrases r.means; traced = record { size = suc r.traced.size; trace = t_keep r.traced.size w t r.phrases u es os s r.traced.trace } }
sound e _ _ _ _ (n_call q c t b J u es os a h d) k =
    let n = length (t ∷ u) in
    let r = paired e q c n b J (left c.take t u) es os (sound e (entered q c n b J) (left c.take t u) es os d (known-entered q c n b J (choice-known e q c a).0 k)) in
    found-call e q b J r.rest (t ∷ u) (noted c.take ++ es) os r.second (turned e q c t b r.before r.rest u es os a h r.first r.traced)
sound e _ _ _ _ (n_pass q ss b J u es os o d) k =
    let n = length u in
    let f = sound e (pushed ss b J) u es os d (subst (λ (z : List Step). known z ≡ true) (sym (bare-pushed ss b J)) (known-append ss (bare J) (else-known e q ss o).0 k)) in
    let s = means-split e n 1 b (λ p x i. way-put e n b 1 p x i) ss J f.phrases f.means in
    let i = every-in (λ x. is_reached e q x) (listed e 1 ss) s.before (else-known e q ss o).1 s.first in
    found-call e q b J s.rest u es os s.second (reached e q b s.before s.rest u es os i (subst (λ (z : Way). Traced e z u es os) (sym s.is) f.traced))
sound e _ _ _ _ (n_stop q b J u es os d) k =
    let x = and_parts (is_part q) (known (bare J)) k in
    let r = sound e J u es os d x.1 in
    record {
      phrases = many (repeated q) ∷ r.phrases;
      means = m_many q b J r.phrases x.0 r.means;
      traced = record { size = suc r.traced.size; trace = t_stop r.traced.size (repeated q) r.phrases u es os r.traced.trace };
    }
sound e _ _ _ _ (n_more q c t b J u es os a h g d) k =
    let n = length (t ∷ u) in
    let M = at (step.Make form.Add) b ∷ (at (step.Many q) b ∷ J) in
    let r = paired e q c n b M (left c.take t u) es os (sound e (entered q c n b M) (left c.take t u) es os d (known-entered q c n b M (choice-known e q c a).0 k)) in
    found-more e q b J (t ∷ u) (noted c.take ++ es) os r.rest r.second (turned e q c t b r.before r.rest u es os a h r.first r.traced)
