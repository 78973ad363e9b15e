-- What steps stand for is derived where it matches, and the same ends in it.
use Rattle.std.proofs.Common.{◌≡◌, ◌⊎◌, inl, inr, ℕ, zero, suc, ◌+◌, ◌<◌, ◌≤◌, nat_le, Bool, true, false, not, ◌&&◌, ◌||◌, List, [], ◌∷◌, ◌++◌, length, Option, Some, None, refl, sym, ap, ◌∙◌, subst, append_assoc, arith}
use Rattle.std.proofs.lemmas.Bool.{true≢false, false≢true, and_parts, and_from, or_cases, cases_Bool, leb-true}
use Rattle.vv_grammar.specs.declared.edition.Edition.{Edition}
use Rattle.vv_grammar.specs.declared.event.Event.{Event}
use Rattle.vv_grammar.specs.declared.event.Event.TheVariants as event
use Rattle.vv_grammar.specs.declared.form.Form.TheVariants as form
use Rattle.vv_grammar.specs.declared.place.Place.{Place}
use Rattle.vv_grammar.specs.declared.step.Step.{Step}
use Rattle.vv_grammar.specs.declared.step.Step.TheVariants as step
use Rattle.vv_grammar.specs.declared.step.Take.{Take}
use Rattle.vv_grammar.specs.declared.step.Take.TheVariants as take
use Rattle.vv_grammar.specs.declared.terminal.Terminal.{Terminal}
use Rattle.vv_grammar.specs.Terminals.{same, contains}
use Rattle.vv_grammar.specs.declared.step.Level.{Level}
use Rattle.vv_grammar.specs.declared.step.Level.TheVariants as level
use Rattle.vv_grammar.specs.Table.{Choice, alternatives, otherwise, level_of}
use Rattle.vv_grammar_laws.specs.Derivations.{IsAmong, left, noted, Derives}
use Rattle.vv_grammar_laws.proofs.Codes.{code, codes, has, within, within-has}
use Rattle.vv_grammar_laws.proofs.Check.{firsts, nulls}
use Rattle.vv_grammar_laws.proofs.Sets.{follow}
use Rattle.vv_grammar_laws.proofs.Followed.{Within, Good, starts, firsts-mono, firsts-append, good-append, is_else, is_checked, among-fits}
use Rattle.vv_grammar_laws.proofs.Seals.{is_closed, looks, Closed, closed-append, choice-seals, pass-seals, nulls-parts, nulled}
use Rattle.vv_grammar_laws.proofs.Words.{same-self}
use Rattle.vv_productions.specs.Depths.{Kind, an_expression, a_statement}
use Rattle.vv_productions.proofs.Items as p
use Rattle.vv_productions.proofs.Items.{Way, flat, many, put, put-append, at_place}
use Rattle.vv_productions.proofs.Among.{In, at_head, behind, member, member-in, every, every-in, every_choice, every-choice, some_choice, some-choice}
use Rattle.vv_productions.proofs.OneCode.{has-contains}
use Rattle.vv_productions.proofs.Late.{free_step}
use Rattle.vv_productions.proofs.Traces.{End, ended, expand, is_open, all_before, expand-append, open-append, Trace, Opened, o_here, o_there, opens, AfterToken, after-skip, after-keep, after-make, after-close, at-end}
use Rattle.vv_productions.proofs.Nested.{Nest, at, end, has_late, bare, pushed, level_end, began_behind, entered, bare-pushed, bare-entered, Nested, n_done, n_end, n_make, n_skip, n_keep, n_call, n_pass, n_stop, n_more, derives-of}
use Rattle.vv_productions.proofs.Meanings.{ways}
use Rattle.vv_productions.proofs.Steps.{is_part, part, repeated, Means, m_nothing, m_end, m_make, m_skip, m_keep, m_call, m_many, listed, listed-means}
use Rattle.vv_productions.proofs.Check.{depth, level_close, all_ended, turned_ways, is_keep, is_skip, is_look, passes, takes_it, looks_at_all, covers, rank, lead, choice_leads, else_leads}
use Rattle.vv_productions.proofs.Checked.{all-take, nothing-else, single, put-way, way-put}
use Rattle.vv_productions.proofs.Guards.{Guarded, guarded-entered, guarded-else, same-round}
use Rattle.vv_productions.proofs.Sound.{began-at}
use Rattle.vv_productions.proofs.Covered.{covered}

-- what the check says of a place
covered-parts : (e : Edition) (q : Place)
    → (every_choice (λ c. choice_leads q c) (alternatives e q) ≡ true) × (else_leads q (otherwise q) ≡ true) × (every (λ m. covers e q depth [] m) (ways e 1 q) ≡ true)
covered-parts e q =
    let h = and_parts (every_choice (λ c. choice_leads q c) (alternatives e q) && else_leads q (otherwise q)) (every (λ m. covers e q depth [] m) (ways e 1 q)) (covered e q) in
    let k = and_parts (every_choice (λ c. choice_leads q c) (alternatives e q)) (else_leads q (otherwise q)) h.0 in
    (k.0, k.1, h.1)

lead-append : (R K : List Step) → lead (R ++ K) ≤ lead R + lead K
lead-append [] K = omega arith
lead-append (step.Make f ∷ R) K = omega arith
lead-append (step.Skip w ∷ R) K = omega arith
lead-append (step.Keep w ∷ R) K = omega arith
lead-append (step.Many q ∷ R) K = omega arith
lead-append (step.Call q ∷ R) K = let h = lead-append R K in omega arith

implied : (a b : Bool) → (not a || b) ≡ true → a ≡ true → b ≡ true
implied true b h e = h
implied false b h e = absurd (false≢true e)

choice-lead : (e : Edition) (q : Place) (c : Choice) → IsAmong c (alternatives e q) → is_look c.take ≡ true → lead c.steps ≤ rank q
choice-lead e q c a l =
    leb-true (lead c.steps) (rank q) (implied (is_look c.take) (nat_le (lead c.steps) (rank q)) (every-choice (λ c. choice_leads q c) (alternatives e q) c (covered-parts e q).0 a) l)

else-lead : (e : Edition) (q : Place) (ss : List Step) → otherwise q ≡ Some ss → lead ss ≤ rank q
else-lead e q ss o = leb-true (lead ss) (rank q) (ap (else_leads q) (sym o) ∙ (covered-parts e q).1)

is-keep : (k : Take) → is_keep k ≡ true → k ≡ take.Keep
is-keep take.Keep h = refl
is-keep take.Skip h = absurd (false≢true h)
is-keep take.Look h = absurd (false≢true h)

is-skip : (k : Take) → is_skip k ≡ true → k ≡ take.Skip
is-skip take.Keep h = absurd (false≢true h)
is-skip take.Skip h = refl
is-skip take.Look h = absurd (false≢true h)

is-look : (k : Take) → is_look k ≡ true → k ≡ take.Look
is-look take.Keep h = absurd (false≢true h)
is-look take.Skip h = absurd (false≢true h)
is-look take.Look h = refl

-- of shorter traces it is known
abbrev pub Less : Edition → ℕ → Type 0
Less e n = (m : ℕ) (J : List Nest) (s : Way) (u : List Terminal) (es : List Event) (os : List End)
    → m < n → Good (bare J) → Closed (bare J) → Guarded J → Means e J s → Trace e m s u es os → Nested e J u es os

-- of traces without longer, where fewer steps can follow on one another that make nothing, it is known
abbrev pub Still : Edition → ℕ → ℕ → Type 0
Still e n w = (m : ℕ) (J : List Nest) (s : Way) (u : List Terminal) (es : List Event) (os : List End)
    → m ≤ n → lead (bare J) ≤ w → Good (bare J) → Closed (bare J) → Guarded J → Means e J s → Trace e m s u es os → Nested e J u es os

-- before a call of a place
pub record At (e : Edition) (n : ℕ) (q : Place) (b : ℕ) (J : List Nest) (y : Way) : Type 0 where
  pub means : Means e J y
  pub good : Good (step.Call q ∷ bare J)
  pub closed : Closed (step.Call q ∷ bare J)
  pub guarded : Guarded (at (step.Call q) b ∷ J)
  pub less : Less e n
  pub still : Still e n (rank q + lead (bare J))

shut : (b n : Bool) → (b ≡ true → n ≡ true → ⊥) → n ≡ true → not b ≡ true
shut true n h k = absurd (h refl k)
shut false n h k = refl

call-good : (e : Edition) (q : Place) (c : Choice) (K : List Step) → IsAmong c (alternatives e q) → Within (firsts K []) (follow q) → Good K → Good (c.steps ++ K)
call-good e q c K a w g = good-append c.steps K (follow q) (among-fits c (alternatives e q) (follow q) a (is_checked e q).each) w g

closed-choice : (e : Edition) (q : Place) (c : Choice) (K : List Step) → IsAmong c (alternatives e q) → Closed (step.Call q ∷ K) → Closed (c.steps ++ K)
closed-choice e q c K a h = closed-append c.steps K (not (is_closed q)) (choice-seals e q c a).1 (shut (is_closed q) (nulls K) h.0) h.1

closed-else : (e : Edition) (q : Place) (ss K : List Step) → otherwise q ≡ Some ss → Closed (step.Call q ∷ K) → Closed (ss ++ K)
closed-else e q ss K o h = closed-append ss K (not (is_closed q)) (pass-seals e q ss o) (shut (is_closed q) (nulls K) h.0) h.1

-- none of these stands first
abbrev pub NotFirst : List Terminal → List Terminal → Type 0
NotFirst without [] = Unit {0}
NotFirst without (t ∷ u) = contains without t ≡ false

-- one of these stands first
abbrev pub IsFirst : List Terminal → List Terminal → Type 0
IsFirst on [] = ⊥
IsFirst on (t ∷ u) = contains on t ≡ true

not-append : (xs ys : List Terminal) (t : Terminal) → contains xs t ≡ false → contains ys t ≡ false → contains (xs ++ ys) t ≡ false
not-append [] ys t h k = k
not-append (x ∷ xs) ys t h k = go (same x t) h (λ i. not-append xs ys t i k)
  where
    go : (b : Bool) → (b || contains xs t) ≡ false → (contains xs t ≡ false → contains (xs ++ ys) t ≡ false) → (b || contains (xs ++ ys) t) ≡ false
    go true h f = absurd (true≢false h)
    go false h f = f h

-- the ends behind the steps of an alternative
level-means : (e : Edition) (l : Level) (h b : ℕ) (J : List Nest) (y : Way) → Means e J y → Means e (level_end l h b J) (put h b (level_close l) ++ y)
level-means e level.Same h b J y m = m
level-means e level.Expression h b J y m = m_end an_expression h J y m
level-means e level.ExpressionBehind h b J y m = m_end an_expression b J y m
level-means e level.Statement h b J y m = m_end a_statement h J y m
level-means e level.StatementBehind h b J y m = m_end a_statement b J y m

of-ended : (y x : Way) (xs : List Way) → In x (all_ended y xs) → (z : Way) × In z xs × (z ++ y ≡ x)
of-ended y x [] i = elim i [ ]
of-ended y _ (z ∷ xs) (at_head _ _) = (z, at_head z xs, refl)
of-ended y x (z ∷ xs) (behind _ _ _ i) = let r = of-ended y x xs i in (r.0, behind r.0 z xs r.1, r.2)

-- what an alternative stands for
turn-means : (e : Edition) (q : Place) (c : Choice) (h b : ℕ) (J : List Nest) (x y : Way) → In x (turned_ways e q c) → Means e J y → Means e (entered q c h b J) (put h b x ++ y)
turn-means e q c h b J x y i m =
    let l = level_close (level_of q) in
    let L = level_end (level_of q) h b J in
    let k = began_behind c.take 0 1 in
    let v = of-ended l x (listed e k c.steps) i in
    let r = listed-means e h k b (λ p z j. put-way e h b k p z j) c.steps L v.0 (put h b l ++ y) v.1 (level-means e (level_of q) h b J y m) in
    subst (Means e (entered q c h b J))
    (sym (append_assoc (put h b v.0) (put h b l) y) ∙ ap (λ (z : Way). z ++ y) (sym (put-append h b v.0 l)) ∙ ap (λ (z : Way). put h b z ++ y) v.2)
    (subst (λ (z : ℕ). Means e (pushed c.steps z L) (put h b v.0 ++ (put h b l ++ y))) (began-at c.take h b) r)

good-entered : (e : Edition) (q : Place) (c : Choice) (h b : ℕ) (J : List Nest) → IsAmong c (alternatives e q) → Good (step.Call q ∷ bare J) → Good (bare (entered q c h b J))
good-entered e q c h b J a g = subst Good (sym (bare-entered q c h b J)) (call-good e q c (bare J) a g.0 g.1)

closed-entered : (e : Edition) (q : Place) (c : Choice) (h b : ℕ) (J : List Nest) → IsAmong c (alternatives e q) → Closed (step.Call q ∷ bare J) → Closed (bare (entered q c h b J))
closed-entered e q c h b J a x = subst Closed (sym (bare-entered q c h b J)) (closed-choice e q c (bare J) a x)

lead-entered : (q : Place) (c : Choice) (h b : ℕ) (J : List Nest) → lead (bare (entered q c h b J)) ≤ lead c.steps + lead (bare J)
lead-entered q c h b J = subst (λ (z : List Step). lead z ≤ lead c.steps + lead (bare J)) (sym (bare-entered q c h b J)) (lead-append c.steps (bare J))

module _ (e : Edition) (n : ℕ) (q : Place) (b : ℕ) (J : List Nest) (y : Way) (a : At e n q b J y) where
  abbrev Goal : List Terminal → List Event → List End → Type 0
  Goal u es os = Nested e (at (step.Call q) b ∷ J) u es os

  -- before so many tokens
  abbrev Of : ℕ → Way → List Terminal → List Event → List End → Type 0
  Of m f u es os = Trace e m (put (length u) b f ++ y) u es os

  -- an alternative takes the first token
  turn : (k : Take) (f : Event) (c : Choice) (w : Terminal) (x : Way) (u : List Terminal) (es : List Event) (os : List End)
      → ((t : Terminal) (v : List Terminal) → left k t v ≡ v) → noted k ≡ (f ∷ []) → c.take ≡ k
      → IsAmong c (alternatives e q) → contains c.on w ≡ true → In x (turned_ways e q c) → (m : ℕ) → m ≤ n → AfterToken e m w f (put (length u) b x ++ y) u es os → Goal u es os
  turn k f c w x u es os v z i j h i' m l r =
      let t = r.token in
      let len = length (t ∷ r.rest) in
      let same : length u ≡ len = ap (λ (us : List Terminal). length us) r.tokens in
      let M = entered q c len b J in
      let tr : Trace e r.size (put len b x ++ y) r.rest r.others os = subst (λ (o : ℕ). Trace e r.size (put o b x ++ y) r.rest r.others os) same r.trace in
      let d : Nested e M r.rest r.others os =
      a.less r.size M (put len b x ++ y) r.rest r.others os (below r.size m r.less l) (good-entered e q c len b J j a.good) (closed-entered e q c len b J j a.closed)
      (guarded-entered e q c len b J j a.guarded.0 a.guarded.1)
      (turn-means e q c len b J x y i' a.means) tr in
      let g : Goal (t ∷ r.rest) (noted c.take ++ r.others) os =
      n_call q c t b J r.rest r.others os j (subst (λ (t : Terminal). contains c.on t ≡ true) r.is h)
      (subst (λ (us : List Terminal). Nested e M us r.others os) (sym (ap (λ (k : Take). left k t r.rest) i ∙ v t r.rest)) d) in
      subst (λ (us : List Terminal). Goal us es os) (sym r.tokens)
      (subst (λ (fs : List Event). Goal (t ∷ r.rest) fs os) (ap (λ (k : Take). noted k ++ r.others) i ∙ ap (λ (fs : List Event). fs ++ r.others) z ∙ sym r.events) g)
    where
      below : (i j : ℕ) → i < j → j ≤ n → i < n
      below i j h k = omega arith

  excluded : (without : List Terminal) (w : Terminal) (f : Event) (x : Way) (u : List Terminal) (es : List Event) (os : List End) (m : ℕ)
      → contains without w ≡ true → NotFirst without u → AfterToken e m w f x u es os → ⊥
  excluded without w f x u es os m h o r =
      let k : contains without r.token ≡ false = subst (NotFirst without) r.tokens o in
      true≢false (sym h ∙ ap (λ (t : Terminal). contains without t) r.is ∙ k)

  by-token : (without : List Terminal) (f : Way) (m : ℕ) (u : List Terminal) (es : List Event) (os : List End)
      → takes_it e q (alternatives e q) without f ≡ true → m ≤ n → NotFirst without u → Of m f u es os → Goal u es os
  by-token without (p.skip w ∷ x) m u es os h l o r =
      elim (or_cases (contains without w) (some_choice (λ c. (is_skip c.take && contains c.on w) && member x (turned_ways e q c)) (alternatives e q)) h) [
        | inl i ↦ absurd (excluded without w event.Skip (put (length u) b x ++ y) u es os m i o (after-skip e m w (put (length u) b x ++ y) u es os r))
        | inr i ↦
            let c = some-choice (λ c. (is_skip c.take && contains c.on w) && member x (turned_ways e q c)) (alternatives e q) i in
            let k = and_parts (is_skip c.choice.take && contains c.choice.on w) (member x (turned_ways e q c.choice)) c.holds in
            let d = and_parts (is_skip c.choice.take) (contains c.choice.on w) k.0 in
            turn take.Skip event.Skip c.choice w x u es os (λ t v. refl) refl (is-skip c.choice.take d.0) c.among d.1 (member-in x (turned_ways e q c.choice) k.1) m l
            (after-skip e m w (put (length u) b x ++ y) u es os r)
      ]
  by-token without (p.keep w ∷ x) m u es os h l o r =
      elim (or_cases (contains without w) (some_choice (λ c. (is_keep c.take && contains c.on w) && member x (turned_ways e q c)) (alternatives e q)) h) [
        | inl i ↦ absurd (excluded without w event.Keep (put (length u) b x ++ y) u es os m i o (after-keep e m w (put (length u) b x ++ y) u es os r))
        | inr i ↦
            let c = some-choice (λ c. (is_keep c.take && contains c.on w) && member x (turned_ways e q c)) (alternatives e q) i in
            let k = and_parts (is_keep c.choice.take && contains c.choice.on w) (member x (turned_ways e q c.choice)) c.holds in
            let d = and_parts (is_keep c.choice.take) (contains c.choice.on w) k.0 in
            turn take.Keep event.Keep c.choice w x u es os (λ t v. refl) refl (is-keep c.choice.take d.0) c.among d.1 (member-in x (turned_ways e q c.choice) k.1) m l
            (after-keep e m w (put (length u) b x ++ y) u es os r)
      ]
  by-token without _ m u es os h l o r = absurd (false≢true h)

  -- what is admitted else
  by-else : (f : Way) (m : ℕ) (u : List Terminal) (es : List Event) (os : List End) → passes e (otherwise q) f ≡ true → m ≤ n → Of m f u es os → Goal u es os
  by-else f m u es os h l r = go (otherwise q) refl h
    where
      go : (o : Option (List Step)) → otherwise q ≡ o → passes e o f ≡ true → Goal u es os
      go None k h = absurd (false≢true h)
      go (Some ss) k h =
          let len = length u in
          let i : lead (bare (pushed ss b J)) ≤ lead ss + lead (bare J) = subst (λ (z : List Step). lead z ≤ lead ss + lead (bare J)) (sym (bare-pushed ss b J)) (lead-append ss (bare J)) in
          let j = else-lead e q ss k in
          n_pass q ss b J u es os k
          (a.still m (pushed ss b J) (put len b f ++ y) u es os l (omega (arith, i, j))
          (subst Good (sym (bare-pushed ss b J)) (good-append ss (bare J) (follow q) (is_else e q ss k).fit a.good.0 a.good.1))
          (subst Closed (sym (bare-pushed ss b J)) (closed-else e q ss (bare J) k a.closed)) (guarded-else e q ss b J k a.guarded.0 a.guarded.1)
          (listed-means e len 1 b (λ p z v. put-way e len b 1 p z v) ss J f y (member-in f (listed e 1 ss) h) a.means) r)

  -- an alternative that takes without token
  looked : (c : Choice) (f : Way) (m : ℕ) (u : List Terminal) (es : List Event) (os : List End) → IsAmong c (alternatives e q) → is_look c.take ≡ true → member f (turned_ways e q c) ≡ true
      → m ≤ n → Of m f u es os → Nested e (entered q c (length u) b J) u es os
  looked c f m u es os i k h l r =
      let x = lead-entered q c (length u) b J in
      let z = choice-lead e q c i k in
      a.still m (entered q c (length u) b J) (put (length u) b f ++ y) u es os l (omega (arith, x, z)) (good-entered e q c (length u) b J i a.good) (closed-entered e q c (length u) b J i a.closed)
      (guarded-entered e q c (length u) b J i a.guarded.0 a.guarded.1)
      (turn-means e q c (length u) b J f y (member-in f (turned_ways e q c) h) a.means) r

  look : (c : Choice) (u : List Terminal) (es : List Event) (os : List End) → IsAmong c (alternatives e q) → is_look c.take ≡ true → IsFirst c.on u → Nested e (entered q c (length u) b J) u es os → Goal u es os
  look c [] es os i k o d = absurd o
  look c (t ∷ u) es os i k o d =
      let z = is-look c.take k in
      let M = entered q c (length (t ∷ u)) b J in
      subst (λ (k : Take). Goal (t ∷ u) (noted k ++ es) os) z
      (n_call q c t b J u es os i o (subst (λ (k : Take). Nested e M (left k t u) es os) (sym z) d))

  looks-look : (k : Take) → is_look k ≡ true → looks k ≡ true
  looks-look take.Keep h = absurd (false≢true h)
  looks-look take.Skip h = absurd (false≢true h)
  looks-look take.Look h = refl

  -- it has all that can come first
  all-first : (c : Choice) (u : List Terminal) (es : List Event) → IsAmong c (alternatives e q) → is_look c.take ≡ true
      → within (firsts c.steps (follow q)) (codes c.on) ≡ true → Derives e (c.steps ++ bare J) u es → IsFirst c.on u
  all-first c [] es i k w d =
      let x = nulls-parts c.steps (bare J) (nulled e (c.steps ++ bare J) [] es d tt) in
      absurd (a.closed.0 (implied (looks c.take && nulls c.steps) (is_closed q) (choice-seals e q c i).0 (and_from (looks c.take) (nulls c.steps) (looks-look c.take k) x.0)) x.1)
  all-first c (t ∷ u) es i k w d =
      let x : has (firsts (c.steps ++ bare J) []) (code t) ≡ true = starts e (c.steps ++ bare J) (t ∷ u) es d in
      let z : has (firsts c.steps (firsts (bare J) [])) (code t) ≡ true = ap (λ (xs : List ℕ). has xs (code t)) (sym (firsts-append c.steps (bare J))) ∙ x in
      has-contains c.on t (within-has (firsts c.steps (follow q)) (codes c.on) (code t) w (firsts-mono c.steps (firsts (bare J) []) (follow q) a.good.0 (code t) z))

  by-look : (f : Way) (m : ℕ) (u : List Terminal) (es : List Event) (os : List End) → looks_at_all e q (alternatives e q) f ≡ true → m ≤ n → Of m f u es os → Goal u es os
  by-look f m u es os h l r =
      let c = some-choice (λ c. is_look c.take && (within (firsts c.steps (follow q)) (codes c.on) && member f (turned_ways e q c))) (alternatives e q) h in
      let k = and_parts (is_look c.choice.take) (within (firsts c.choice.steps (follow q)) (codes c.choice.on) && member f (turned_ways e q c.choice)) c.holds in
      let w = and_parts (within (firsts c.choice.steps (follow q)) (codes c.choice.on)) (member f (turned_ways e q c.choice)) k.1 in
      let d = looked c.choice f m u es os c.among k.0 w.1 l r in
      let M = entered q c.choice (length u) b J in
      look c.choice u es os c.among k.0
      (all-first c.choice u es c.among k.0 w.0 (subst (λ (z : List Step). Derives e z u es) (bare-entered q c.choice (length u) b J) (derives-of e M u es os d))) d

  -- a way with a shorter trace
  record Shorter (m : ℕ) (xs : List Way) (u : List Terminal) (es : List Event) (os : List End) : Type 0 where
    way : Way
    among : In way xs
    size : ℕ
    less : size < m
    trace : Of size way u es os

  shorter : (m : ℕ) (xs : List Way) (u : List Terminal) (es : List Event) (os : List End) → Opened e m u es os (all_before (length u) b y xs) → Shorter m xs u es os
  shorter m [] u es os o = elim o [ ]
  shorter m (x ∷ xs) u es os (o_here i _ _ h r) = record { way = x; among = at_head x xs; size = i; less = h; trace = r }
  shorter m (x ∷ xs) u es os (o_there _ _ o) = let s = shorter m xs u es os o in record { way = s.way; among = behind s.way x xs s.among; size = s.size; less = s.less; trace = s.trace }

  opened-to : (f : Way) (m : ℕ) (u : List Terminal) (es : List Event) (os : List End) → is_open f ≡ true → Of m f u es os → Shorter m (expand e 0 f) u es os
  opened-to f m u es os o r =
      shorter m (expand e 0 f) u es os (subst (Opened e m u es os) (expand-append e (length u) b f y o)
      (opens e m (put (length u) b f ++ y) u es os r (open-append (length u) b f y o)))

  first-or-not : (on without u : List Terminal) → NotFirst without u → IsFirst on u ⊎ NotFirst (on ++ without) u
  first-or-not on without [] o = inr tt
  first-or-not on without (t ∷ u) o = elim (cases_Bool (contains on t)) [
    | inl h ↦ inl h
    | inr h ↦ inr (not-append on without t h o)
  ]

  abbrev Covering : ℕ → Type 0
  Covering d = (without : List Terminal) (f : Way) (m : ℕ) (u : List Terminal) (es : List Event) (os : List End)
      → covers e q d without f ≡ true → m ≤ n → NotFirst without u → Of m f u es os → Goal u es os

  onward : (d : ℕ) → Covering d → (others : List Terminal) (f : Way) (m : ℕ) (u : List Terminal) (es : List Event) (os : List End)
      → m ≤ n → NotFirst others u → every (λ g. covers e q d others g) (expand e 0 f) ≡ true → Shorter m (expand e 0 f) u es os → Goal u es os
  onward d IH others f m u es os l o h s = IH others s.way s.size u es os (every-in (λ g. covers e q d others g) (expand e 0 f) s.way h s.among) (low s.size s.less) o s.trace
    where
      low : (i : ℕ) → i < m → i ≤ n
      low i k = omega arith

  by-split : (d : ℕ) → Covering d → (without : List Terminal) (f : Way) (m : ℕ) (u : List Terminal) (es : List Event) (os : List End) → m ≤ n → NotFirst without u → is_open f ≡ true
      → some_choice (λ c. is_look c.take && (member f (turned_ways e q c) && every (λ g. covers e q d (c.on ++ without) g) (expand e 0 f))) (alternatives e q) ≡ true
      → Of m f u es os → Goal u es os
  by-split d IH without f m u es os l o k x r =
      let c = some-choice (λ c. is_look c.take && (member f (turned_ways e q c) && every (λ g. covers e q d (c.on ++ without) g) (expand e 0 f))) (alternatives e q) x in
      let v = and_parts (is_look c.choice.take) (member f (turned_ways e q c.choice) && every (λ g. covers e q d (c.choice.on ++ without) g) (expand e 0 f)) c.holds in
      let w = and_parts (member f (turned_ways e q c.choice)) (every (λ g. covers e q d (c.choice.on ++ without) g) (expand e 0 f)) v.1 in
      elim (first-or-not c.choice.on without u o) [
        | inl i ↦ look c.choice u es os c.among v.0 i (looked c.choice f m u es os c.among v.0 w.0 l r)
        | inr i ↦ onward d IH (c.choice.on ++ without) f m u es os l i w.1 (opened-to f m u es os k r)
      ]

  covering : (d : ℕ) → Covering d → Covering (suc d)
  covering d IH without f m u es os h l o r =
      let deeper : Bool = every (λ g. covers e q d without g) (expand e 0 f) in
      let split : Bool = some_choice (λ c. is_look c.take && (member f (turned_ways e q c) && every (λ g. covers e q d (c.on ++ without) g) (expand e 0 f))) (alternatives e q) in
      let rest : Bool = is_open f && (split || deeper) in
      elim (or_cases (passes e (otherwise q) f) (takes_it e q (alternatives e q) without f || (looks_at_all e q (alternatives e q) f || rest)) h) [
        | inl i ↦ by-else f m u es os i l r
        | inr i ↦ elim (or_cases (takes_it e q (alternatives e q) without f) (looks_at_all e q (alternatives e q) f || rest) i) [
          | inl j ↦ by-token without f m u es os j l o r
          | inr j ↦ elim (or_cases (looks_at_all e q (alternatives e q) f) rest j) [
            | inl k ↦ by-look f m u es os k l r
            | inr k ↦ let v = and_parts (is_open f) (split || deeper) k in elim (or_cases split deeper v.1) [
              | inl x ↦ by-split d IH without f m u es os l o v.0 x r
              | inr x ↦ onward d IH without f m u es os l o x (opened-to f m u es os v.0 r)
            ]
          ]
        ]
      ]

  cover : (d : ℕ) → Covering d
  cover zero without f m u es os h l o r = absurd (false≢true h)
  cover (suc d) without f m u es os h l o r = covering d (cover d) without f m u es os h l o r

-- one more part of a list is an alternative
invert : (e : Edition) (q : Place) (b : ℕ) (J : List Nest) (u : List Terminal) (es : List Event) (os : List End) → is_part q ≡ true
    → Nested e (at (step.Call q) b ∷ (at (step.Make form.Add) b ∷ (at (step.Many q) b ∷ J))) u es os → Nested e (at (step.Many q) b ∷ J) u es os
invert e q b J _ _ _ h (n_call _ c t _ _ u es os x y d) = n_more q c t b J u es os x y (all-take e q h c x) d
invert e q b J u es os h (n_pass _ ss _ _ _ _ _ o d) = absurd (subst (λ (x : Option (List Step)). IsNone x) (sym (nothing-else q h) ∙ o) tt)
  where
    IsNone : Option (List Step) → Type 0
    IsNone None = Unit {0}
    IsNone (Some ss) = ⊥

-- one more part is guarded as the list is
call-guard : (q : Place) (b : ℕ) (J : List Nest) → Guarded (at (step.Many q) b ∷ J) → (k : Kind) → has_late k (at (step.Make form.Add) b ∷ (at (step.Many q) b ∷ J)) ≡ true
    → free_step k (step.Call q) ≡ true
call-guard q b J v k h = v.0 k h

-- the steps before the first that makes something
step-on : (e : Edition) (n : ℕ) → Less e n → (w : ℕ) → ((v : ℕ) → v < w → Still e n v) → Still e n w
step-on e n less w still m _ _ u es os l h g c v m_nothing r =
    let z = at-end e m u es os r in
    subst (λ (v : List Terminal). Nested e [] v es os) (sym z.0) (subst (λ (fs : List Event). Nested e [] [] fs os) (sym z.1) (subst (Nested e [] [] []) (sym z.2) n_done))
step-on e n less w still m _ _ u es os l h g c v (m_end kind b J s k) r =
    let z = after-close e m kind b s u es os r in
    subst (Nested e (end kind b ∷ J) u es) (sym (z.ends ∙ ap (λ (d : ℕ). ended b (d + 1) ∷ z.others) (same-round e kind J s k v.0)))
    (n_end kind b J u es z.others v.0 (less z.size J s u es z.others (low z.size z.less) g c v.1 k z.trace))
  where
    low : (i : ℕ) → i < m → i < n
    low i k = omega arith
step-on e n less w still m _ _ u es os l h g c v (m_make f b J s k) r =
    let z = after-make e m f s u es os r in
    subst (λ (fs : List Event). Nested e (at (step.Make f) b ∷ J) u fs os) (sym z.events) (n_make f b J u z.others os (less z.size J s u z.others os (low z.size z.less) g c v.1 k z.trace))
  where
    low : (i : ℕ) → i < m → i < n
    low i k = omega arith
step-on e n less w still m _ _ u es os l h g c v (m_skip x b J s k) r =
    let z = after-skip e m x s u es os r in
    subst (λ (v : List Terminal). Nested e (at (step.Skip x) b ∷ J) v es os) (sym z.tokens)
    (subst (λ (fs : List Event). Nested e (at (step.Skip x) b ∷ J) (z.token ∷ z.rest) fs os) (sym z.events)
    (n_skip x z.token b J z.rest z.others os (subst (λ (t : Terminal). same x t ≡ true) z.is (same-self x)) (less z.size J s z.rest z.others os (low z.size z.less) g c v.1 k z.trace)))
  where
    low : (i : ℕ) → i < m → i < n
    low i k = omega arith
step-on e n less w still m _ _ u es os l h g c v (m_keep x b J s k) r =
    let z = after-keep e m x s u es os r in
    subst (λ (v : List Terminal). Nested e (at (step.Keep x) b ∷ J) v es os) (sym z.tokens)
    (subst (λ (fs : List Event). Nested e (at (step.Keep x) b ∷ J) (z.token ∷ z.rest) fs os) (sym z.events)
    (n_keep x z.token b J z.rest z.others os (subst (λ (t : Terminal). same x t ≡ true) z.is (same-self x)) (less z.size J s z.rest z.others os (low z.size z.less) g c v.1 k z.trace)))
  where
    low : (i : ℕ) → i < m → i < n
    low i k = omega arith
step-on e n less w still m _ _ u es os l h g c v (m_call q x b J y i k) r =
    let z = way-put e (length u) b 1 q x i in
    cover e n q b J y (record { means = k; good = g; closed = c; guarded = v; less = less; still = still (rank q + lead (bare J)) (omega arith) })
    depth [] z.0 m u es os (every-in (λ z. covers e q depth [] z) (ways e 1 q) z.0 (covered-parts e q).2 z.1) l (nothing-first u)
    (subst (λ (z : Way). Trace e m (z ++ y) u es os) (sym z.2) r)
  where
    nothing-first : (u : List Terminal) → NotFirst [] u
    nothing-first [] = tt
    nothing-first (t ∷ u) = refl
step-on e n less w still m _ _ u es os l h g c v (m_many q b J y i k) r = elim (opens e m (many (repeated q) ∷ y) u es os r refl) [
  | o_here z _ _ x d ↦ n_stop q b J u es os (less z J y u es os (low z x) g.2 c.1 v.1 k d)
  | o_there _ _ (o_here z _ _ x d) ↦ invert e q b J u es os i
      (less z (at (step.Call q) b ∷ (at (step.Make form.Add) b ∷ (at (step.Many q) b ∷ J))) (flat (part q) ++ (p.make form.Add ∷ many (repeated q) ∷ y)) u es os (low z x)
      (g.0, g) ((λ a f. c.0 a), c) (call-guard q b J v, ((λ k z. refl), v))
      (m_call q (flat (part q)) b (at (step.Make form.Add) b ∷ (at (step.Many q) b ∷ J)) (p.make form.Add ∷ many (repeated q) ∷ y)
      (subst (λ (xs : List Way). In (flat (part q)) xs) (sym (single e b q i)) (at_head (flat (part q)) []))
      (m_make form.Add b (at (step.Many q) b ∷ J) (many (repeated q) ∷ y) (m_many q b J y i k)))
      (subst (λ (s : Way). Trace e z s u es os) (append_assoc (flat (part q)) (p.make form.Add ∷ []) (many (repeated q) ∷ y)) d))
  | o_there _ _ (o_there _ _ o) ↦ elim o [ ]
]
  where
    low : (i : ℕ) → i < m → i < n
    low i k = omega arith

still-all : (e : Edition) (n : ℕ) → Less e n → (w : ℕ) → Still e n w
still-all e n less zero = step-on e n less zero (λ v h. absurd (omega arith))
still-all e n less (suc w) = step-on e n less (suc w) (λ v h m J s u es os l k. still-all e n less w m J s u es os l (omega arith))

less-all : (e : Edition) (n : ℕ) → Less e n
less-all e zero m J s u es os h = absurd (omega arith)
less-all e (suc n) m J s u es os h = still-all e n (less-all e n) (lead (bare J)) m J s u es os (omega arith) (omega arith)

pub complete : (e : Edition) (n : ℕ) (J : List Nest) (s : Way) (u : List Terminal) (es : List Event) (os : List End)
    → Good (bare J) → Closed (bare J) → Guarded J → Means e J s → Trace e n s u es os → Nested e J u es os
complete e n J s u es os g c v m r = less-all e (suc n) n J s u es os (omega arith) g c v m r
