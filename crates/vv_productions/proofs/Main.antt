-- The table derives what the productions admit, and nothing else; and as often something is too deep.
use Rattle.std.proofs.Common.{◌≡◌, ℕ, suc, ◌+◌, ◌-◌, ◌<◌, true, List, [], ◌∷◌, ◌++◌, length, refl, sym, ap, ◌∙◌, subst, arith}
use Rattle.std.proofs.lemmas.List.{append-nil}
use Rattle.std.proofs.lemmas.Bool.{false≢true}
use Rattle.vv_grammar.specs.declared.edition.Edition.{Edition}
use Rattle.vv_grammar.specs.declared.event.Event.{Event}
use Rattle.vv_grammar.specs.declared.form.Form.TheVariants as form
use Rattle.vv_grammar.specs.declared.step.Step.TheVariants as step
use Rattle.vv_grammar.specs.declared.terminal.Terminal.{Terminal}
use Rattle.vv_machine.specs.declared.stack.Pending.{Pending}
use Rattle.vv_machine.specs.Machine.{starting_with}
use Rattle.vv_grammar_laws.specs.Derivations.{Derives}
use Rattle.vv_grammar_laws.specs.Depths as table
use Rattle.vv_grammar_laws.specs.Starts.{Start, file, expression, name, aggregate, steps_for}
use Rattle.vv_grammar_laws.proofs.Back.{same_derivation}
use Rattle.vv_grammar_laws.proofs.Readings.{good-start, at_most_one}
use Rattle.vv_grammar_laws.proofs.Followed.{Good}
use Rattle.vv_grammar_laws.proofs.Seals.{Closed, closed-append}
use Rattle.vv_productions.specs.Phrases as p
use Rattle.vv_productions.specs.Productions.{definition}
use Rattle.vv_productions.specs.Matches.{Matches, phrase_for}
use Rattle.vv_productions.specs.Depths.{Kind, an_expression, a_statement, nothing_round, openings, IsTooDeepAt}
use Rattle.vv_productions.proofs.Items.{Way, rule, flat, put}
use Rattle.vv_productions.proofs.Among.{In, at_head, behind}
use Rattle.vv_productions.proofs.Traces.{End, t_rule, Traced, o_here, o_there, opens}
use Rattle.vv_productions.proofs.Nested.{Nest, bare, pushed, bare-pushed}
use Rattle.vv_productions.proofs.Late.{guarded_steps}
use Rattle.vv_productions.proofs.Guards.{Guarded, guarded-pushed}
use Rattle.vv_productions.proofs.Counts.{count, table_count, from-deep, to-deep, from-table, to-table}
use Rattle.vv_productions.proofs.Framed as d
use Rattle.vv_productions.proofs.Framed.{Nesting, nest, Unnesting, unnest}
use Rattle.vv_productions.proofs.Parts.{phrase, flats, traced}
use Rattle.vv_productions.proofs.Whole.{whole}
use Rattle.vv_productions.proofs.Steps.{Means, m_nothing, listed, listed-means, means-split, known}
use Rattle.vv_productions.proofs.Checked.{put-way, way-put}
use Rattle.vv_productions.proofs.Sound.{sound}
use Rattle.vv_productions.proofs.Complete.{complete}

-- what the steps of a start stand for
abbrev pub whole_of : Edition → Start → Way
whole_of e file = flats (phrase (phrase_for file) ∷ [])
whole_of e expression = flats (phrase (phrase_for expression) ∷ [])
whole_of e name = flats (phrase (phrase_for name) ∷ [])
whole_of e aggregate = flat (definition e p.aggregate)

only-one : (e : Edition) (b : ℕ) (s : Start) → listed e b (steps_for s) ≡ (whole_of e s ∷ [])
only-one e b file = refl
only-one e b expression = refl
only-one e b name = refl
only-one e b aggregate = refl

put-whole : (e : Edition) (h b : ℕ) (s : Start) → put h b (whole_of e s) ≡ whole_of e s
put-whole e h b file = refl
put-whole e h b expression = refl
put-whole e h b name = refl
put-whole e h b aggregate = refl

-- the steps of a start, which began where so many tokens were left
abbrev pub first_of : Start → ℕ → List Nest
first_of s b = pushed (steps_for s) b []

bare-first : (s : Start) (b : ℕ) → bare (first_of s b) ≡ steps_for s
bare-first s b = bare-pushed (steps_for s) b [] ∙ append-nil (steps_for s)

start-guard : (s : Start) (k : Kind) → guarded_steps k (steps_for s) ≡ true
start-guard file an_expression = refl
start-guard file a_statement = refl
start-guard expression an_expression = refl
start-guard expression a_statement = refl
start-guard name an_expression = refl
start-guard name a_statement = refl
start-guard aggregate an_expression = refl
start-guard aggregate a_statement = refl

guarded-first : (s : Start) (b : ℕ) → Guarded (first_of s b)
guarded-first s b = guarded-pushed (steps_for s) b [] (λ k. start-guard s k) (λ k h. absurd (false≢true h)) tt

known-first : (s : Start) (b : ℕ) → known (bare (first_of s b)) ≡ true
known-first file b = refl
known-first expression b = refl
known-first name b = refl
known-first aggregate b = refl

closed-start : (s : Start) → Closed (steps_for s)
closed-start file = closed-append (steps_for file) [] true refl (λ h. refl) tt
closed-start expression = closed-append (steps_for expression) [] true refl (λ h. refl) tt
closed-start name = closed-append (steps_for name) [] true refl (λ h. refl) tt
closed-start aggregate = closed-append (steps_for aggregate) [] true refl (λ h. refl) tt

framed-first : (s : Start) (T a b : ℕ) → T - b ≡ a → d.framed T (first_of s b) ≡ starting_with (steps_for s) a
framed-first s T a b h =
    d.framed-pushed T (steps_for s) b [] (step.Make form.Empty) ∙ append-nil (starting_with (steps_for s) (T - b)) ∙ ap (starting_with (steps_for s)) h

the-one : (x z : Way) (xs : List Way) → xs ≡ (z ∷ []) → In x xs → x ≡ z
the-one x z xs h i = at_it z (subst (In x) h i)
  where
    at_it : (z : Way) → In x (z ∷ []) → x ≡ z
    at_it _ (at_head _ _) = refl
    at_it z (behind _ _ _ o) = elim o [ ]

nothing-means : (e : Edition) (s : Way) → Means e [] s → s ≡ []
nothing-means e _ m_nothing = refl

-- they stand for one way
means-whole : (e : Edition) (s : Start) (b : ℕ) (x : Way) → Means e (first_of s b) x → x ≡ whole_of e s
means-whole e s b x m =
    let r = means-split e 0 1 b (λ q y i. way-put e 0 b 1 q y i) (steps_for s) [] x m in
    sym r.is ∙ ap (λ (z : Way). put 0 b r.before ++ z) (nothing-means e r.rest r.second) ∙ append-nil (put 0 b r.before)
    ∙ ap (put 0 b) (the-one r.before (whole_of e s) (listed e 1 (steps_for s)) (only-one e 1 s) r.first) ∙ put-whole e 0 b s

whole-means : (e : Edition) (s : Start) (b : ℕ) → Means e (first_of s b) (whole_of e s)
whole-means e s b =
    let i : In (whole_of e s) (listed e 1 (steps_for s)) = subst (λ (xs : List Way). In (whole_of e s) xs) (sym (only-one e 1 s)) (at_head (whole_of e s) []) in
    subst (Means e (first_of s b)) (append-nil (put 0 b (whole_of e s)) ∙ put-whole e 0 b s)
    (listed-means e 0 1 b (λ q y j. put-way e 0 b 1 q y j) (steps_for s) [] (whole_of e s) [] i m_nothing)

-- an aggregate is its definition
up : (e : Edition) (s : Start) (u : List Terminal) (es : List Event) (os : List End) → Traced e (whole_of e s) u es os → Traced e (flats (phrase (phrase_for s) ∷ [])) u es os
up e file u es os r = r
up e expression u es os r = r
up e name u es os r = r
up e aggregate u es os r = record { size = suc r.size; trace = t_rule r.size p.aggregate [] u es os r.trace }

down : (e : Edition) (s : Start) (u : List Terminal) (es : List Event) (os : List End) → Traced e (flats (phrase (phrase_for s) ∷ [])) u es os → Traced e (whole_of e s) u es os
down e file u es os r = r
down e expression u es os r = r
down e name u es os r = r
down e aggregate u es os r = elim (opens e r.size (rule p.aggregate ∷ []) u es os r.trace refl) [
  | o_here m _ _ l x ↦ record { size = m; trace = x }
  | o_there _ _ o ↦ elim o [ ]
]

-- as often something is too deep
abbrev pub Same : (e : Edition) (s : Start) (u : List Terminal) (es : List Event) → ℕ → Derives e (steps_for s) u es → Matches e (phrase_for s ∷ []) u es → Type 0
Same e s u es a x m = (n : ℕ) → table_count n (table.openings e (steps_for s) u es x (starting_with (steps_for s) a) a) ≡ count n (openings e (phrase_for s ∷ []) u es m nothing_round a)

pub record Admitted (e : Edition) (s : Start) (u : List Terminal) (es : List Event) (a : ℕ) (x : Derives e (steps_for s) u es) : Type 0 where
  pub matches : Matches e (phrase_for s ∷ []) u es
  pub same : Same e s u es a x matches

pub admitted : (e : Edition) (s : Start) (u : List Terminal) (es : List Event) (a : ℕ) (x : Derives e (steps_for s) u es) → Admitted e s u es a x
admitted e s u es a x =
    let b = length u in
    let T = a + b in
    let J = first_of s b in
    let r = nest e (steps_for s) u es x T a refl J (bare-first s b) (guarded-first s b) in
    let f = sound e J u es r.ends r.nested (known-first s b) in
    let t = up e s u es r.ends (subst (λ (z : Way). Traced e z u es r.ends) (means-whole e s b f.phrases f.means) f.traced) in
    let m = whole e t.size T a (phrase (phrase_for s) ∷ []) u es r.ends refl t.trace in
    record {
      matches = m.matches;
      same = λ n. (let q : table_count n (table.openings e (steps_for s) u es x (d.framed T J) a) ≡ table_count n (table.openings e (steps_for s) u es x (starting_with (steps_for s) a) a) =
          ap (λ (F : List Pending). table_count n (table.openings e (steps_for s) u es x F a)) (framed-first s T a b (let i : T - b ≡ a = omega arith in i)) in
          let w : d.waiting n T J ≡ 0 = d.waiting-pushed n T (steps_for s) b [] in
          let y = r.balance n in
          let z = m.balance n in
          omega (arith, q, w, y, z));
    }

pub record Derived (e : Edition) (s : Start) (u : List Terminal) (es : List Event) (a : ℕ) (m : Matches e (phrase_for s ∷ []) u es) : Type 0 where
  pub derives : Derives e (steps_for s) u es
  pub same : Same e s u es a derives m

pub derived : (e : Edition) (s : Start) (u : List Terminal) (es : List Event) (a : ℕ) (m : Matches e (phrase_for s ∷ []) u es) → Derived e s u es a m
derived e s u es a m =
    let b = length u in
    let T = a + b in
    let J = first_of s b in
    let r = traced e (phrase_for s ∷ []) u es m T a refl (phrase (phrase_for s) ∷ []) refl in
    let t = down e s u es r.ends (record { size = r.size; trace = r.trace }) in
    let n = complete e t.size J (whole_of e s) u es r.ends (subst Good (sym (bare-first s b)) (good-start s)) (subst Closed (sym (bare-first s b)) (closed-start s)) (guarded-first s b)
    (whole-means e s b) t.trace in
    let x = unnest e J u es r.ends n T a refl in
    let F = starting_with (steps_for s) a in
    let v = same_derivation e (bare J) (steps_for s) u u es (bare-first s b) refl x.derives F a in
    record {
      derives = v.0;
      same = λ n. (let q : table_count n (table.openings e (bare J) u es x.derives (d.framed T J) a) ≡ table_count n (table.openings e (steps_for s) u es v.0 F a) =
          ap (λ (G : List Pending). table_count n (table.openings e (bare J) u es x.derives G a)) (framed-first s T a b (let i : T - b ≡ a = omega arith in i)) ∙ ap (table_count n) v.1 in
          let w : d.waiting n T J ≡ 0 = d.waiting-pushed n T (steps_for s) b [] in
          let y = x.balance n in
          let z = r.balance n in
          omega (arith, q, w, y, z));
    }

pub admits : (e : Edition) (s : Start) (u : List Terminal) (es : List Event) → Derives e (steps_for s) u es → Matches e (phrase_for s ∷ []) u es
admits e s u es x = (admitted e s u es 0 x).matches

pub derives : (e : Edition) (s : Start) (u : List Terminal) (es : List Event) → Matches e (phrase_for s ∷ []) u es → Derives e (steps_for s) u es
derives e s u es m = (derived e s u es 0 m).derives

pub one_match : (e : Edition) (s : Start) (u : List Terminal) (es fs : List Event) → Matches e (phrase_for s ∷ []) u es → Matches e (phrase_for s ∷ []) u fs → es ≡ fs
one_match e s u es fs m k = at_most_one e s u es fs (derives e s u es m) (derives e s u fs k)

-- what is too deep by the table is so by the productions, and the other way round
pub too_deep_matches : (e : Edition) (s : Start) (u : List Terminal) (es : List Event) (a n : ℕ) (x : Derives e (steps_for s) u es) (m : Matches e (phrase_for s ∷ []) u es) → Same e s u es a x m
    → table.IsTooDeepAt n (table.openings e (steps_for s) u es x (starting_with (steps_for s) a) a) → IsTooDeepAt n (openings e (phrase_for s ∷ []) u es m nothing_round a)
too_deep_matches e s u es a n x m h i =
    to-deep n (openings e (phrase_for s ∷ []) u es m nothing_round a)
    (subst (λ (z : ℕ). 0 < z) (h n) (from-table n (table.openings e (steps_for s) u es x (starting_with (steps_for s) a) a) i))

pub too_deep_derives : (e : Edition) (s : Start) (u : List Terminal) (es : List Event) (a n : ℕ) (x : Derives e (steps_for s) u es) (m : Matches e (phrase_for s ∷ []) u es) → Same e s u es a x m
    → IsTooDeepAt n (openings e (phrase_for s ∷ []) u es m nothing_round a) → table.IsTooDeepAt n (table.openings e (steps_for s) u es x (starting_with (steps_for s) a) a)
too_deep_derives e s u es a n x m h i =
    to-table n (table.openings e (steps_for s) u es x (starting_with (steps_for s) a) a)
    (subst (λ (z : ℕ). 0 < z) (sym (h n)) (from-deep n (openings e (phrase_for s ∷ []) u es m nothing_round a) i))
