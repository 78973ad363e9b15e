-- Derivations of the table are derivations with ends, and as often something is too deep.
use Rattle.std.proofs.Common.{◌≡◌, ℕ, ◌+◌, ◌-◌, false, List, [], ◌∷◌, ◌++◌, length, refl, sym, ap, ◌∙◌, subst, arith}
use Rattle.vv_grammar.specs.declared.edition.Edition.{Edition}
use Rattle.vv_grammar.specs.declared.event.Event.{Event}
use Rattle.vv_grammar.specs.declared.event.Event.TheVariants as event
use Rattle.vv_grammar.specs.declared.form.Form.TheVariants as form
use Rattle.vv_grammar.specs.declared.place.Place.{Place}
use Rattle.vv_grammar.specs.declared.step.Level.{Level}
use Rattle.vv_grammar.specs.declared.step.Level.TheVariants as level
use Rattle.vv_grammar.specs.declared.step.Step.{Step}
use Rattle.vv_grammar.specs.declared.step.Step.TheVariants as step
use Rattle.vv_grammar.specs.declared.step.Take.{Take}
use Rattle.vv_grammar.specs.declared.step.Take.TheVariants as take
use Rattle.vv_grammar.specs.declared.terminal.Terminal.{Terminal}
use Rattle.vv_grammar.specs.Table.{Choice, level_of}
use Rattle.vv_machine.specs.declared.stack.Pending.{Pending}
use Rattle.vv_machine.specs.Machine.{steps_in, inside}
use Rattle.vv_grammar_laws.specs.Derivations.{left, noted, Derives, done, make, skip, keep, call, pass, stop, more}
use Rattle.vv_grammar_laws.specs.Depths.{Opening, opening, openings, behind_choice, next_at}
use Rattle.vv_grammar_laws.proofs.Back.{same_derivation}
use Rattle.vv_productions.specs.Depths.{Kind, an_expression, a_statement}
use Rattle.vv_productions.proofs.Traces.{End, ended}
use Rattle.vv_productions.proofs.Nested.{Nest, at, end, bare, rounds, has_late, pushed, level_end, began_behind, entered, bare-pushed, bare-entered, Nested, n_done, n_end, n_make, n_skip, n_keep, n_call, n_pass, n_stop, n_more}
use Rattle.vv_productions.proofs.Guards.{Guarded, guarded-entered, guarded-else}
use Rattle.vv_productions.proofs.Counts.{hit, table_count, ends_count, table-append, capped, capped-more, hit-capped}

-- what the machine has for a step, where all are T tokens
abbrev pub frame : ℕ → Step → ℕ → List Nest → Pending
frame T s b J = record { step = s; expressions = capped (rounds an_expression J); statements = capped (rounds a_statement J); began = T - b }

abbrev pub framed : ℕ → List Nest → List Pending
framed T [] = []
framed T (at s b ∷ J) = frame T s b J ∷ framed T J
framed T (end k s ∷ J) = framed T J

-- what has started and is not at its end
abbrev pub waiting : ℕ → ℕ → List Nest → ℕ
waiting n T [] = 0
waiting n T (at s b ∷ J) = waiting n T J
waiting n T (end k s ∷ J) = hit n (T - s) (rounds k J + 1) + waiting n T J

rounds-pushed : (k : Kind) (ss : List Step) (b : ℕ) (J : List Nest) → rounds k (pushed ss b J) ≡ rounds k J
rounds-pushed k [] b J = refl
rounds-pushed k (s ∷ ss) b J = rounds-pushed k ss b J

pub waiting-pushed : (n T : ℕ) (ss : List Step) (b : ℕ) (J : List Nest) → waiting n T (pushed ss b J) ≡ waiting n T J
waiting-pushed n T [] b J = refl
waiting-pushed n T (s ∷ ss) b J = waiting-pushed n T ss b J

pub framed-pushed : (T : ℕ) (ss : List Step) (b : ℕ) (J : List Nest) (s0 : Step) → framed T (pushed ss b J) ≡ steps_in ss (frame T s0 b J) ++ framed T J
framed-pushed T [] b J s0 = refl
framed-pushed T (s ∷ ss) b J s0 =
    ap (λ (F : List Pending). frame T s b (pushed ss b J) ∷ F) (framed-pushed T ss b J s0)
    ∙ ap (λ (x : ℕ). record { step = s; expressions = capped x; statements = capped (rounds a_statement (pushed ss b J)); began = T - b } ∷ (steps_in ss (frame T s0 b J) ++ framed T J)) (rounds-pushed an_expression ss b J)
    ∙ ap (λ (x : ℕ). record { step = s; expressions = capped (rounds an_expression J); statements = capped x; began = T - b } ∷ (steps_in ss (frame T s0 b J) ++ framed T J)) (rounds-pushed a_statement ss b J)

-- the frame of the steps inside what starts at a place
level-frame : (l : Level) (T h c b : ℕ) (J : List Nest) (s : Step) → frame T s c (level_end l h b J) ≡ (let o = inside l (frame T s b J) in record { step = s; expressions = o.expressions; statements = o.statements; began = T - c })
level-frame level.Same T h c b J s = refl
level-frame level.Expression T h c b J s =
    ap (λ (x : ℕ). record { step = s; expressions = x; statements = capped (rounds a_statement J); began = T - c })
    (sym (capped-more (rounds an_expression J)))
level-frame level.ExpressionBehind T h c b J s =
    ap (λ (x : ℕ). record { step = s; expressions = x; statements = capped (rounds a_statement J); began = T - c })
    (sym (capped-more (rounds an_expression J)))
level-frame level.Statement T h c b J s =
    ap (λ (x : ℕ). record { step = s; expressions = capped (rounds an_expression J); statements = x; began = T - c })
    (sym (capped-more (rounds a_statement J)))
level-frame level.StatementBehind T h c b J s =
    ap (λ (x : ℕ). record { step = s; expressions = capped (rounds an_expression J); statements = x; began = T - c })
    (sym (capped-more (rounds a_statement J)))

level-framed : (T : ℕ) (l : Level) (h b : ℕ) (J : List Nest) → framed T (level_end l h b J) ≡ framed T J
level-framed T level.Same h b J = refl
level-framed T level.Expression h b J = refl
level-framed T level.ExpressionBehind h b J = refl
level-framed T level.Statement h b J = refl
level-framed T level.StatementBehind h b J = refl

began-inside : (l : Level) (o : Pending) → (inside l o).began ≡ o.began
began-inside level.Same o = refl
began-inside level.Expression o = refl
began-inside level.ExpressionBehind o = refl
began-inside level.Statement o = refl
began-inside level.StatementBehind o = refl

step-inside : (l : Level) (o : Pending) → (inside l o).step ≡ o.step
step-inside level.Same o = refl
step-inside level.Expression o = refl
step-inside level.ExpressionBehind o = refl
step-inside level.Statement o = refl
step-inside level.StatementBehind o = refl

here-at : (T a len : ℕ) → T ≡ a + len → T - len ≡ a
here-at T a len h = omega (arith, h)

with-began : Step → Pending → ℕ → Pending
with-began s o b = record { step = s; expressions = o.expressions; statements = o.statements; began = b }

-- the frame behind a choice
choice-frame : (k : Take) (l : Level) (T a len b : ℕ) (J : List Nest) (s : Step) → T ≡ a + len
    → frame T s (began_behind k len b) (level_end l len b J) ≡ behind_choice k (inside l (frame T s b J)) a
unfolding with-began
choice-frame take.Keep l T a len b J s h =
    level-frame l T len len b J s ∙ ap (with-began s (inside l (frame T s b J))) (here-at T a len h)
    ∙ ap (λ (z : Step). with-began z (inside l (frame T s b J)) a) (sym (step-inside l (frame T s b J)))
choice-frame take.Skip l T a len b J s h =
    level-frame l T len len b J s ∙ ap (with-began s (inside l (frame T s b J))) (here-at T a len h)
    ∙ ap (λ (z : Step). with-began z (inside l (frame T s b J)) a) (sym (step-inside l (frame T s b J)))
choice-frame take.Look l T a len b J s h =
    level-frame l T len b b J s
    ∙ ap (with-began s (inside l (frame T s b J))) (sym (began-inside l (frame T s b J)))
    ∙ ap (λ (z : Step). with-began z (inside l (frame T s b J)) (inside l (frame T s b J)).began) (sym (step-inside l (frame T s b J)))

pub entered-framed : (p : Place) (c : Choice) (T a len b : ℕ) (J : List Nest) (s : Step) → T ≡ a + len
    → framed T (entered p c len b J) ≡ steps_in c.steps (behind_choice c.take (inside (level_of p) (frame T s b J)) a) ++ framed T J
entered-framed p c T a len b J s h =
    let L = level_end (level_of p) len b J in
    framed-pushed T c.steps (began_behind c.take len b) L s
    ∙ ap (λ (o : Pending). steps_in c.steps o ++ framed T L) (choice-frame c.take (level_of p) T a len b J s h)
    ∙ ap (λ (F : List Pending). steps_in c.steps (behind_choice c.take (inside (level_of p) (frame T s b J)) a) ++ F) (level-framed T (level_of p) len b J)

-- what starts at a place waits for its end
level-waits : (n T a len b : ℕ) (l : Level) (J : List Nest) (s : Step) → T ≡ a + len
    → waiting n T (level_end l len b J) ≡ table_count n (opening l (frame T s b J) a) + waiting n T J
level-waits n T a len b level.Same J s h = omega arith
level-waits n T a len b level.Expression J s h =
    let x : hit n a (capped (rounds an_expression J) + 1) ≡ hit n a (rounds an_expression J + 1) = hit-capped n a (rounds an_expression J) in
    let y : hit n (T - len) (rounds an_expression J + 1) ≡ hit n a (rounds an_expression J + 1) = ap (λ (z : ℕ). hit n z (rounds an_expression J + 1)) (here-at T a len h) in
    omega (arith, x, y)
level-waits n T a len b level.ExpressionBehind J s h =
    let x : hit n (T - b) (capped (rounds an_expression J) + 1) ≡ hit n (T - b) (rounds an_expression J + 1) = hit-capped n (T - b) (rounds an_expression J) in omega (arith, x)
level-waits n T a len b level.Statement J s h =
    let x : hit n a (capped (rounds a_statement J) + 1) ≡ hit n a (rounds a_statement J + 1) = hit-capped n a (rounds a_statement J) in
    let y : hit n (T - len) (rounds a_statement J + 1) ≡ hit n a (rounds a_statement J + 1) = ap (λ (z : ℕ). hit n z (rounds a_statement J + 1)) (here-at T a len h) in
    omega (arith, x, y)
level-waits n T a len b level.StatementBehind J s h =
    let x : hit n (T - b) (capped (rounds a_statement J) + 1) ≡ hit n (T - b) (rounds a_statement J + 1) = hit-capped n (T - b) (rounds a_statement J) in omega (arith, x)

-- as often something is too deep in a derivation, and among what waits, as among the ends
abbrev pub Balance : (e : Edition) (K : List Step) (u : List Terminal) (es : List Event) → Derives e K u es → ℕ → ℕ → List Nest → List End → Type 0
Balance e K u es d T a J os = (n : ℕ) → table_count n (openings e K u es d (framed T J) a) + waiting n T J ≡ ends_count n T os

pub record Nesting (e : Edition) (K : List Step) (u : List Terminal) (es : List Event) (d : Derives e K u es) (T a : ℕ) (J : List Nest) : Type 0 where
  pub ends : List End
  pub nested : Nested e J u es ends
  pub balance : Balance e K u es d T a J ends

-- ends in front
with-end : (e : Edition) (K : List Step) (u : List Terminal) (es : List Event) (d : Derives e K u es) (T a : ℕ) (k : Kind) (s : ℕ) (J : List Nest) → has_late k J ≡ false
    → Nesting e K u es d T a J → Nesting e K u es d T a (end k s ∷ J)
with-end e K u es d T a k s J h r = record {
  ends = ended s (rounds k J + 1) ∷ r.ends;
  nested = n_end k s J u es r.ends h r.nested;
  balance = λ n. (let x = r.balance n in omega (arith, x));
}

abbrev IsSome : List Step → Type 0
IsSome [] = ⊥
IsSome (s ∷ K) = Unit {0}

abbrev lead_of : Step → List Step → Step
lead_of s [] = s
lead_of s (x ∷ K) = x

abbrev rest_of : List Step → List Step
rest_of [] = []
rest_of (x ∷ K) = K

-- behind the ends in front stands the first step
from-step : (e : Edition) (s : Step) (K : List Step) (u : List Terminal) (es : List Event) (d : Derives e (s ∷ K) u es) (T a : ℕ)
    → ((b : ℕ) (J : List Nest) → bare J ≡ K → Guarded (at s b ∷ J) → Nesting e (s ∷ K) u es d T a (at s b ∷ J))
    → (J : List Nest) → bare J ≡ s ∷ K → Guarded J → Nesting e (s ∷ K) u es d T a J
from-step e s K u es d T a f [] h g = absurd (subst IsSome (sym h) tt)
from-step e s K u es d T a f (end k b ∷ J) h g = with-end e (s ∷ K) u es d T a k b J g.0 (from-step e s K u es d T a f J h g.1)
from-step e s K u es d T a f (at x b ∷ J) h g =
    let same : s ≡ x = ap (lead_of x) (sym h) in
    subst (λ (z : Step). Nesting e (s ∷ K) u es d T a (at z b ∷ J)) same (f b J (ap rest_of h) (subst (λ (z : Step). Guarded (at z b ∷ J)) (sym same) g))

from-nothing : (e : Edition) (T a : ℕ) (J : List Nest) → bare J ≡ [] → Guarded J → Nesting e [] [] [] done T a J
from-nothing e T a [] h g = record { ends = []; nested = n_done; balance = λ n. refl }
from-nothing e T a (end k b ∷ J) h g = with-end e [] [] [] done T a k b J g.0 (from-nothing e T a J h g.1)
from-nothing e T a (at s b ∷ J) h g = absurd (subst IsSome h tt)

left-length : (k : Take) (T a : ℕ) (t : Terminal) (u : List Terminal) → T ≡ a + length (t ∷ u) → T ≡ next_at k a + length (left k t u)
left-length take.Keep T a t u h = omega (arith, h)
left-length take.Skip T a t u h = omega (arith, h)
left-length take.Look T a t u h = h

-- what starts at a place and what is derived behind it
chosen-balance : (p : Place) (c : Choice) (n T a len b : ℕ) (J : List Nest) (s : Step) (os : List End) (rest : List Opening) → T ≡ a + len
    → table_count n rest + waiting n T (entered p c len b J) ≡ ends_count n T os
    → table_count n (opening (level_of p) (frame T s b J) a ++ rest) + waiting n T J ≡ ends_count n T os
chosen-balance p c n T a len b J s os rest h x =
    let w = waiting-pushed n T c.steps (began_behind c.take len b) (level_end (level_of p) len b J) in
    let l = level-waits n T a len b (level_of p) J s h in
    let q = table-append n (opening (level_of p) (frame T s b J) a) rest in
    omega (arith, x, w, l, q)

-- What is derived is derived with ends.
pub nest : (e : Edition) (K : List Step) (u : List Terminal) (es : List Event) (d : Derives e K u es) (T a : ℕ) → T ≡ a + length u → (J : List Nest) → bare J ≡ K → Guarded J → Nesting e K u es d T a J
nest e _ _ _ done T a i J h g = from-nothing e T a J h g
nest e _ _ _ (make f K u es d) T a i J h g = from-step e (step.Make f) K u (event.Make f ∷ es) (make f K u es d) T a (λ b J h g.
    (let r = nest e K u es d T a i J h g.1 in record { ends = r.ends; nested = n_make f b J u es r.ends r.nested; balance = r.balance })) J h g
nest e _ _ _ (skip w t K u es s d) T a i J h g = from-step e (step.Skip w) K (t ∷ u) (event.Skip ∷ es) (skip w t K u es s d) T a (λ b J h g.
    (let r = nest e K u es d T (a + 1) (omega (arith, i)) J h g.1 in record { ends = r.ends; nested = n_skip w t b J u es r.ends s r.nested; balance = r.balance })) J h g
nest e _ _ _ (keep w t K u es s d) T a i J h g = from-step e (step.Keep w) K (t ∷ u) (event.Keep ∷ es) (keep w t K u es s d) T a (λ b J h g.
    (let r = nest e K u es d T (a + 1) (omega (arith, i)) J h g.1 in record { ends = r.ends; nested = n_keep w t b J u es r.ends s r.nested; balance = r.balance })) J h g
nest e _ _ _ (call p c t K u es x y d) T a i J h g = from-step e (step.Call p) K (t ∷ u) (noted c.take ++ es) (call p c t K u es x y d) T a (λ b J h g.
    (let len = length (t ∷ u) in
    let E = entered p c len b J in
    let r = nest e (c.steps ++ K) (left c.take t u) es d T (next_at c.take a) (left-length c.take T a t u i) E
    (bare-entered p c len b J ∙ ap (λ (z : List Step). c.steps ++ z) h) (guarded-entered e p c len b J x g.0 g.1) in
    record {
      ends = r.ends;
      nested = n_call p c t b J u es r.ends x y r.nested;
      balance = λ n. chosen-balance p c n T a len b J (step.Call p) r.ends
          (openings e (c.steps ++ K) (left c.take t u) es d (steps_in c.steps (behind_choice c.take (inside (level_of p) (frame T (step.Call p) b J)) a) ++ framed T J) (next_at c.take a)) i
          (ap (λ (F : List Pending). table_count n (openings e (c.steps ++ K) (left c.take t u) es d F (next_at c.take a)) + waiting n T E) (sym (entered-framed p c T a len b J (step.Call p) i)) ∙ r.balance n);
    })) J h g
nest e _ _ _ (pass p ss K u es o d) T a i J h g = from-step e (step.Call p) K u es (pass p ss K u es o d) T a (λ b J h g.
    (let E = pushed ss b J in
    let r = nest e (ss ++ K) u es d T a i E (bare-pushed ss b J ∙ ap (λ (z : List Step). ss ++ z) h) (guarded-else e p ss b J o g.0 g.1) in
    record {
      ends = r.ends;
      nested = n_pass p ss b J u es r.ends o r.nested;
      balance = λ n. (let w = waiting-pushed n T ss b J in
          let q = ap (λ (F : List Pending). table_count n (openings e (ss ++ K) u es d F a)) (framed-pushed T ss b J (step.Call p)) in
          let x = r.balance n in
          omega (arith, w, q, x));
    })) J h g
nest e _ _ _ (stop p K u es d) T a i J h g = from-step e (step.Many p) K u es (stop p K u es d) T a (λ b J h g.
    (let r = nest e K u es d T a i J h g.1 in record { ends = r.ends; nested = n_stop p b J u es r.ends r.nested; balance = r.balance })) J h g
nest e _ _ _ (more p c t K u es x y k d) T a i J h g = from-step e (step.Many p) K (t ∷ u) (noted c.take ++ es) (more p c t K u es x y k d) T a (λ b J h g.
    (let len = length (t ∷ u) in
    let M = at (step.Make form.Add) b ∷ (at (step.Many p) b ∷ J) in
    let E = entered p c len b M in
    let base = step.Make form.Add ∷ (step.Many p ∷ K) in
    let r = nest e (c.steps ++ base) (left c.take t u) es d T (next_at c.take a) (left-length c.take T a t u i) E
    (bare-entered p c len b M ∙ ap (λ (z : List Step). c.steps ++ (step.Make form.Add ∷ (step.Many p ∷ z))) h) (guarded-entered e p c len b M x (λ k z. g.0 k z) ((λ k z. refl), g)) in
    record {
      ends = r.ends;
      nested = n_more p c t b J u es r.ends x y k r.nested;
      balance = λ n. chosen-balance p c n T a len b M (step.Many p) r.ends
          (openings e (c.steps ++ base) (left c.take t u) es d (steps_in c.steps (behind_choice c.take (inside (level_of p) (frame T (step.Many p) b M)) a) ++ framed T M) (next_at c.take a)) i
          (ap (λ (F : List Pending). table_count n (openings e (c.steps ++ base) (left c.take t u) es d F (next_at c.take a)) + waiting n T E) (sym (entered-framed p c T a len b M (step.Many p) i)) ∙ r.balance n);
    })) J h g

-- and what is derived with ends is derived
pub record Unnesting (e : Edition) (u : List Terminal) (es : List Event) (T a : ℕ) (J : List Nest) (os : List End) : Type 0 where
  pub derives : Derives e (bare J) u es
  pub balance : Balance e (bare J) u es derives T a J os

pub unnest : (e : Edition) (J : List Nest) (u : List Terminal) (es : List Event) (os : List End) → Nested e J u es os → (T a : ℕ) → T ≡ a + length u → Unnesting e u es T a J os
unnest e _ _ _ _ n_done T a i = record { derives = done; balance = λ n. refl }
unnest e _ _ _ _ (n_end k s J u es os x d) T a i =
    let r = unnest e J u es os d T a i in
    record { derives = r.derives; balance = λ n. (let y = r.balance n in omega (arith, y)) }
unnest e _ _ _ _ (n_make f b J u es os d) T a i = let r = unnest e J u es os d T a i in record { derives = make f (bare J) u es r.derives; balance = r.balance }
unnest e _ _ _ _ (n_skip w t b J u es os s d) T a i =
    let r = unnest e J u es os d T (a + 1) (omega (arith, i)) in record { derives = skip w t (bare J) u es s r.derives; balance = r.balance }
unnest e _ _ _ _ (n_keep w t b J u es os s d) T a i =
    let r = unnest e J u es os d T (a + 1) (omega (arith, i)) in record { derives = keep w t (bare J) u es s r.derives; balance = r.balance }
unnest e _ _ _ _ (n_call p c t b J u es os x y d) T a i =
    let len = length (t ∷ u) in
    let E = entered p c len b J in
    let F = steps_in c.steps (behind_choice c.take (inside (level_of p) (frame T (step.Call p) b J)) a) ++ framed T J in
    let r = unnest e E (left c.take t u) es os d T (next_at c.take a) (left-length c.take T a t u i) in
    let q = same_derivation e (bare E) (c.steps ++ bare J) (left c.take t u) (left c.take t u) es (bare-entered p c len b J) refl r.derives F (next_at c.take a) in
    record {
      derives = call p c t (bare J) u es x y q.0;
      balance = λ n. chosen-balance p c n T a len b J (step.Call p) os (openings e (c.steps ++ bare J) (left c.take t u) es q.0 F (next_at c.take a)) i
          (ap (λ (z : List Opening). table_count n z + waiting n T E)
          (sym q.1 ∙ ap (λ (G : List Pending). openings e (bare E) (left c.take t u) es r.derives G (next_at c.take a)) (sym (entered-framed p c T a len b J (step.Call p) i))) ∙ r.balance n);
    }
unnest e _ _ _ _ (n_pass p ss b J u es os o d) T a i =
    let E = pushed ss b J in
    let F = steps_in ss (frame T (step.Call p) b J) ++ framed T J in
    let r = unnest e E u es os d T a i in
    let q = same_derivation e (bare E) (ss ++ bare J) u u es (bare-pushed ss b J) refl r.derives F a in
    record {
      derives = pass p ss (bare J) u es o q.0;
      balance = λ n. (let w = waiting-pushed n T ss b J in
          let z = ap (table_count n) (sym q.1 ∙ ap (λ (G : List Pending). openings e (bare E) u es r.derives G a) (sym (framed-pushed T ss b J (step.Call p)))) in
          let y = r.balance n in
          omega (arith, w, z, y));
    }
unnest e _ _ _ _ (n_stop p b J u es os d) T a i = let r = unnest e J u es os d T a i in record { derives = stop p (bare J) u es r.derives; balance = r.balance }
unnest e _ _ _ _ (n_more p c t b J u es os x y k d) T a i =
    let len = length (t ∷ u) in
    let M = at (step.Make form.Add) b ∷ (at (step.Many p) b ∷ J) in
    let E = entered p c len b M in
    let base = step.Make form.Add ∷ (step.Many p ∷ bare J) in
    let F = steps_in c.steps (behind_choice c.take (inside (level_of p) (frame T (step.Many p) b M)) a) ++ framed T M in
    let r = unnest e E (left c.take t u) es os d T (next_at c.take a) (left-length c.take T a t u i) in
    let q = same_derivation e (bare E) (c.steps ++ base) (left c.take t u) (left c.take t u) es (bare-entered p c len b M) refl r.derives F (next_at c.take a) in
    record {
      derives = more p c t (bare J) u es x y k q.0;
      balance = λ n. chosen-balance p c n T a len b M (step.Many p) os (openings e (c.steps ++ base) (left c.take t u) es q.0 F (next_at c.take a)) i
          (ap (λ (z : List Opening). table_count n z + waiting n T E)
          (sym q.1 ∙ ap (λ (G : List Pending). openings e (bare E) (left c.take t u) es r.derives G (next_at c.take a)) (sym (entered-framed p c T a len b M (step.Many p) i))) ∙ r.balance n);
    }
