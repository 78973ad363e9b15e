-- Above what may end late nothing of its kind starts or ends, so as many are round a step as are round what it stands for.
use Rattle.std.proofs.Common.{◌≡◌, ℕ, Bool, true, false, ◌&&◌, ◌||◌, not, nat_eq, List, [], ◌∷◌, Option, Some, None, refl, sym, ap, ◌∙◌, arith}
use Rattle.std.proofs.lemmas.Bool.{true≢false, false≢true, and_parts, eqb-true}
use Rattle.vv_grammar.specs.declared.edition.Edition.{Edition}
use Rattle.vv_grammar.specs.declared.edition.Edition.TheVariants as edition
use Rattle.vv_grammar.specs.declared.place.Place.{Place}
use Rattle.vv_grammar.specs.declared.place.Place.TheVariants as place
use Rattle.vv_grammar.specs.declared.step.Level.{Level}
use Rattle.vv_grammar.specs.declared.step.Level.TheVariants as level
use Rattle.vv_grammar.specs.declared.step.Step.{Step}
use Rattle.vv_grammar.specs.Table.{Choice, alternatives, otherwise, level_of}
use Rattle.vv_grammar_laws.specs.Derivations.{IsAmong}
use Rattle.vv_productions.specs.Depths.{Kind, an_expression, a_statement}
use Rattle.vv_productions.proofs.Items.{Way, more_if, same_kind, round, round-append, round-put}
use Rattle.vv_productions.proofs.Late.{late, free, late_step, free_step, any_late, all_free, guarded_steps}
use Rattle.vv_productions.proofs.Among.{In, every, every-in, every_choice, every-choice}
use Rattle.vv_productions.proofs.Nested.{Nest, at, end, rounds, has_late, pushed, level_end, began_behind, entered}
use Rattle.vv_productions.proofs.Meanings.{ways}
use Rattle.vv_productions.proofs.Steps.{Means, m_nothing, m_end, m_make, m_skip, m_keep, m_call, m_many}
use Rattle.vv_productions.proofs.Checked.{way-put}

-- only late places have ways with ends of what began before
abbrev pub is_early : Edition → Kind → Place → Bool
is_early e k p = late k p || every (λ x. nat_eq (round k x) 0) (ways e 1 p)

early : (e : Edition) (k : Kind) (p : Place) → is_early e k p ≡ true
early edition.Vhdl93 an_expression place.SensitivityNames = refl
early edition.Vhdl93 a_statement place.SensitivityNames = refl
early edition.Vhdl08 an_expression place.SensitivityNames = refl
early edition.Vhdl08 a_statement place.SensitivityNames = refl
early e an_expression place.Expression = refl
early e a_statement place.Expression = refl
early e an_expression _ = refl
early e a_statement _ = refl

second : (a b : Bool) → (a || b) ≡ true → a ≡ false → b ≡ true
second true b h k = absurd (true≢false k)
second false b h k = h

none-round : (e : Edition) (k : Kind) (p : Place) (b : ℕ) (x : Way) → In x (ways e b p) → late k p ≡ false → round k x ≡ 0
none-round e k p b x i l =
    let v = way-put e 0 b 1 p x i in
    let h = every-in (λ z. nat_eq (round k z) 0) (ways e 1 p) v.0 (second (late k p) (every (λ z. nat_eq (round k z) 0) (ways e 1 p)) (early e k p) l) v.1 in
    ap (round k) (sym v.2) ∙ round-put 0 b k v.0 ∙ eqb-true (round k v.0) 0 h

first-false : (a b : Bool) → (a || b) ≡ false → a ≡ false
first-false true b h = absurd (true≢false h)
first-false false b h = refl

second-false : (a b : Bool) → (a || b) ≡ false → b ≡ false
second-false true b h = absurd (true≢false h)
second-false false b h = h

pub same-round : (e : Edition) (k : Kind) (J : List Nest) (s : Way) → Means e J s → has_late k J ≡ false → round k s ≡ rounds k J
same-round e k _ _ m_nothing h = refl
same-round e k _ _ (m_end j b J s m) h = ap (more_if (same_kind k j)) (same-round e k J s m h)
same-round e k _ _ (m_make f b J s m) h = same-round e k J s m h
same-round e k _ _ (m_skip w b J s m) h = same-round e k J s m h
same-round e k _ _ (m_keep w b J s m) h = same-round e k J s m h
same-round e k _ _ (m_call p x b J s i m) h =
    let r = same-round e k J s m (second-false (late k p) (has_late k J) h) in
    let n = none-round e k p b x i (first-false (late k p) (has_late k J) h) in
    let a = round-append k x s in
    omega (arith, r, n, a)
same-round e k _ _ (m_many p b J s i m) h = same-round e k J s m h

-- above what may end late nothing of its kind starts or ends
abbrev pub Guarded : List Nest → Type 0
Guarded [] = Unit {0}
Guarded (end k s ∷ J) = (has_late k J ≡ false) × Guarded J
Guarded (at s b ∷ J) = ((k : Kind) → has_late k J ≡ true → free_step k s ≡ true) × Guarded J

abbrev pub level_kind : Level → Kind → Bool
level_kind level.Expression an_expression = true
level_kind level.ExpressionBehind an_expression = true
level_kind level.Statement a_statement = true
level_kind level.StatementBehind a_statement = true
level_kind _ _ = false

abbrev pub guards_steps : Kind → Place → List Step → Bool
guards_steps k p ss = guarded_steps k ss && (not (free k p) || all_free k ss)

abbrev pub guards_else : Kind → Place → Option (List Step) → Bool
guards_else k p None = true
guards_else k p (Some ss) = guards_steps k p ss

abbrev pub is_guard : Edition → Kind → Place → Bool
is_guard e k p = every_choice (λ c. guards_steps k p c.steps) (alternatives e p) && (guards_else k p (otherwise p) && not (free k p && level_kind (level_of p) k))

guard : (e : Edition) (k : Kind) (p : Place) → is_guard e k p ≡ true
guard edition.Vhdl93 an_expression place.SensitivityNames = refl
guard edition.Vhdl93 a_statement place.SensitivityNames = refl
guard edition.Vhdl08 an_expression place.SensitivityNames = refl
guard edition.Vhdl08 a_statement place.SensitivityNames = refl
guard e an_expression place.Expression = refl
guard e a_statement place.Expression = refl
guard e an_expression _ = refl
guard e a_statement _ = refl

third-part : (e : Edition) (k : Kind) (p : Place) → (every_choice (λ c. guards_steps k p c.steps) (alternatives e p) ≡ true) × (guards_else k p (otherwise p) ≡ true)
    × (not (free k p && level_kind (level_of p) k) ≡ true)
third-part e k p =
    let a = and_parts (every_choice (λ c. guards_steps k p c.steps) (alternatives e p)) (guards_else k p (otherwise p) && not (free k p && level_kind (level_of p) k)) (guard e k p) in
    let b = and_parts (guards_else k p (otherwise p)) (not (free k p && level_kind (level_of p) k)) a.1 in
    (a.0, b.0, b.1)

implied : (a b : Bool) → (not a || b) ≡ true → a ≡ true → b ≡ true
implied true b h e = h
implied false b h e = absurd (false≢true e)

or-true : (a b : Bool) → a ≡ true → (a || b) ≡ true
or-true true b h = refl
or-true false b h = absurd (false≢true h)

-- late steps in front of others
late-pushed : (k : Kind) (ss : List Step) (b : ℕ) (J : List Nest) → has_late k J ≡ false → has_late k (pushed ss b J) ≡ any_late k ss
late-pushed k [] b J h = h
late-pushed k (s ∷ ss) b J h = ap (λ (x : Bool). late_step k s || x) (late-pushed k ss b J h)

late-level : (k : Kind) (l : Level) (h b : ℕ) (J : List Nest) → has_late k (level_end l h b J) ≡ has_late k J
late-level k level.Same h b J = refl
late-level k level.Expression h b J = refl
late-level k level.ExpressionBehind h b J = refl
late-level k level.Statement h b J = refl
late-level k level.StatementBehind h b J = refl

-- the first of these steps, where something is late behind it
step-free : (k : Kind) (s : Step) (ss : List Step) (b : ℕ) (J : List Nest) → guarded_steps k (s ∷ ss) ≡ true → (has_late k J ≡ true → all_free k (s ∷ ss) ≡ true)
    → has_late k (pushed ss b J) ≡ true → free_step k s ≡ true
step-free k s ss b J g f h = go (has_late k J) refl
  where
    go : (x : Bool) → has_late k J ≡ x → free_step k s ≡ true
    go true y = (and_parts (free_step k s) (all_free k ss) (f y)).0
    go false y =
        implied (any_late k ss) (free_step k s) (and_parts (not (any_late k ss) || free_step k s) (guarded_steps k ss) g).0 (sym (late-pushed k ss b J y) ∙ h)

pub guarded-pushed : (ss : List Step) (b : ℕ) (J : List Nest) → ((k : Kind) → guarded_steps k ss ≡ true) → ((k : Kind) → has_late k J ≡ true → all_free k ss ≡ true)
    → Guarded J → Guarded (pushed ss b J)
guarded-pushed [] b J g f h = h
guarded-pushed (s ∷ ss) b J g f h = (
  λ k x. step-free k s ss b J (g k) (f k) x,
  guarded-pushed ss b J
      (λ k. (and_parts (not (any_late k ss) || free_step k s) (guarded_steps k ss) (g k)).1)
      (λ k x. (and_parts (free_step k s) (all_free k ss) (f k x)).1) h,
)

not-both : (a b : Bool) → not (a && b) ≡ true → b ≡ true → a ≡ true → ⊥
not-both true true h x y = false≢true h
not-both true false h x y = false≢true x
not-both false b h x y = false≢true y

-- where something starts nothing of its kind may end late below
no-late : (k : Kind) (x : Bool) (J : List Nest) → has_late k J ≡ x → (has_late k J ≡ true → ⊥) → has_late k J ≡ false
no-late k true J h n = absurd (n h)
no-late k false J h n = h

level-guarded : (e : Edition) (p : Place) (h b : ℕ) (J : List Nest) → ((k : Kind) → has_late k J ≡ true → free k p ≡ true) → Guarded J → Guarded (level_end (level_of p) h b J)
level-guarded e p h b J f g = go (level_of p) refl
  where
    none : (k : Kind) → level_kind (level_of p) k ≡ true → has_late k J ≡ false
    none k l = no-late k (has_late k J) J refl (λ x. not-both (free k p) (level_kind (level_of p) k) (third-part e k p).2 l (f k x))

    go : (l : Level) → level_of p ≡ l → Guarded (level_end l h b J)
    go level.Same q = g
    go level.Expression q = (none an_expression (ap (λ (z : Level). level_kind z an_expression) q), g)
    go level.ExpressionBehind q = (none an_expression (ap (λ (z : Level). level_kind z an_expression) q), g)
    go level.Statement q = (none a_statement (ap (λ (z : Level). level_kind z a_statement) q), g)
    go level.StatementBehind q = (none a_statement (ap (λ (z : Level). level_kind z a_statement) q), g)

steps-free : (k : Kind) (p : Place) (ss : List Step) → guards_steps k p ss ≡ true → free k p ≡ true → all_free k ss ≡ true
steps-free k p ss g f = implied (free k p) (all_free k ss) (and_parts (guarded_steps k ss) (not (free k p) || all_free k ss) g).1 f

pub guarded-entered : (e : Edition) (p : Place) (c : Choice) (h b : ℕ) (J : List Nest) → IsAmong c (alternatives e p) → ((k : Kind) → has_late k J ≡ true → free k p ≡ true) → Guarded J
    → Guarded (entered p c h b J)
guarded-entered e p c h b J a f g =
    let s : (k : Kind) → guards_steps k p c.steps ≡ true = λ k. every-choice (λ c. guards_steps k p c.steps) (alternatives e p) c (third-part e k p).0 a in
    guarded-pushed c.steps (began_behind c.take h b) (level_end (level_of p) h b J)
    (λ k. (and_parts (guarded_steps k c.steps) (not (free k p) || all_free k c.steps) (s k)).0)
    (λ k x. steps-free k p c.steps (s k) (f k (sym (late-level k (level_of p) h b J) ∙ x)))
    (level-guarded e p h b J f g)

pub guarded-else : (e : Edition) (p : Place) (ss : List Step) (b : ℕ) (J : List Nest) → otherwise p ≡ Some ss → ((k : Kind) → has_late k J ≡ true → free k p ≡ true) → Guarded J
    → Guarded (pushed ss b J)
guarded-else e p ss b J o f g =
    let s : (k : Kind) → guards_steps k p ss ≡ true = λ k. ap (guards_else k p) (sym o) ∙ (third-part e k p).1 in
    guarded-pushed ss b J
    (λ k. (and_parts (guarded_steps k ss) (not (free k p) || all_free k ss) (s k)).0)
    (λ k x. steps-free k p ss (s k) (f k x)) g
