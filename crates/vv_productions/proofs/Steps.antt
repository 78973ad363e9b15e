-- What steps of the table stand for: a way of each place, one behind the other.
use Rattle.std.proofs.Common.{◌≡◌, ◌⊎◌, inl, inr, ℕ, Bool, true, false, ◌&&◌, List, [], ◌∷◌, ◌++◌, refl, sym, ap, ◌∙◌, subst, append_assoc}
use Rattle.std.proofs.lemmas.Bool.{false≢true, and_parts, and_from}
use Rattle.vv_grammar.specs.declared.edition.Edition.{Edition}
use Rattle.vv_grammar.specs.declared.form.Form.{Form}
use Rattle.vv_grammar.specs.declared.form.Form.TheVariants as form
use Rattle.vv_grammar.specs.declared.place.Place.{Place}
use Rattle.vv_grammar.specs.declared.place.Place.TheVariants as place
use Rattle.vv_grammar.specs.declared.step.Step.{Step}
use Rattle.vv_grammar.specs.declared.step.Step.TheVariants as step
use Rattle.vv_grammar.specs.declared.terminal.Terminal.{Terminal}
use Rattle.vv_productions.specs.Phrases as p
use Rattle.vv_productions.specs.Productions as q
use Rattle.vv_productions.specs.Phrases.{Phrase, ◌▸◌, ◌or◌}
use Rattle.vv_productions.specs.Depths.{Kind}
use Rattle.vv_productions.proofs.Items.{Item, skip, keep, make, many, close, Way, put, put-append, at_place}
use Rattle.vv_productions.proofs.Among.{In, at_head, behind}
use Rattle.vv_productions.proofs.Nested.{Nest, at, end, pushed}
use Rattle.vv_productions.proofs.Meanings.{ways}

-- the places that steps repeat
abbrev pub is_part : Place → Bool
is_part place.Unit = true
is_part place.Declaration = true
is_part place.PackageDeclaration = true
is_part place.BodyDeclaration = true
is_part place.ProcessDeclaration = true
is_part place.Concurrent = true
is_part place.Statement = true
is_part place.MarkPart = true
is_part _ = false

abbrev pub part : Place → Phrase
part place.Unit = p.rule p.design_unit
part place.Declaration = p.rule p.declaration
part place.PackageDeclaration = p.rule p.common_declaration or p.rule p.component
part place.BodyDeclaration = p.rule p.common_declaration or p.rule p.function_body
part place.ProcessDeclaration = p.rule p.process_declaration
part place.Concurrent = p.rule p.concurrent_statement
part place.Statement = p.rule p.statement
part place.MarkPart = q.dotted_part
part _ = p.make form.Absent

abbrev pub repeated : Place → Phrase
repeated q = part q ▸ p.make form.Add

-- What steps stand for: a way of each place, one behind the other, with the ends between them.
pub data Means (e : Edition) : List Nest → Way → Type 0 where
  m_nothing : Means e [] []
  m_end : (k : Kind) (b : ℕ) (J : List Nest) (s : Way) → Means e J s → Means e (end k b ∷ J) (close k b ∷ s)
  m_make : (f : Form) (b : ℕ) (J : List Nest) (s : Way) → Means e J s → Means e (at (step.Make f) b ∷ J) (make f ∷ s)
  m_skip : (w : Terminal) (b : ℕ) (J : List Nest) (s : Way) → Means e J s → Means e (at (step.Skip w) b ∷ J) (skip w ∷ s)
  m_keep : (w : Terminal) (b : ℕ) (J : List Nest) (s : Way) → Means e J s → Means e (at (step.Keep w) b ∷ J) (keep w ∷ s)
  m_call : (p : Place) (x : Way) (b : ℕ) (J : List Nest) (s : Way) → In x (ways e b p) → Means e J s → Means e (at (step.Call p) b ∷ J) (x ++ s)
  m_many : (p : Place) (b : ℕ) (J : List Nest) (s : Way) → is_part p ≡ true → Means e J s → Means e (at (step.Many p) b ∷ J) (many (repeated p) ∷ s)

-- all that steps stand for
abbrev pub each_behind : Item → List Way → List Way
each_behind a [] = []
each_behind a (x ∷ xs) = (a ∷ x) ∷ each_behind a xs

abbrev pub each_in_front : Way → List Way → List Way
each_in_front x [] = []
each_in_front x (y ∷ ys) = (x ++ y) ∷ each_in_front x ys

abbrev pub spread : List Way → List Way → List Way
spread [] ys = []
spread (x ∷ xs) ys = each_in_front x ys ++ spread xs ys

abbrev pub if_part : Bool → List Way → List Way
if_part true xs = xs
if_part false xs = []

-- where the production round them began at b
abbrev pub listed : Edition → ℕ → List Step → List Way
listed e b [] = [] ∷ []
listed e b (step.Make f ∷ K) = each_behind (make f) (listed e b K)
listed e b (step.Skip w ∷ K) = each_behind (skip w) (listed e b K)
listed e b (step.Keep w ∷ K) = each_behind (keep w) (listed e b K)
listed e b (step.Call p ∷ K) = spread (ways e b p) (listed e b K)
listed e b (step.Many p ∷ K) = if_part (is_part p) (each_behind (many (repeated p)) (listed e b K))

in-behind : (a : Item) (x : Way) (xs : List Way) → In x xs → In (a ∷ x) (each_behind a xs)
in-behind a x [] i = elim i [ ]
in-behind a x (_ ∷ xs) (at_head _ _) = at_head (a ∷ x) (each_behind a xs)
in-behind a x (_ ∷ xs) (behind _ y _ i) = behind (a ∷ x) (a ∷ y) (each_behind a xs) (in-behind a x xs i)

in-front : (x y : Way) (ys : List Way) → In y ys → In (x ++ y) (each_in_front x ys)
in-front x y [] i = elim i [ ]
in-front x y (_ ∷ ys) (at_head _ _) = at_head (x ++ y) (each_in_front x ys)
in-front x y (_ ∷ ys) (behind _ z _ i) = behind (x ++ y) (x ++ z) (each_in_front x ys) (in-front x y ys i)

in-left : (x : Way) (xs ys : List Way) → In x xs → In x (xs ++ ys)
in-left x [] ys i = elim i [ ]
in-left x (_ ∷ xs) ys (at_head _ _) = at_head x (xs ++ ys)
in-left x (_ ∷ xs) ys (behind _ z _ i) = behind x z (xs ++ ys) (in-left x xs ys i)

in-right : (x : Way) (xs ys : List Way) → In x ys → In x (xs ++ ys)
in-right x [] ys i = i
in-right x (z ∷ xs) ys i = behind x z (xs ++ ys) (in-right x xs ys i)

in-spread : (x y : Way) (xs ys : List Way) → In x xs → In y ys → In (x ++ y) (spread xs ys)
in-spread x y [] ys i j = elim i [ ]
in-spread x y (_ ∷ xs) ys (at_head _ _) j = in-left (x ++ y) (each_in_front x ys) (spread xs ys) (in-front x y ys j)
in-spread x y (_ ∷ xs) ys (behind _ z _ i) j = in-right (x ++ y) (each_in_front z ys) (spread xs ys) (in-spread x y xs ys i j)

in-part : (b : Bool) (x : Way) (xs : List Way) → b ≡ true → In x xs → In x (if_part b xs)
in-part true x xs h i = i
in-part false x xs h i = absurd (false≢true h)

-- what stands in such lists
pub record Behind (a : Item) (x : Way) (xs : List Way) : Type 0 where
  pub rest : Way
  pub among : In rest xs
  pub is : a ∷ rest ≡ x

behind-of : (a : Item) (x : Way) (xs : List Way) → In x (each_behind a xs) → Behind a x xs
behind-of a x [] i = elim i [ ]
behind-of a _ (y ∷ xs) (at_head _ _) = record { rest = y; among = at_head y xs; is = refl }
behind-of a x (y ∷ xs) (behind _ _ _ i) = let b = behind-of a x xs i in record { rest = b.rest; among = behind b.rest y xs b.among; is = b.is }

pub record Front (x z : Way) (ys : List Way) : Type 0 where
  pub rest : Way
  pub among : In rest ys
  pub is : x ++ rest ≡ z

front-of : (x z : Way) (ys : List Way) → In z (each_in_front x ys) → Front x z ys
front-of x z [] i = elim i [ ]
front-of x _ (y ∷ ys) (at_head _ _) = record { rest = y; among = at_head y ys; is = refl }
front-of x z (y ∷ ys) (behind _ _ _ i) = let b = front-of x z ys i in record { rest = b.rest; among = behind b.rest y ys b.among; is = b.is }

in-either : (x : Way) (xs ys : List Way) → In x (xs ++ ys) → In x xs ⊎ In x ys
in-either x [] ys i = inr i
in-either x (_ ∷ xs) ys (at_head _ _) = inl (at_head x xs)
in-either x (z ∷ xs) ys (behind _ _ _ i) = elim (in-either x xs ys i) [
  | inl l ↦ inl (behind x z xs l)
  | inr r ↦ inr r
]

pub record Spread (z : Way) (xs ys : List Way) : Type 0 where
  pub before : Way
  pub rest : Way
  pub first : In before xs
  pub second : In rest ys
  pub is : before ++ rest ≡ z

spread-of : (z : Way) (xs ys : List Way) → In z (spread xs ys) → Spread z xs ys
spread-of z [] ys i = elim i [ ]
spread-of z (x ∷ xs) ys i = elim (in-either z (each_in_front x ys) (spread xs ys) i) [
  | inl l ↦ let f = front-of x z ys l in record { before = x; rest = f.rest; first = at_head x xs; second = f.among; is = f.is }
  | inr r ↦ let s = spread-of z xs ys r in record { before = s.before; rest = s.rest; first = behind s.before x xs s.first; second = s.second; is = s.is }
]

part-of : (b : Bool) (x : Way) (xs : List Way) → In x (if_part b xs) → (b ≡ true) × In x xs
part-of true x xs i = (refl, i)
part-of false x xs i = elim i [ ]

-- What is listed, put into the tokens, is what steps stand for before others.
pub listed-means : (e : Edition) (h c d : ℕ) → ((p : Place) (x : Way) → In x (ways e c p) → In (put h d x) (ways e (at_place h d c) p))
    → (R : List Step) (J : List Nest) (x y : Way) → In x (listed e c R) → Means e J y → Means e (pushed R (at_place h d c) J) (put h d x ++ y)
listed-means e h c d w [] J _ y (at_head _ _) m = m
listed-means e h c d w [] J x y (behind _ _ _ i) m = elim i [ ]
listed-means e h c d w (step.Make f ∷ R) J x y i m =
    let b = behind-of (make f) x (listed e c R) i in
    subst (λ (z : Way). Means e (at (step.Make f) (at_place h d c) ∷ pushed R (at_place h d c) J) (put h d z ++ y)) b.is
    (m_make f (at_place h d c) (pushed R (at_place h d c) J) (put h d b.rest ++ y) (listed-means e h c d w R J b.rest y b.among m))
listed-means e h c d w (step.Skip t ∷ R) J x y i m =
    let b = behind-of (skip t) x (listed e c R) i in
    subst (λ (z : Way). Means e (at (step.Skip t) (at_place h d c) ∷ pushed R (at_place h d c) J) (put h d z ++ y)) b.is
    (m_skip t (at_place h d c) (pushed R (at_place h d c) J) (put h d b.rest ++ y) (listed-means e h c d w R J b.rest y b.among m))
listed-means e h c d w (step.Keep t ∷ R) J x y i m =
    let b = behind-of (keep t) x (listed e c R) i in
    subst (λ (z : Way). Means e (at (step.Keep t) (at_place h d c) ∷ pushed R (at_place h d c) J) (put h d z ++ y)) b.is
    (m_keep t (at_place h d c) (pushed R (at_place h d c) J) (put h d b.rest ++ y) (listed-means e h c d w R J b.rest y b.among m))
listed-means e h c d w (step.Call q ∷ R) J x y i m =
    let b = spread-of x (ways e c q) (listed e c R) i in
    let J' = pushed R (at_place h d c) J in
    subst (λ (z : Way). Means e (at (step.Call q) (at_place h d c) ∷ J') (put h d z ++ y)) b.is
    (subst (Means e (at (step.Call q) (at_place h d c) ∷ J'))
    (sym (append_assoc (put h d b.before) (put h d b.rest) y) ∙ ap (λ (z : Way). z ++ y) (sym (put-append h d b.before b.rest)))
    (m_call q (put h d b.before) (at_place h d c) J' (put h d b.rest ++ y) (w q b.before b.first) (listed-means e h c d w R J b.rest y b.second m)))
listed-means e h c d w (step.Many q ∷ R) J x y i m =
    let p = part-of (is_part q) x (each_behind (many (repeated q)) (listed e c R)) i in
    let b = behind-of (many (repeated q)) x (listed e c R) p.1 in
    subst (λ (z : Way). Means e (at (step.Many q) (at_place h d c) ∷ pushed R (at_place h d c) J) (put h d z ++ y)) b.is
    (m_many q (at_place h d c) (pushed R (at_place h d c) J) (put h d b.rest ++ y) p.0 (listed-means e h c d w R J b.rest y b.among m))

-- What steps before others stand for is listed.
pub record Split (e : Edition) (h c d : ℕ) (R : List Step) (J : List Nest) (s : Way) : Type 0 where
  pub before : Way
  pub rest : Way
  pub first : In before (listed e c R)
  pub second : Means e J rest
  pub is : put h d before ++ rest ≡ s

pub means-split : (e : Edition) (h c d : ℕ)
    → ((p : Place) (x : Way) → In x (ways e (at_place h d c) p) → (y : Way) × In y (ways e c p) × (put h d y ≡ x))
    → (R : List Step) (J : List Nest) (s : Way) → Means e (pushed R (at_place h d c) J) s → Split e h c d R J s
means-split e h c d w [] J s m = record { before = []; rest = s; first = at_head [] []; second = m; is = refl }
means-split e h c d w (step.Make f ∷ R) J _ (m_make _ _ _ s m) =
    let b = means-split e h c d w R J s m in
    record { before = make f ∷ b.before; rest = b.rest; first = in-behind (make f) b.before (listed e c R) b.first; second = b.second; is = ap (λ (x : Way). make f ∷ x) b.is }
means-split e h c d w (step.Skip t ∷ R) J _ (m_skip _ _ _ s m) =
    let b = means-split e h c d w R J s m in
    record { before = skip t ∷ b.before; rest = b.rest; first = in-behind (skip t) b.before (listed e c R) b.first; second = b.second; is = ap (λ (x : Way). skip t ∷ x) b.is }
means-split e h c d w (step.Keep t ∷ R) J _ (m_keep _ _ _ s m) =
    let b = means-split e h c d w R J s m in
    record { before = keep t ∷ b.before; rest = b.rest; first = in-behind (keep t) b.before (listed e c R) b.first; second = b.second; is = ap (λ (x : Way). keep t ∷ x) b.is }
means-split e h c d w (step.Call q ∷ R) J _ (m_call _ z _ _ s i m) =
    let b = means-split e h c d w R J s m in
    let v = w q z i in
    record {
      before = v.0 ++ b.before;
      rest = b.rest;
      first = in-spread v.0 b.before (ways e c q) (listed e c R) v.1 b.first;
      second = b.second;
      is = ap (λ (x : Way). x ++ b.rest) (put-append h d v.0 b.before) ∙ append_assoc (put h d v.0) (put h d b.before) b.rest ∙ ap (λ (x : Way). x ++ (put h d b.before ++ b.rest)) v.2 ∙ ap (λ (x : Way). z ++ x) b.is;
    }
means-split e h c d w (step.Many q ∷ R) J _ (m_many _ _ _ s k m) =
    let b = means-split e h c d w R J s m in
    record {
      before = many (repeated q) ∷ b.before;
      rest = b.rest;
      first = in-part (is_part q) (many (repeated q) ∷ b.before) (each_behind (many (repeated q)) (listed e c R)) k (in-behind (many (repeated q)) b.before (listed e c R) b.first);
      second = b.second;
      is = ap (λ (x : Way). many (repeated q) ∷ x) b.is;
    }

-- all that is repeated is known
abbrev pub known : List Step → Bool
known [] = true
known (step.Many p ∷ K) = is_part p && known K
known (s ∷ K) = known K

pub known-append : (R K : List Step) → known R ≡ true → known K ≡ true → known (R ++ K) ≡ true
known-append [] K h k = k
known-append (step.Make f ∷ R) K h k = known-append R K h k
known-append (step.Skip w ∷ R) K h k = known-append R K h k
known-append (step.Keep w ∷ R) K h k = known-append R K h k
known-append (step.Call p ∷ R) K h k = known-append R K h k
known-append (step.Many p ∷ R) K h k = let b = and_parts (is_part p) (known R) h in and_from (is_part p) (known (R ++ K)) b.0 (known-append R K b.1 k)
