-- Without a cycle there is an order.
use Rattle.std.proofs.Common.{◌≡◌, ◌≢◌, ℕ, zero, suc, ◌<◌, nat_eq, Bool, true, false, ◌||◌, cond, List, [], ◌∷◌, ◌++◌, length, slice_get, ◌⊎◌, inl, inr, ⊎_elim, refl, sym, ap, subst, ◌∙◌, arith, true≢false, eqb-true, eq-eqb, ne_eqb}
use Rattle.std.proofs.lemmas.Bool.{or_cases, or_parts, cases_Bool, cases_eq}
use Rattle.vv_events.specs.Items.{has, Item, driven_by, sensed_by}
use Rattle.vv_events.specs.Orders.{Ordered, meets, feeds, Chain, Reaches, HasCycle, OrderOf}
use Rattle.vv_events.proofs.Descent.{or_true, or_left}

pub meets_at : (xs ys : List ℕ) (b : ℕ) → has xs b ≡ true → has ys b ≡ true → meets xs ys ≡ true
meets_at [] ys b h k = absurd (true≢false (sym h))
meets_at (x ∷ xs) ys b h k =
    ⊎_elim (λ e. or_left (has ys x) (meets xs ys) (ap (has ys) (eqb-true x b e) ∙ k)) (λ r. or_true (has ys x) (meets xs ys) (meets_at xs ys b r k)) (or_cases (nat_eq x b) (has xs b) h)

chain_append : (d : List Item) (i : ℕ) (via : List ℕ) (j : ℕ) (via' : List ℕ) (k : ℕ) → Chain d i via j → Chain d j via' k → Chain d i (via ++ j ∷ via') k
chain_append d i [] j via' k c e = (c, e)
chain_append d i (x ∷ via) j via' k c e = (c.0, chain_append d x via j via' k c.1 e)

reaches_on : (d : List Item) (i j k : ℕ) → Reaches d i j → Reaches d j k → Reaches d i k
reaches_on d i j k p q = (p.0 ++ j ∷ q.0, chain_append d i p.0 j q.0 k p.1 q.1)

-- where each of a list has one of the list before it, one comes before itself
dense : (R : ℕ → ℕ → Type 0) → ((i j k : ℕ) → R i j → R j k → R i k) → (l : List ℕ) (x : ℕ) → ((j : ℕ) → has (x ∷ l) j ≡ true → (i : ℕ) × (has (x ∷ l) i ≡ true) × R i j) → (i : ℕ) × R i i
dense R on [] x pred = (x, subst (λ i. R i x) (only (or_cases (nat_eq x p.0) false p.1)) p.2)
  where
    p : (i : ℕ) × (has (x ∷ []) i ≡ true) × R i x
    p = pred x (or_left (nat_eq x x) false (eq-eqb x x refl))

    only : (nat_eq x p.0 ≡ true) ⊎ (false ≡ true) → p.0 ≡ x
    only o = ⊎_elim (λ e. sym (eqb-true x p.0 e)) (λ f. absurd (true≢false (sym f))) o
dense R on (y ∷ l) x pred = ⊎_elim (λ e. (x, subst (λ i. R i x) (sym (eqb-true x px.0 e)) px.2)) (λ r. dense R on l y (rest r)) (or_cases (nat_eq x px.0) (has (y ∷ l) px.0) px.1)
  where
    px : (i : ℕ) × (has (x ∷ (y ∷ l)) i ≡ true) × R i x
    px = pred x (or_left (nat_eq x x) (has (y ∷ l) x) (eq-eqb x x refl))

    rest : has (y ∷ l) px.0 ≡ true → (j : ℕ) → has (y ∷ l) j ≡ true → (i : ℕ) × (has (y ∷ l) i ≡ true) × R i j
    rest r j h =
        let p = pred j (or_true (nat_eq x j) (has (y ∷ l) j) h) in
        ⊎_elim (λ e. (px.0, r, on px.0 x j px.2 (subst (λ i. R i j) (sym (eqb-true x p.0 e)) p.2))) (λ q. (p.0, q, p.2)) (or_cases (nat_eq x p.0) (has (y ∷ l) p.0) p.1)

-- some item of the list feeds j
fed : List Item → List ℕ → ℕ → Bool
fed d [] j = false
fed d (i ∷ l) j = feeds d i j || fed d l j

fed_true : (d : List Item) (l : List ℕ) (j : ℕ) → fed d l j ≡ true → (i : ℕ) × (has l i ≡ true) × (feeds d i j ≡ true)
unfolding fed
fed_true d [] j h = absurd (true≢false (sym h))
fed_true d (i ∷ l) j h =
    ⊎_elim (λ e. (i, or_left (nat_eq i i) (has l i) (eq-eqb i i refl), e)) (λ r. let p = fed_true d l j r in (p.0, or_true (nat_eq i p.0) (has l p.0) p.1, p.2)) (or_cases (feeds d i j) (fed d l j) h)

fed_false : (d : List Item) (l : List ℕ) (i j : ℕ) → fed d l j ≡ false → has l i ≡ true → feeds d i j ≡ false
unfolding fed
fed_false d [] i j h k = absurd (true≢false (sym k))
fed_false d (x ∷ l) i j h k =
    let p = or_parts (feeds d x j) (fed d l j) h in
    ⊎_elim (λ e. subst (λ y. feeds d y j ≡ false) (eqb-true x i e) p.0) (λ r. fed_false d l i j p.1 r) (or_cases (nat_eq x i) (has l i) k)

find_source : (d : List Item) (l m : List ℕ) → ((j : ℕ) × (has m j ≡ true) × (fed d l j ≡ false)) ⊎ ((j : ℕ) → has m j ≡ true → fed d l j ≡ true)
find_source d l [] = inr (λ j h. absurd (true≢false (sym h)))
find_source d l (x ∷ m) =
    ⊎_elim
    (λ t. ⊎_elim (λ s. inl (s.0, or_true (nat_eq x s.0) (has m s.0) s.1, s.2)) (λ all. inr (λ j h. ⊎_elim (λ e. subst (λ y. fed d l y ≡ true) (eqb-true x j e) t) (λ r. all j r) (or_cases (nat_eq x j) (has m j) h))) (find_source d l m))
    (λ f. inl (x, or_left (nat_eq x x) (has m x) (eq-eqb x x refl), f))
    (cases_Bool (fed d l x))

without : List ℕ → ℕ → List ℕ
without [] j = []
without (x ∷ xs) j = cond (nat_eq x j) xs (x ∷ without xs j)

without_at : (x : ℕ) (xs : List ℕ) (j : ℕ) → x ≡ j → without (x ∷ xs) j ≡ xs
unfolding without
without_at x xs j q = ap (λ c. cond c xs (x ∷ without xs j)) (eq-eqb x j q)

without_past : (x : ℕ) (xs : List ℕ) (j : ℕ) → x ≢ j → without (x ∷ xs) j ≡ x ∷ without xs j
unfolding without
without_past x xs j n = ap (λ c. cond c xs (x ∷ without xs j)) (ne_eqb x j n)

without_length : (l : List ℕ) (j : ℕ) → has l j ≡ true → suc (length (without l j)) ≡ length l
without_length [] j h = absurd (true≢false (sym h))
without_length (x ∷ l) j h =
    ⊎_elim (λ q. ap (λ m. suc (length m)) (without_at x l j q))
    (λ n. ap (λ m. suc (length m)) (without_past x l j n) ∙ ap suc (without_length l j (⊎_elim (λ e. absurd (n (eqb-true x j e))) (λ r. r) (or_cases (nat_eq x j) (has l j) h))))
    (cases_eq x j)

without_keeps : (l : List ℕ) (i j : ℕ) → i ≢ j → has l i ≡ true → has (without l j) i ≡ true
without_keeps [] i j n h = absurd (true≢false (sym h))
without_keeps (x ∷ l) i j n h =
    ⊎_elim (λ q. ap (λ m. has m i) (without_at x l j q) ∙ ⊎_elim (λ e. absurd (n (sym (eqb-true x i e) ∙ q))) (λ r. r) (or_cases (nat_eq x i) (has l i) h))
    (λ m. ap (λ y. has y i) (without_past x l j m) ∙ ⊎_elim (λ e. or_left (nat_eq x i) (has (without l j) i) e) (λ r. or_true (nat_eq x i) (has (without l j) i) (without_keeps l i j n r)) (or_cases (nat_eq x i) (has l i) h))
    (cases_eq x j)

without_of : (l : List ℕ) (i j : ℕ) → has (without l j) i ≡ true → has l i ≡ true
unfolding without
without_of [] i j h = h
without_of (x ∷ l) i j h =
    ⊎_elim (λ q. or_true (nat_eq x i) (has l i) (sym (ap (λ m. has m i) (without_at x l j q)) ∙ h))
    (λ m. ⊎_elim (λ e. or_left (nat_eq x i) (has l i) e) (λ r. or_true (nat_eq x i) (has l i) (without_of l i j r)) (or_cases (nat_eq x i) (has (without l j) i) (sym (ap (λ y. has y i) (without_past x l j m)) ∙ h)))
    (cases_eq x j)

record OrderIn (d : List Item) (l : List ℕ) : Type 0 where
  order : List ℕ
  ordered : Ordered d order
  all : (i : ℕ) → has l i ≡ true → has order i ≡ true
  none_else : (i : ℕ) → has order i ≡ true → has l i ≡ true
  once : length order ≡ length l

none_cyclic : (d : List Item) → (HasCycle d → ⊥) → (l : List ℕ) (n : ℕ) → length l ≡ suc n → ((j : ℕ) → has l j ≡ true → fed d l j ≡ true) → ⊥
none_cyclic d acyclic [] n len all = omega arith
none_cyclic d acyclic (x ∷ l) n len all =
    acyclic (dense (Reaches d) (reaches_on d) l x (λ j h. let p = fed_true d (x ∷ l) j (all j h) in (p.0, p.1, ([], p.2))))

order_in : (d : List Item) → (HasCycle d → ⊥) → (n : ℕ) (l : List ℕ) → length l ≡ n → OrderIn d l
order_in d acyclic zero [] len = record { order = []; ordered = tt; all = λ i h. h; none_else = λ i h. h; once = refl }
order_in d acyclic zero (x ∷ l) len = absurd (omega arith)
order_in d acyclic (suc n) l len = ⊎_elim (λ s. put s.0 s.1 s.2 (order_in d acyclic n (without l s.0) (shorter s.0 s.1))) (λ all. absurd (none_cyclic d acyclic l n len all)) (find_source d l l)
  where
    shorter : (j : ℕ) → has l j ≡ true → length (without l j) ≡ n
    shorter j h = let e : suc (length (without l j)) ≡ length l = without_length l j h in omega arith

    put : (j : ℕ) → has l j ≡ true → fed d l j ≡ false → OrderIn d (without l j) → OrderIn d l
    put j h f r =
        record {
          order = j ∷ r.order;
          ordered = ((λ i b k dr se. true≢false (sym (meets_at (driven_by (slice_get d i)) (sensed_by (slice_get d j)) b dr se) ∙ fed_false d l i j f (inside i k))), r.ordered);
          all = λ i k. ⊎_elim (λ q. or_left (nat_eq j i) (has r.order i) (eq-eqb j i (sym q))) (λ m. or_true (nat_eq j i) (has r.order i) (r.all i (without_keeps l i j m k))) (cases_eq i j);
          none_else = inside;
          once = ap suc r.once ∙ without_length l j h;
        }
      where
        inside : (i : ℕ) → has (j ∷ r.order) i ≡ true → has l i ≡ true
        inside i k = ⊎_elim (λ e. subst (λ y. has l y ≡ true) (eqb-true j i e) h) (λ q. without_of l i j (r.none_else i q)) (or_cases (nat_eq j i) (has r.order i) k)

upto : ℕ → List ℕ
upto zero = []
upto (suc n) = n ∷ upto n

upto_length : (n : ℕ) → length (upto n) ≡ n
unfolding upto
upto_length zero = refl
upto_length (suc n) = ap suc (upto_length n)

upto_has : (n i : ℕ) → i < n → has (upto n) i ≡ true
unfolding upto
upto_has zero i l = absurd (omega arith)
upto_has (suc n) i l = ⊎_elim (λ q. or_left (nat_eq n i) (has (upto n) i) (eq-eqb n i (sym q))) (λ m. or_true (nat_eq n i) (has (upto n) i) (upto_has n i (omega arith))) (cases_eq i n)

pub order_of : (d : List Item) → (HasCycle d → ⊥) → OrderOf d
order_of d acyclic =
    let r = order_in d acyclic (length d) (upto (length d)) (upto_length (length d)) in
    record { order = r.order; ordered = r.ordered; complete = λ i l. r.all i (upto_has (length d) i l); once = r.once ∙ upto_length (length d) }
