-- The test of an order, and the small designs' premises.
use Rattle.std.proofs.Common.{◌≡◌, ℕ, zero, suc, ◌<◌, nat_eq, Bool, true, false, not, List, [], ◌∷◌, length, slice_get, slice_index_or, ⊎_elim, refl, sym, subst, arith, true≢false, eqb-true}
use Rattle.std.proofs.lemmas.Bool.{or_cases, and_parts}
use Rattle.vv_bits.specs.declared.four.V4.TheVariants.{Zero, One}
use Rattle.vv_events.specs.Items.{has, Item, driven_by, sensed_by, Drives, Fair, IfItem, IsAlways}
use Rattle.vv_events.specs.Steps.{Act, step, run, CanRun, Quiet}
use Rattle.vv_events.specs.Orders.{Ordered, Lawful, feeds, none_feeds, is_ordered}
use Rattle.vv_events.specs.Examples.{gate, chain, chain_order, register, register_start, register_steps}
use Rattle.vv_events.proofs.Acyclic.{meets_at}

not_true : (b : Bool) → not b ≡ true → b ≡ true → ⊥
not_true true h k = true≢false (sym h)
not_true false h k = true≢false (sym k)

none_feeds_at : (d : List Item) (l : List ℕ) (i j : ℕ) → none_feeds d l j ≡ true → has l i ≡ true → feeds d i j ≡ true → ⊥
none_feeds_at d [] i j h m f = true≢false (sym m)
none_feeds_at d (x ∷ l) i j h m f =
    let p = and_parts (not (feeds d x j)) (none_feeds d l j) h in
    ⊎_elim (λ e. not_true (feeds d x j) p.0 (subst (λ y. feeds d y j ≡ true) (sym (eqb-true x i e)) f)) (λ r. none_feeds_at d l i j p.1 r f) (or_cases (nat_eq x i) (has l i) m)

pub order_checks : (d : List Item) (order : List ℕ) → is_ordered d order ≡ true → Ordered d order
order_checks d [] h = tt
order_checks d (j ∷ rest) h =
    let p = and_parts (none_feeds d (j ∷ rest) j) (is_ordered d rest) h in
    ((λ i b m dr se. none_feeds_at d (j ∷ rest) i j p.0 m (meets_at (driven_by (slice_get d i)) (sensed_by (slice_get d j)) b dr se)), order_checks d rest p.1)

-- ---- one gate

pub gate_lawful : Lawful gate (0 ∷ [])
gate_lawful =
    record {
      fair = fair;
      apart = apart;
      ordered = order_checks gate (0 ∷ []) refl;
      complete = complete;
      once = refl;
    }
  where
    fair : (i : ℕ) → IfItem (slice_get gate i) Fair
    fair zero = tt
    fair (suc i) = tt

    apart : (i j b : ℕ) → IsAlways (slice_get gate i) → Drives gate i b → Drives gate j b → i ≡ j
    apart zero j b a p q = absurd a
    apart (suc i) j b a p q = absurd a

    complete : (i : ℕ) → i < length gate → has (0 ∷ []) i ≡ true
    complete zero l = refl
    complete (suc i) l = absurd (omega arith)

-- ---- three inverters

pub chain_lawful : Lawful chain chain_order
chain_lawful =
    record {
      fair = fair;
      apart = apart;
      ordered = order_checks chain chain_order refl;
      complete = complete;
      once = refl;
    }
  where
    fair : (i : ℕ) → IfItem (slice_get chain i) Fair
    fair zero = tt
    fair (suc zero) = tt
    fair (suc (suc zero)) = tt
    fair (suc (suc (suc i))) = tt

    apart : (i j b : ℕ) → IsAlways (slice_get chain i) → Drives chain i b → Drives chain j b → i ≡ j
    apart zero j b a p q = absurd a
    apart (suc zero) j b a p q = absurd a
    apart (suc (suc zero)) j b a p q = absurd a
    apart (suc (suc (suc i))) j b a p q = absurd a

    complete : (i : ℕ) → i < length chain → has chain_order i ≡ true
    complete zero l = refl
    complete (suc zero) l = refl
    complete (suc (suc zero)) l = refl
    complete (suc (suc (suc i))) l = absurd (omega arith)

-- ---- a register

pub one_of : (a b : ℕ) → has (a ∷ []) b ≡ true → a ≡ b
one_of a b h = ⊎_elim (λ e. eqb-true a b e) (λ f. absurd (true≢false (sym f))) (or_cases (nat_eq a b) false h)

pub register_lawful : Lawful register (0 ∷ 1 ∷ [])
register_lawful =
    record {
      fair = fair;
      apart = apart;
      ordered = order_checks register (0 ∷ 1 ∷ []) refl;
      complete = complete;
      once = refl;
    }
  where
    fair : (i : ℕ) → IfItem (slice_get register i) Fair
    fair zero = λ bits. (tt, (refl, tt))
    fair (suc zero) = tt
    fair (suc (suc i)) = tt

    apart : (i j b : ℕ) → IsAlways (slice_get register i) → Drives register i b → Drives register j b → i ≡ j
    apart zero zero b a p q = refl
    apart zero (suc zero) b a p q = absurd (let x : 2 ≡ b = one_of 2 b p in let y : 3 ≡ b = one_of 3 b q in omega arith)
    apart zero (suc (suc j)) b a p q = absurd (true≢false (sym q))
    apart (suc zero) j b a p q = absurd a
    apart (suc (suc i)) j b a p q = absurd a

    complete : (i : ℕ) → i < length register → has (0 ∷ 1 ∷ []) i ≡ true
    complete zero l = refl
    complete (suc zero) l = refl
    complete (suc (suc i)) l = absurd (omega arith)

cons_nil : {A : Type 0} (x : A) (xs : List A) → x ∷ xs ≡ [] → ⊥
cons_nil x xs q = cc

pub register_can : CanRun register register_start register_steps
register_can = ((omega arith, refl), (((λ i. none i), (λ q. cons_nil _ _ q)), ((omega arith, refl), tt)))
  where
    none : (i : ℕ) → slice_index_or (step register register_start (Act 0)).active i false ≡ false
    none zero = refl
    none (suc zero) = refl
    none (suc (suc i)) = refl

pub register_quiet : Quiet (run register register_start register_steps)
register_quiet = (none, refl)
  where
    none : (i : ℕ) → slice_index_or (run register register_start register_steps).active i false ≡ false
    none zero = refl
    none (suc zero) = refl
    none (suc (suc i)) = refl

pub register_ends : (run register register_start register_steps).bits ≡ One ∷ One ∷ One ∷ Zero ∷ []
register_ends = refl
