-- The premises of the laws can be met: ranks, lawful rows and runs of small designs.
use Rattle.std.proofs.Common.{◌≡◌, ℕ, zero, suc, ◌<◌, nat_eq, Bool, true, false, ◌||◌, ◌&&◌, not, cond, List, [], ◌∷◌, Some, slice_get, ⊎_elim, inr, refl, sym, ap, subst, ◌∙◌, arith, true≢false, eqb-true, eq-eqb}
use Rattle.std.proofs.lemmas.Bool.{cases_Bool}
use Rattle.vv_bits.specs.declared.nine.S9.{S9}
use Rattle.vv_bits.specs.declared.nine.S9.TheVariants.{One}
use Rattle.vv_bits.specs.Nine.{same, not_rule}
use Rattle.vv_cycle.specs.Processes.{Ran, Process, Part, at, has, pick}
use Rattle.vv_cycle.specs.Turns.{Resume, Update, VState}
use Rattle.vv_cycle.specs.Ranks.{Runs, Ranked, InputsRest, SameInputs, SameSensed}
use Rattle.vv_cycle.specs.Rows.{LawfulRows, VhdlRun, InRun, end_of}
use Rattle.vv_cycle.specs.Examples.{register, one_register, all_held, rank_0, give_none, latch, one_latch, closed_held, latch_give, inverter, chain, none_held, chain_rank, chain_give, one_row, chain_end, values_of}
use Rattle.vv_cycle.proofs.Bound.{some_eq, none_eq}
use Rattle.vv_cycle.proofs.Runs.{same_run}

-- ---- the register

is_register : (i : ℕ) (p : Process) → slice_get one_register.processes i ≡ Some p → p ≡ register
is_register zero p h = sym (some_eq register p h)
is_register (suc i) p h = absurd (none_eq p h)

register_ranks : (Holds : VState → Type 0) → Ranked one_register Holds rank_0 1 all_held give_none
register_ranks Holds =
    record {
      gives = λ s i p q r k off. absurd (true≢false off);
      keeps = keeps;
      lower = λ i p vs ws off. absurd (true≢false off);
      senses = λ i p vs ws off. absurd (true≢false off);
      by_inputs = λ i vs ws e. refl;
      by_sensed = λ i p vs ws hp e. refl;
      bound = λ x. omega arith;
    }
  where
    keeps : (s : VState) (i : ℕ) (p : Process) (q : Part) (r : Ran) → Holds s → all_held s.nets.values i ≡ true → Runs one_register s i p q r → InputsRest one_register s.nets → (x : ℕ) → pick p.targets r.drivers x ≡ pick p.targets q.drivers x
    keeps s i p q r known on runs rests x =
        let k : register.body s.nets q.drivers q.variables ≡ Some r = ap (λ (o : Process). o.body s.nets q.drivers q.variables) (sym (is_register i p runs.process)) ∙ runs.ran in
        ap (λ (o : Ran). pick p.targets o.drivers x) (sym (some_eq _ r k))
        ∙ ap (λ b. pick p.targets (cond (b && same (at s.nets.values 0) One) (at s.nets.values 1 ∷ []) q.drivers) x) (rests 0 refl)

pub register_ranked : Ranked one_register (InRun one_register) rank_0 1 all_held give_none
register_ranked = register_ranks (InRun one_register)

-- ---- the latch

is_latch : (i : ℕ) (p : Process) → slice_get one_latch.processes i ≡ Some p → p ≡ latch
is_latch zero p h = sym (some_eq latch p h)
is_latch (suc i) p h = absurd (none_eq p h)

is_open : (b : Bool) → not b ≡ false → b ≡ true
is_open true h = refl
is_open false h = absurd (true≢false h)

is_closed : (b : Bool) → not b ≡ true → b ≡ false
is_closed false h = refl
is_closed true h = absurd (true≢false (sym h))

latch_ranks : (Holds : VState → Type 0) → Ranked one_latch Holds rank_0 1 closed_held latch_give
latch_ranks Holds =
    record {
      gives = gives;
      keeps = keeps;
      lower = λ i p vs ws off hp x same below. ap (λ (v : S9). pick (2 ∷ []) (v ∷ []) x) (same 1 refl);
      senses = λ i p vs ws off hp x sensed. ap (λ (v : S9). pick (2 ∷ []) (v ∷ []) x) (sensed 1 (ap (λ (o : Process). has o.sensitive 1) (is_latch i p hp)));
      by_inputs = λ i vs ws e. ap (λ (v : S9). not (same v One)) (e 0 refl);
      by_sensed = λ i p vs ws hp e. ap (λ (v : S9). not (same v One)) (e 0 (ap (λ (o : Process). has o.sensitive 0) (is_latch i p hp)));
      bound = λ x. omega arith;
    }
  where
    left : (s : VState) (i : ℕ) (p : Process) (q : Part) (r : Ran) → slice_get one_latch.processes i ≡ Some p → p.body s.nets q.drivers q.variables ≡ Some r → r.drivers ≡ cond (same (at s.nets.values 0) One) (at s.nets.values 1 ∷ []) q.drivers
    left s i p q r hp ran =
        let k : latch.body s.nets q.drivers q.variables ≡ Some r = ap (λ (o : Process). o.body s.nets q.drivers q.variables) (sym (is_latch i p hp)) ∙ ran in
        ap (λ (o : Ran). o.drivers) (sym (some_eq _ r k))

    gives : (s : VState) (i : ℕ) (p : Process) (q : Part) (r : Ran) → Holds s → closed_held s.nets.values i ≡ false → Runs one_latch s i p q r → (x : ℕ) → pick p.targets r.drivers x ≡ latch_give i x s.nets.values
    gives s i p q r known off runs x =
        ap (λ (o : Process). pick o.targets r.drivers x) (is_latch i p runs.process)
        ∙ (ap (λ ds. pick (2 ∷ []) ds x) (left s i p q r runs.process runs.ran)
        ∙ ap (λ b. pick (2 ∷ []) (cond b (at s.nets.values 1 ∷ []) q.drivers) x) (is_open (same (at s.nets.values 0) One) off))

    keeps : (s : VState) (i : ℕ) (p : Process) (q : Part) (r : Ran) → Holds s → closed_held s.nets.values i ≡ true → Runs one_latch s i p q r → InputsRest one_latch s.nets → (x : ℕ) → pick p.targets r.drivers x ≡ pick p.targets q.drivers x
    keeps s i p q r known on runs rests x =
        ap (λ ds. pick p.targets ds x) (left s i p q r runs.process runs.ran)
        ∙ ap (λ b. pick p.targets (cond b (at s.nets.values 1 ∷ []) q.drivers) x) (is_closed (same (at s.nets.values 0) One) on)

pub latch_ranked : Ranked one_latch (InRun one_latch) rank_0 1 closed_held latch_give
latch_ranked = latch_ranks (InRun one_latch)

-- ---- the chain

record Third (i : ℕ) (p : Process) : Type 0 where
  is : p ≡ inverter i
  up : chain_rank i < chain_rank (suc i)

is_inverter : (i : ℕ) (p : Process) → slice_get chain.processes i ≡ Some p → Third i p
is_inverter zero p h = record { is = sym (some_eq (inverter 0) p h); up = omega arith }
is_inverter (suc zero) p h = record { is = sym (some_eq (inverter 1) p h); up = omega arith }
is_inverter (suc (suc zero)) p h = record { is = sym (some_eq (inverter 2) p h); up = omega arith }
is_inverter (suc (suc (suc i))) p h = absurd (none_eq p h)

chain_bound : (x : ℕ) → chain_rank x < 4
chain_bound zero = omega arith
chain_bound (suc zero) = omega arith
chain_bound (suc (suc zero)) = omega arith
chain_bound (suc (suc (suc zero))) = omega arith
chain_bound (suc (suc (suc (suc x)))) = omega arith

chain_ranks : (Holds : VState → Type 0) → Ranked chain Holds chain_rank 4 none_held chain_give
chain_ranks Holds =
    record {
      gives = gives;
      keeps = λ s i p q r k on. absurd (true≢false (sym on));
      lower = lower;
      senses = senses;
      by_inputs = λ i vs ws e. refl;
      by_sensed = λ i p vs ws hp e. refl;
      bound = chain_bound;
    }
  where
    gives : (s : VState) (i : ℕ) (p : Process) (q : Part) (r : Ran) → Holds s → none_held s.nets.values i ≡ false → Runs chain s i p q r → (x : ℕ) → pick p.targets r.drivers x ≡ chain_give i x s.nets.values
    gives s i p q r known off runs x =
        let e = (is_inverter i p runs.process).is in
        let k : (inverter i).body s.nets q.drivers q.variables ≡ Some r = ap (λ (o : Process). o.body s.nets q.drivers q.variables) (sym e) ∙ runs.ran in
        ap (λ (o : Process). pick o.targets r.drivers x) e ∙ ap (λ (o : Ran). pick (suc i ∷ []) o.drivers x) (sym (some_eq _ r k))

    lower : (i : ℕ) (p : Process) (vs ws : List S9) → none_held vs i ≡ false → slice_get chain.processes i ≡ Some p → (x : ℕ) → SameInputs chain vs ws → ((y : ℕ) → chain_rank y < chain_rank x → at vs y ≡ at ws y) → chain_give i x vs ≡ chain_give i x ws
    lower i p vs ws off hp x same below =
        ⊎_elim
        (λ t. ap (λ (v : S9). pick (suc i ∷ []) (not_rule v ∷ []) x) (below i (subst (λ n. chain_rank i < chain_rank n) (eqb-true (suc i) x t) (is_inverter i p hp).up)))
        (λ f. ap (λ b. cond b (not_rule (at vs i) ∷ []) []) f ∙ sym (ap (λ b. cond b (not_rule (at ws i) ∷ []) []) f))
        (cases_Bool (nat_eq (suc i) x))

    senses : (i : ℕ) (p : Process) (vs ws : List S9) → none_held vs i ≡ false → slice_get chain.processes i ≡ Some p → (x : ℕ) → SameSensed p vs ws → chain_give i x vs ≡ chain_give i x ws
    senses i p vs ws off hp x sensed =
        ap (λ (v : S9). pick (suc i ∷ []) (not_rule v ∷ []) x)
        (sensed i (ap (λ (o : Process). has o.sensitive i) (is_inverter i p hp).is ∙ ap (λ b. b || false) (eq-eqb i i refl)))

pub chain_ranked : Ranked chain (InRun chain) chain_rank 4 none_held chain_give
chain_ranked = chain_ranks (InRun chain)

pub row_lawful : LawfulRows chain one_row
row_lawful = (record { fit = ((refl, (tt, tt)), tt); once = (refl, tt); alone = inr (refl, tt) }, tt)

-- one of the orders, written out
abbrev pub a_run : VhdlRun chain one_row
a_run =
    record {
      first = Resume 2 ∷ Resume 0 ∷ Resume 1 ∷ Update ∷ Resume 1 ∷ Update ∷ Resume 2 ∷ Update ∷ [];
      later = (Resume 0 ∷ Update ∷ Resume 1 ∷ Update ∷ Resume 2 ∷ Update ∷ []) ∷ [];
      can_first = (refl, (refl, (refl, ((refl, refl), (refl, ((refl, refl), (refl, ((refl, refl), tt))))))));
      ends_first = (refl, refl);
      can_later = ((refl, ((refl, refl), (refl, ((refl, refl), (refl, ((refl, refl), tt)))))), ((refl, refl), tt));
    }

-- that order is computed to its end, and every other one ends there too
pub run_ends : (run : VhdlRun chain one_row) → values_of (end_of chain one_row run) ≡ chain_end
run_ends run = ap values_of (same_run chain one_row run a_run).0
