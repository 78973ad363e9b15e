-- A held process has the drivers of its one run at the row's start.
use Rattle.std.proofs.Common.{◌≡◌, ℕ, Bool, true, false, cond, List, [], ◌∷◌, Option, Some, None, slice_get, slice_set, ◌⊎◌, inl, inr, ⊎_elim, refl, sym, ap, ap₂, subst, ◌∙◌, true≢false}
use Rattle.std.proofs.lemmas.Bool.{cases_eq}
use Rattle.std.proofs.lemmas.Option.{slice_get_within}
use Rattle.vv_bits.specs.declared.nine.S9.{S9}
use Rattle.vv_cycle.specs.Processes.{Ran, Process, Design, Part, at, pick}
use Rattle.vv_cycle.specs.Turns.{VState, rested, part_after, with_part, resume_at, resume, changes, new_values, update, any_ready, Turn, Resume, Update, IsReady, after_turns, CanTurns}
use Rattle.vv_cycle.specs.Ranks.{Reached, First, Then, SameInputs, Ranked, InputsRest, ran_pick, wanted, HeldEnds}
use Rattle.vv_cycle.proofs.Bound.{Kept, update_inputs, get_set_same, get_set_other, some_eq, none_eq, ready_none, changes_at, was_part}

-- the part has run once from its start
record Gone (d : Design) (start : VState) (i : ℕ) (q : Part) : Type 0 where
  p : Process
  before : Part
  r : Ran
  process : slice_get d.processes i ≡ Some p
  part : slice_get start.parts i ≡ Some before
  on : before.ready ≡ true
  ran : p.body start.nets before.drivers before.variables ≡ Some r
  is : q ≡ rested before r

record Early (d : Design) (start s : VState) : Type 0 where
  nets : s.nets ≡ start.nets
  parts : (i : ℕ) (q : Part) → slice_get s.parts i ≡ Some q → (slice_get start.parts i ≡ Some q) ⊎ Gone d start i q

record Late (d : Design) (held : List S9 → ℕ → Bool) (start s : VState) : Type 0 where
  ends : HeldEnds d held start s
  rests : InputsRest d s.nets
  inputs : SameInputs d start.nets.values s.nets.values

early_ends : (d : Design) (held : List S9 → ℕ → Bool) (start s : VState) → Early d start s → any_ready s.parts ≡ false → HeldEnds d held start s
early_ends d held start s e idle i p q before x hh hp h0 hq =
    ⊎_elim
    (λ same. let eq : before ≡ q = some_eq before q (sym h0 ∙ same) in
    ap (λ o. pick p.targets o.drivers x) (sym eq) ∙ ap (λ b. cond b (ran_pick p (p.body start.nets before.drivers before.variables) x) (pick p.targets before.drivers x)) (sym (ap (λ o. o.ready) eq ∙ ready_none s.parts i q idle hq)))
    (λ g. gone g) (e.parts i q hq)
  where
    gone : Gone d start i q → pick p.targets q.drivers x ≡ wanted p start.nets before x
    gone g =
        let ep : g.p ≡ p = some_eq g.p p (sym g.process ∙ hp) in
        let eb : g.before ≡ before = some_eq g.before before (sym g.part ∙ h0) in
        ap (λ o. pick p.targets o.drivers x) g.is
        ∙ (ap (λ o. ran_pick p o x) (sym g.ran)
        ∙ (ap₂ (λ (o : Process) (b : Part). ran_pick p (o.body start.nets b.drivers b.variables) x) ep eb
        ∙ ap (λ b. cond b (ran_pick p (p.body start.nets before.drivers before.variables) x) (pick p.targets before.drivers x)) (sym (ap (λ o. o.ready) (sym eb) ∙ g.on))))

early_inputs : (d : Design) (start s : VState) → Early d start s → SameInputs d start.nets.values s.nets.values
early_inputs d start s e k non = ap (λ n. at n.values k) (sym e.nets)

update_ends : (d : Design) (held : List S9 → ℕ → Bool) (start s : VState) → HeldEnds d held start s → SameInputs d start.nets.values s.nets.values → Late d held start (update d s)
update_ends d held start s h same =
    record {
      ends = λ i p q before x hh hp h0 hq. let w = was_part d.processes (changes s.nets.values (new_values d s)) s.parts i p q hp hq in ap (λ ds. pick p.targets ds x) w.drivers ∙ h i p w.part before x hh hp h0 w.is;
      rests = λ k non. changes_at s.nets.values (new_values d s) k (update_inputs d s k non);
      inputs = λ k non. same k non ∙ update_inputs d s k non;
    }

resume_early : (d : Design) (start s : VState) (i : ℕ) (p : Process) (q : Part) (r : Ran) → Early d start s → slice_get d.processes i ≡ Some p → slice_get s.parts i ≡ Some q → q.ready ≡ true → p.body s.nets q.drivers q.variables ≡ Some r → Early d start (record { nets = s.nets; parts = slice_set s.parts i (rested q r) })
resume_early d start s i p q r e hp hq on ran =
    record {
      nets = e.nets;
      parts = λ j q' hq'. ⊎_elim (λ z. inr (here j q' z hq')) (λ n. e.parts j q' (sym (get_set_other s.parts i j (rested q r) n) ∙ hq')) (cases_eq j i);
    }
  where
    started : slice_get start.parts i ≡ Some q
    started = ⊎_elim (λ same. same) (λ g. absurd (true≢false (sym on ∙ ap (λ (o : Part). o.ready) g.is))) (e.parts i q hq)

    here : (j : ℕ) (q' : Part) → j ≡ i → slice_get (slice_set s.parts i (rested q r)) j ≡ Some q' → Gone d start j q'
    here j q' z hq' =
        record {
          p = p;
          before = q;
          r = r;
          process = ap (slice_get d.processes) z ∙ hp;
          part = ap (slice_get start.parts) z ∙ started;
          on = on;
          ran = ap (λ n. p.body n q.drivers q.variables) (sym e.nets) ∙ ran;
          is = sym (some_eq (rested q r) q' (sym (get_set_same s.parts i (rested q r) (slice_get_within s.parts i q hq)) ∙ (ap (slice_get (slice_set s.parts i (rested q r))) (sym z) ∙ hq')));
        }

resume_late : (d : Design) (Holds : VState → Type 0) (rank : ℕ → ℕ) (e : ℕ) (held : List S9 → ℕ → Bool) (give : ℕ → ℕ → List S9 → List S9) (start s : VState) (i : ℕ) (p : Process) (q : Part) (r : Ran) → Ranked d Holds rank e held give → Holds s → Late d held start s → slice_get d.processes i ≡ Some p → slice_get s.parts i ≡ Some q → q.ready ≡ true → p.body s.nets q.drivers q.variables ≡ Some r → Late d held start (record { nets = s.nets; parts = slice_set s.parts i (rested q r) })
resume_late d Holds rank e held give start s i p q r ranked known h hp hq on ran =
    record {
      ends = λ j p' q' before x hh hp' h0 hq'. ⊎_elim (λ z. here j p' q' before x z hh hp' h0 hq') (λ n. h.ends j p' q' before x hh hp' h0 (sym (get_set_other s.parts i j (rested q r) n) ∙ hq')) (cases_eq j i);
      rests = h.rests;
      inputs = h.inputs;
    }
  where
    here : (j : ℕ) (p' : Process) (q' before : Part) (x : ℕ) → j ≡ i → held start.nets.values j ≡ true → slice_get d.processes j ≡ Some p' → slice_get start.parts j ≡ Some before → slice_get (slice_set s.parts i (rested q r)) j ≡ Some q' → pick p'.targets q'.drivers x ≡ wanted p' start.nets before x
    here j p' q' before x z hh hp' h0 hq' =
        let ep : p ≡ p' = some_eq p p' (sym hp ∙ (ap (slice_get d.processes) (sym z) ∙ hp')) in
        let eq : rested q r ≡ q' = some_eq (rested q r) q' (sym (get_set_same s.parts i (rested q r) (slice_get_within s.parts i q hq)) ∙ (ap (slice_get (slice_set s.parts i (rested q r))) (sym z) ∙ hq')) in
        ap (λ o. pick p'.targets o.drivers x) (sym eq)
        ∙ (ap (λ o. pick o.targets r.drivers x) (sym ep)
        ∙ (ranked.keeps s i p q r known (sym (ranked.by_inputs i start.nets.values s.nets.values h.inputs) ∙ (ap (held start.nets.values) (sym z) ∙ hh)) (record { process = hp; part = hq; ready = on; ran = ran }) h.rests x
        ∙ (ap (λ o. pick o.targets q.drivers x) ep ∙ h.ends j p' q before x hh hp' h0 (ap (slice_get s.parts) z ∙ hq))))

-- ---- whole orders

option_ends : (d : Design) (Holds : VState → Type 0) (rank : ℕ → ℕ) (e : ℕ) (held : List S9 → ℕ → Bool) (give : ℕ → ℕ → List S9 → List S9) (start s : VState) (i : ℕ) (op : Option Process) (oq : Option Part) → Ranked d Holds rank e held give → Holds s → Early d start s ⊎ Late d held start s → slice_get d.processes i ≡ op → slice_get s.parts i ≡ oq → IsReady oq → (t : VState) → resume_at s i op oq ≡ Some t → Early d start t ⊎ Late d held start t
option_ends d Holds rank e held give start s i None oq ranked known h hp hq on t to = subst (λ u. Early d start u ⊎ Late d held start u) (some_eq s t to) h
option_ends d Holds rank e held give start s i (Some p) None ranked known h hp hq on t to = absurd on
option_ends d Holds rank e held give start s i (Some p) (Some q) ranked known h hp hq on t to = go (p.body s.nets q.drivers q.variables) refl to
  where
    go : (o : Option Ran) → p.body s.nets q.drivers q.variables ≡ o → with_part s i (part_after q o) ≡ Some t → Early d start t ⊎ Late d held start t
    go None ran k = absurd (none_eq t k)
    go (Some r) ran k =
        subst (λ u. Early d start u ⊎ Late d held start u) (some_eq _ t k)
        (⊎_elim (λ a. inl (resume_early d start s i p q r a hp hq on ran)) (λ a. inr (resume_late d Holds rank e held give start s i p q r ranked known a hp hq on ran)) h)

order_ends : (d : Design) (Holds : VState → Type 0) (rank : ℕ → ℕ) (e : ℕ) (held : List S9 → ℕ → Bool) (give : ℕ → ℕ → List S9 → List S9) (start s : VState) (ts : List Turn) (t : VState) → Ranked d Holds rank e held give → Kept d Holds → Holds s → Early d start s ⊎ Late d held start s → CanTurns d (Some s) ts → after_turns d (Some s) ts ≡ Some t → any_ready t.parts ≡ false → HeldEnds d held start t
order_ends d Holds rank e held give start s [] t ranked kept known h can to idle =
    ⊎_elim (λ a. early_ends d held start t (subst (Early d start) same a) idle) (λ a. subst (HeldEnds d held start) same a.ends) h
  where
    same : s ≡ t
    same = some_eq s t to
order_ends d Holds rank e held give start s (Resume i ∷ ts) t ranked kept known h can to idle =
    go (λ u q c k. order_ends d Holds rank e held give start u ts t ranked kept (kept s u (Resume i) known can.0 q) (option_ends d Holds rank e held give start s i (slice_get d.processes i) (slice_get s.parts i) ranked known h refl refl can.0 u q) c k idle) (resume d s i) refl can.1 to
  where
    go : ((u : VState) → resume d s i ≡ Some u → CanTurns d (Some u) ts → after_turns d (Some u) ts ≡ Some t → HeldEnds d held start t) → (o : Option VState) → resume d s i ≡ o → CanTurns d o ts → after_turns d o ts ≡ Some t → HeldEnds d held start t
    go more None q c k = absurd (none_eq t k)
    go more (Some u) q c k = more u q c k
order_ends d Holds rank e held give start s (Update ∷ ts) t ranked kept known h can to idle =
    order_ends d Holds rank e held give start (update d s) ts t ranked kept (kept s (update d s) Update known can.0 refl)
    (inr (update_ends d held start s (⊎_elim (λ a. early_ends d held start s a can.0.0) (λ a. a.ends) h) (⊎_elim (λ a. early_inputs d start s a) (λ a. a.inputs) h)))
    can.1 to idle

pub held_from : (d : Design) (Holds : VState → Type 0) (rank : ℕ → ℕ) (e : ℕ) (held : List S9 → ℕ → Bool) (give : ℕ → ℕ → List S9 → List S9) (start : VState) (ts : List Turn) (t : VState) → Ranked d Holds rank e held give → Kept d Holds → Holds start → CanTurns d (Some start) ts → after_turns d (Some start) ts ≡ Some t → any_ready t.parts ≡ false → HeldEnds d held start t
held_from d Holds rank e held give start ts t ranked kept known can to idle =
    order_ends d Holds rank e held give start start ts t ranked kept known (inl (record { nets = refl; parts = λ i q h. inl h })) can to idle

pub held_ends : (d : Design) (rank : ℕ → ℕ) (e : ℕ) (held : List S9 → ℕ → Bool) (give : ℕ → ℕ → List S9 → List S9) (start : VState) (ts : List Turn) (t : VState) → Ranked d (Reached d start) rank e held give → CanTurns d (Some start) ts → after_turns d (Some start) ts ≡ Some t → any_ready t.parts ≡ false → HeldEnds d held start t
held_ends d rank e held give start ts t ranked can to idle =
    held_from d (Reached d start) rank e held give start ts t ranked (λ a b u r c q. Then a b u r c q) First can to idle
