-- Every order of turns ends alike: each turn keeps what the ordered run comes to.
use Rattle.std.proofs.Common.{◌≡◌, ℕ, zero, suc, ◌+◌, true, false, cond, List, [], ◌∷◌, Option, Some, None, slice_get, slice_set, refl, sym, ap, ap₂, subst, ◌∙◌, arith}
use Rattle.std.proofs.lemmas.Bool.{or_parts}
use Rattle.vv_cycle.specs.Processes.{Nets, Ran, Process, Design, Part}
use Rattle.vv_cycle.specs.Turns.{VState, rested, part_after, resumed, with_part, resume_at, resume, update, any_ready, differs, IsSettled, Turn, Resume, Update, IsReady, after_turns, CanTurns, IsEnd}

pub data End : Type 0 where
  Rests : (state : VState) → End
  Ranges : End
  Goes_on : End

abbrev join : Option Part → Option (List Part) → Option (List Part)
join None o = None
join (Some p) None = None
join (Some p) (Some ps) = Some (p ∷ ps)

abbrev flush_one : Process → Nets → Part → Option Part
flush_one p nets part = cond part.ready (resumed p nets part) (Some part)

-- all ready processes have run
abbrev flush : List Process → Nets → List Part → Option (List Part)
flush [] nets parts = Some parts
flush (p ∷ ps) nets [] = Some []
flush (p ∷ ps) nets (part ∷ parts) = join (flush_one p nets part) (flush ps nets parts)

abbrev settle_with : (VState → End) → Design → Nets → Option (List Part) → End
settle_with next d nets None = Ranges
settle_with next d nets (Some parts) =
    cond (differs d (record { nets = nets; parts = parts })) (next (update d (record { nets = nets; parts = parts }))) (Rests (record { nets = nets; parts = parts }))

-- what the ordered run comes to with at most n updates
norm : Design → ℕ → VState → End
norm d zero s = settle_with (λ t. Goes_on) d s.nets (flush d.processes s.nets s.parts)
norm d (suc n) s = settle_with (norm d n) d s.nets (flush d.processes s.nets s.parts)

norm_of : Design → ℕ → Option VState → End
norm_of d n None = Ranges
norm_of d n (Some s) = norm d n s

join_none : (o : Option Part) → join o None ≡ None
join_none None = refl
join_none (Some p) = refl

some_same : {A : Type 0} (a b : A) → Some a ≡ Some b → a ≡ b
some_same a b q = cc

none_some : {A : Type 0} (a : A) → None ≡ Some a → ⊥
none_some a q = cc

flush_fine : (d : List Process) (nets : Nets) (parts : List Part) (i : ℕ) (p : Process) (part : Part) (r : Ran) → slice_get d i ≡ Some p → slice_get parts i ≡ Some part → part.ready ≡ true → p.body nets part.drivers part.variables ≡ Some r → flush d nets (slice_set parts i (rested part r)) ≡ flush d nets parts
flush_fine [] nets parts i p part r hp hq on ran = absurd (none_some p hp)
flush_fine (p' ∷ d) nets [] i p part r hp hq on ran = absurd (none_some part hq)
flush_fine (p' ∷ d) nets (x ∷ parts) zero p part r hp hq on ran =
    ap (λ o. join o (flush d nets parts)) (sym one)
  where
    one : flush_one p' nets x ≡ Some (rested part r)
    one =
        subst (λ q. flush_one q nets x ≡ Some (rested part r)) (sym (some_same p' p hp))
        (subst (λ y. flush_one p nets y ≡ Some (rested part r)) (sym (some_same x part hq))
        (ap (λ b. cond b (resumed p nets part) (Some part)) on ∙ ap (part_after part) ran))
flush_fine (p' ∷ d) nets (x ∷ parts) (suc i) p part r hp hq on ran = ap (join (flush_one p' nets x)) (flush_fine d nets parts i p part r hp hq on ran)

flush_range : (d : List Process) (nets : Nets) (parts : List Part) (i : ℕ) (p : Process) (part : Part) → slice_get d i ≡ Some p → slice_get parts i ≡ Some part → part.ready ≡ true → p.body nets part.drivers part.variables ≡ None → flush d nets parts ≡ None
flush_range [] nets parts i p part hp hq on ran = absurd (none_some p hp)
flush_range (p' ∷ d) nets [] i p part hp hq on ran = absurd (none_some part hq)
flush_range (p' ∷ d) nets (x ∷ parts) zero p part hp hq on ran =
    ap (λ o. join o (flush d nets parts)) one
  where
    one : flush_one p' nets x ≡ None
    one =
        subst (λ q. flush_one q nets x ≡ None) (sym (some_same p' p hp))
        (subst (λ y. flush_one p nets y ≡ None) (sym (some_same x part hq))
        (ap (λ b. cond b (resumed p nets part) (Some part)) on ∙ ap (part_after part) ran))
flush_range (p' ∷ d) nets (x ∷ parts) (suc i) p part hp hq on ran = ap (join (flush_one p' nets x)) (flush_range d nets parts i p part hp hq on ran) ∙ join_none (flush_one p' nets x)

flush_idle : (d : List Process) (nets : Nets) (parts : List Part) → any_ready parts ≡ false → flush d nets parts ≡ Some parts
flush_idle [] nets parts h = refl
flush_idle (p ∷ d) nets [] h = refl
flush_idle (p ∷ d) nets (x ∷ parts) h =
    let e = or_parts x.ready (any_ready parts) h in
    ap₂ join (ap (λ b. cond b (resumed p nets x) (Some x)) e.0) (flush_idle d nets parts e.1)

-- the ordered run as a function of what its first phase leaves
abbrev next_of : Design → ℕ → VState → End
next_of d zero = λ t. Goes_on
next_of d (suc n) = norm d n

norm_is : (d : Design) (n : ℕ) (s : VState) → norm d n s ≡ settle_with (next_of d n) d s.nets (flush d.processes s.nets s.parts)
unfolding norm
norm_is d zero s = refl
norm_is d (suc n) s = refl

resume_keeps : (d : Design) (n : ℕ) (s : VState) (i : ℕ) (op : Option Process) (oq : Option Part) → slice_get d.processes i ≡ op → slice_get s.parts i ≡ oq → IsReady oq → norm_of d n (resume_at s i op oq) ≡ norm d n s
unfolding norm_of
resume_keeps d n s i None oq hp hq on = refl
resume_keeps d n s i (Some p) None hp hq on = refl
resume_keeps d n s i (Some p) (Some part) hp hq on = go (p.body s.nets part.drivers part.variables) refl
  where
    go : (o : Option Ran) → p.body s.nets part.drivers part.variables ≡ o → norm_of d n (with_part s i (part_after part o)) ≡ norm d n s
    go None ran = ap (settle_with (next_of d n) d s.nets) (sym (flush_range d.processes s.nets s.parts i p part hp hq on ran)) ∙ sym (norm_is d n s)
    go (Some r) ran =
        norm_is d n (record { nets = s.nets; parts = slice_set s.parts i (rested part r) })
        ∙ (ap (settle_with (next_of d n) d s.nets) (flush_fine d.processes s.nets s.parts i p part r hp hq on ran) ∙ sym (norm_is d n s))

update_keeps : (d : Design) (n : ℕ) (s : VState) → any_ready s.parts ≡ false → differs d s ≡ true → norm d n (update d s) ≡ norm d (suc n) s
update_keeps d n s idle more =
    sym (norm_is d (suc n) s ∙ (ap (settle_with (norm d n) d s.nets) (flush_idle d.processes s.nets s.parts idle) ∙ ap (λ b. cond b (norm d n (update d s)) (Rests s)) more))

settled_is : (d : Design) (n : ℕ) (s : VState) → IsSettled d s → norm d n s ≡ Rests s
settled_is d n s h =
    norm_is d n s ∙ (ap (settle_with (next_of d n) d s.nets) (flush_idle d.processes s.nets s.parts h.0) ∙ ap (λ b. cond b (next_of d n (update d s)) (Rests s)) h.1)

-- ---- whole orders

abbrev updates : List Turn → ℕ
updates [] = 0
updates (Resume i ∷ ts) = updates ts
updates (Update ∷ ts) = suc (updates ts)

abbrev fuel : List Turn → ℕ → ℕ
fuel [] n = n
fuel (Resume i ∷ ts) n = fuel ts n
fuel (Update ∷ ts) n = suc (fuel ts n)

fuel_is : (ts : List Turn) (n : ℕ) → fuel ts n ≡ updates ts + n
fuel_is [] n = omega arith
fuel_is (Resume i ∷ ts) n = fuel_is ts n
fuel_is (Update ∷ ts) n = let e : fuel ts n ≡ updates ts + n = fuel_is ts n in omega arith

outcome : Option VState → End
outcome None = Ranges
outcome (Some s) = Rests s

order_norm : (d : Design) (ts : List Turn) (o : Option VState) (n : ℕ) → CanTurns d o ts → IsEnd d (after_turns d o ts) → norm_of d (fuel ts n) o ≡ outcome (after_turns d o ts)
unfolding norm_of outcome
order_norm d [] None n can end = refl
order_norm d [] (Some s) n can end = settled_is d n s end
order_norm d (t ∷ ts) None n can end = absurd can
order_norm d (Resume i ∷ ts) (Some s) n can end =
    sym (resume_keeps d (fuel ts n) s i (slice_get d.processes i) (slice_get s.parts i) refl refl can.0) ∙ order_norm d ts (resume d s i) n can.1 end
order_norm d (Update ∷ ts) (Some s) n can end =
    sym (update_keeps d (fuel ts n) s can.0.0 can.0.1) ∙ order_norm d ts (Some (update d s)) n can.1 end

outcome_same : (o p : Option VState) → outcome o ≡ outcome p → o ≡ p
unfolding outcome
outcome_same None None q = refl
outcome_same None (Some s) q = absurd (apart q)
  where
    apart : Ranges ≡ Rests s → ⊥
    apart e = cc
outcome_same (Some s) None q = absurd (apart q)
  where
    apart : Rests s ≡ Ranges → ⊥
    apart e = cc
outcome_same (Some s) (Some t) q = ap Some (same q)
  where
    same : Rests s ≡ Rests t → s ≡ t
    same e = cc

pub same_end : (d : Design) (s : VState) (ts us : List Turn) → CanTurns d (Some s) ts → CanTurns d (Some s) us → IsEnd d (after_turns d (Some s) ts) → IsEnd d (after_turns d (Some s) us) → after_turns d (Some s) ts ≡ after_turns d (Some s) us
same_end d s ts us can can' end end' =
    outcome_same _ _
    (sym (order_norm d ts (Some s) (updates us) can end)
    ∙ (ap (λ n. norm_of d n (Some s)) fuels ∙ order_norm d us (Some s) (updates ts) can' end'))
  where
    fuels : fuel ts (updates us) ≡ fuel us (updates ts)
    fuels =
        let a : fuel ts (updates us) ≡ updates ts + updates us = fuel_is ts (updates us) in
        let b : fuel us (updates ts) ≡ updates us + updates ts = fuel_is us (updates ts) in
        omega arith
