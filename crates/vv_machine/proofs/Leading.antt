-- What has been gone through goes on by a move that was made.
use Rattle.std.proofs.Common.{◌≡◌, ◌∙◌, [], ℕ, suc, ◌<◌, Bool, true, Option, Some, None, nat_eq, refl, sym, subst, arith, List, ◌++◌}
use Rattle.vv_grammar.specs.declared.terminal.Terminal.{Terminal}
use Rattle.vv_grammar.specs.declared.edition.Edition.{Edition}
use Rattle.vv_machine.specs.declared.machine.State.{State}
use Rattle.vv_machine.specs.declared.machine.Stop.{Stop}
use Rattle.vv_machine.specs.declared.machine.Stop.TheVariants as stop
use Rattle.vv_machine.specs.declared.stack.Pending.{Pending}
use Rattle.vv_grammar.specs.declared.event.Event.{Event}
use Rattle.vv_machine.proofs.Weights.{measure, Falls, falls, driven_on}
use Rattle.vv_machine.specs.Machine.{Outcome, reads, misplaced, too_deep, drive, IsOutcome, Advance, advances, fails, ends, settled, settled_if, IsUnsettled, IsSettled, IsFailure, Advanced, Move, goes, stuck, deep, over, Leads, further, Moved, move, IsStop, Stops}

-- a step with which nothing is settled to be too deep is a move
pub unsettled : (old new : State) (before : ℕ) (mark : Option ℕ) (x : Advance) → Advanced old new x → IsUnsettled new.mark before new.at → Moved old new (settled before mark x)
unsettled old new before mark (advances es K c None) h u = h
unsettled old new before mark (advances es K c (Some n)) h u =
    let k : nat_eq c before ≡ true = rw (h.1, h.2) at u in
    subst (λ (b : Bool). Moved old new (settled_if b es K c n)) (sym k) h
unsettled old new before mark fails h u = absurd h
unsettled old new before mark ends h u = absurd h

pub settles : (old new : State) (before : ℕ) (mark : Option ℕ) (s : Stop) (x : Advance) → Advanced old new x → IsSettled s new.mark before new.at → IsStop s before (settled before mark x)
settles old new before mark s (advances es K c None) h u = let none : IsSettled s None before c = rw (h.1, h.2) at u in absurd none
settles old new before mark s (advances es K c (Some n)) h u =
    let some : IsSettled s (Some n) before c = rw (h.1, h.2) at u in
    subst (λ (b : Bool). IsStop s before (settled_if b es K c n)) (sym some.1) (let is : IsStop (stop.Deep n) before (deep n) = refl in rw some.0 is)
settles old new before mark s fails h u = absurd h
settles old new before mark s ends h u = absurd h

pub failed : (before : ℕ) (mark : Option ℕ) (s : Stop) (x : Advance) → IsFailure s before x → IsStop s before (settled before mark x)
failed before mark stop.Memory x h = tt
failed before mark (stop.Misplaced n) x h = rw h.0 (refl, h.1)
failed before mark (stop.Deep n) x h = absurd h

pub moved : (e : Edition) (ts : List Terminal) (K L : List Pending) (a : ℕ) (old new : State) (m : Move)
    → Leads e ts K a old.events.items L old.at old.mark → move e ts L old.at old.mark ≡ m → Moved old new m
    → Leads e ts K a new.events.items new.stack new.at new.mark
moved e ts K L a old new (goes es M c n) l is h =
    let far : Leads e ts K a (old.events.items ++ es) M c n = further e ts K L M a old.at c old.mark n old.events.items es l is in
    rw (h.0, h.1, h.2, h.3) far
moved e ts K L a old new stuck l is h = absurd h
moved e ts K L a old new (deep n) l is h = absurd h
moved e ts K L a old new over l is h = absurd h

pub stopped : (e : Edition) (ts : List Terminal) (K L : List Pending) (a : ℕ) (old : State) (s : Stop)
    → Leads e ts K a old.events.items L old.at old.mark → IsStop s old.at (move e ts L old.at old.mark) → Stops e ts K a s
stopped e ts K L a old stop.Memory l h = tt
stopped e ts K L a old (stop.Misplaced n) l h = record { events = old.events.items; rest = L; next = old.at; mark = old.mark; leads = l; stops = h }
stopped e ts K L a old (stop.Deep n) l h = record { events = old.events.items; rest = L; next = old.at; mark = old.mark; leads = l; stops = h }

-- a move, as the outcome sees it
pub drives : (m : ℕ) (e : Edition) (ts : List Terminal) (L : List Pending) (old new : State) (v : Move) (o : Outcome)
    → drive (suc m) e ts L old.at old.mark old.events.items ≡ o → move e ts L old.at old.mark ≡ v → Moved old new v
    → drive m e ts new.stack new.at new.mark new.events.items ≡ o
unfolding drive
drives m e ts L old new (goes es M c n) o d is h =
    let far : drive m e ts M c n (old.events.items ++ es) ≡ o = rw is at d in
    rw (h.0, h.1, h.2, h.3) far
drives m e ts L old new stuck o d is h = absurd h
drives m e ts L old new (deep n) o d is h = absurd h
drives m e ts L old new over o d is h = absurd h

pub halted : (m : ℕ) (e : Edition) (ts : List Terminal) (L : List Pending) (at : ℕ) (mark : Option ℕ) (es : List Event) (s : Stop) (v : Move) (o : Outcome)
    → drive (suc m) e ts L at mark es ≡ o → move e ts L at mark ≡ v → IsStop s at v → IsOutcome s o
unfolding drive
halted m e ts L at mark es stop.Memory v o d is h = tt
halted m e ts L at mark es (stop.Misplaced n) v o d is h =
    let far : misplaced at ≡ o = rw (is, h.0) at d in rw h.1 (sym far)
halted m e ts L at mark es (stop.Deep n) v o d is h =
    let far : too_deep n ≡ o = rw (is, h) at d in sym far

pub over_reads : (m : ℕ) (e : Edition) (ts : List Terminal) (L : List Pending) (at : ℕ) (mark : Option ℕ) (es : List Event) (o : Outcome)
    → drive (suc m) e ts L at mark es ≡ o → L ≡ [] → mark ≡ None → o ≡ reads es at
unfolding drive
over_reads m e ts L at mark es o d is n = let far : reads es at ≡ o = rw (is, n) at d in sym far

pub over_deep : (m : ℕ) (e : Edition) (ts : List Terminal) (L : List Pending) (at n : ℕ) (mark : Option ℕ) (es : List Event) (o : Outcome)
    → drive (suc m) e ts L at mark es ≡ o → L ≡ [] → mark ≡ Some n → o ≡ too_deep n
unfolding drive
over_deep m e ts L at n mark es o d is h = let far : too_deep n ≡ o = rw (is, h) at d in sym far

-- a move that was made led to a state that weighs less
pub fell : (e : Edition) (ts : List Terminal) (L : List Pending) (old new : State) (v : Move)
    → Falls e ts (measure e ts L old.at) v → Moved old new v → measure e ts new.stack new.at < measure e ts L old.at
fell e ts L old new (goes es M c n) f h = rw (h.0, h.1) f
fell e ts L old new stuck f h = absurd h
fell e ts L old new (deep n) f h = absurd h
fell e ts L old new over f h = absurd h

pub drives_on : (e : Edition) (ts : List Terminal) (L : List Pending) (old new : State) (o : Outcome)
    → drive (suc (measure e ts L old.at)) e ts L old.at old.mark old.events.items ≡ o → Moved old new (move e ts L old.at old.mark)
    → drive (suc (measure e ts new.stack new.at)) e ts new.stack new.at new.mark new.events.items ≡ o
drives_on e ts L old new o d h =
    let f : measure e ts new.stack new.at < measure e ts L old.at = fell e ts L old new (move e ts L old.at old.mark) (falls e ts L old.at old.mark) h in
    driven_on (suc (measure e ts new.stack new.at)) (measure e ts L old.at) e ts new.stack new.at new.mark new.events.items (omega arith) f
    ∙ drives (measure e ts L old.at) e ts L old new (move e ts L old.at old.mark) o d refl h
