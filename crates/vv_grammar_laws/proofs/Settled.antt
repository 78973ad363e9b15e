-- A move by the step that it settles.
use Rattle.std.proofs.Common.{◌≡◌, ◌⊎◌, inl, inr, ℕ, nat_eq, Bool, true, false, List, Option, Some, None, refl, subst}
use Rattle.std.proofs.lemmas.Bool.{eqb-true}
use Rattle.vv_grammar.specs.declared.event.Event.{Event}
use Rattle.vv_machine.specs.declared.stack.Pending.{Pending}
use Rattle.vv_machine.specs.Machine.{Advance, advances, fails, ends, Move, goes, stuck, deep, over, settled, settled_if}

abbrev pub IsGoing : Move → Type 0
IsGoing (goes es K c m) = Unit {0}
IsGoing stuck = ⊥
IsGoing (deep n) = ⊥
IsGoing over = ⊥

abbrev IsDeepMove : Move → Type 0
IsDeepMove (goes es K c m) = ⊥
IsDeepMove stuck = ⊥
IsDeepMove (deep n) = Unit {0}
IsDeepMove over = ⊥

abbrev IsStuckMove : Move → Type 0
IsStuckMove (goes es K c m) = ⊥
IsStuckMove stuck = Unit {0}
IsStuckMove (deep n) = ⊥
IsStuckMove over = ⊥

abbrev IsOverMove : Move → Type 0
IsOverMove (goes es K c m) = ⊥
IsOverMove stuck = ⊥
IsOverMove (deep n) = ⊥
IsOverMove over = Unit {0}

-- a mark stays only where no token was taken
abbrev pub StaysAt : ℕ → ℕ → Option ℕ → Type 0
StaysAt at c None = Unit {0}
StaysAt at c (Some n) = c ≡ at

-- what a move says of the step that it settles
abbrev pub Settles : ℕ → Option ℕ → Advance → Move → Type 0
Settles at mark x (goes es K c m) = (x ≡ advances es K c m) × StaysAt at c m
Settles at mark x stuck = x ≡ fails
Settles at mark x (deep n) = ((x ≡ ends) × (mark ≡ Some n)) ⊎ ((es : List Event) × (K : List Pending) × (c : ℕ) × (x ≡ advances es K c (Some n)) × (nat_eq c at ≡ false))
Settles at mark x over = (x ≡ ends) × (mark ≡ None)

pub settles : (at : ℕ) (mark : Option ℕ) (x : Advance) → Settles at mark x (settled at mark x)
settles at mark (advances es K c None) = (refl, tt)
settles at mark (advances es K c (Some n)) = go (nat_eq c at) refl
  where
    go : (b : Bool) → nat_eq c at ≡ b → Settles at mark (advances es K c (Some n)) (settled_if b es K c n)
    go true h = (refl, eqb-true c at h)
    go false h = inr (es, K, c, refl, h)
settles at mark fails = refl
settles at None ends = (refl, refl)
settles at (Some n) ends = inl (refl, refl)

pub told : (at : ℕ) (mark : Option ℕ) (x : Advance) (m : Move) → settled at mark x ≡ m → Settles at mark x m
told at mark x m h = subst (Settles at mark x) h (settles at mark x)
