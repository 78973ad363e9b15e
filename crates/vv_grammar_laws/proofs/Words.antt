-- Each place derives some tokens, so no steps are a dead end.
use Rattle.std.proofs.Common.{◌≡◌, ℕ, zero, suc, ◌+◌, ◌≤◌, Bool, true, false, not, ◌||◌, if◌then◌else◌, List, [], ◌∷◌, ◌++◌, Option, Some, None, refl, sym, ap, ◌∙◌, subst, append_assoc, arith}
use Rattle.std.proofs.lemmas.Bool.{true≢false, false≢true, eq-eqb}
use Rattle.vv_grammar.specs.declared.edition.Edition.{Edition}
use Rattle.vv_grammar.specs.declared.edition.Edition.TheVariants as edition
use Rattle.vv_grammar.specs.declared.event.Event.{Event}
use Rattle.vv_grammar.specs.declared.event.Event.TheVariants as event
use Rattle.vv_grammar.specs.declared.place.Place.{Place}
use Rattle.vv_grammar.specs.declared.place.Place.TheVariants as place
use Rattle.vv_grammar.specs.declared.step.Step.{Step}
use Rattle.vv_grammar.specs.declared.step.Step.TheVariants as step
use Rattle.vv_grammar.specs.declared.step.Take.{Take}
use Rattle.vv_grammar.specs.declared.step.Take.TheVariants as take
use Rattle.vv_grammar.specs.declared.terminal.Terminal.{Terminal}
use Rattle.vv_grammar.specs.declared.terminal.Terminal.TheVariants as the
use Rattle.vv_grammar.specs.Terminals.{same, contains}
use Rattle.vv_grammar.specs.Table.{Choice, alternatives, otherwise, level_of}
use Rattle.vv_machine.specs.Machine.{inside, steps_in}
use Rattle.vv_grammar.specs.declared.form.Form.{Form}
use Rattle.vv_machine.specs.declared.stack.Pending.{Pending}
use Rattle.vv_grammar.specs.declared.step.Level.{Level}
use Rattle.vv_grammar.specs.declared.step.Level.TheVariants as level
use Rattle.vv_grammar_laws.specs.Derivations.{IsAmong, first as here, later, left, noted, Derives, done, make, skip, keep, call, pass, stop}
use Rattle.vv_grammar_laws.specs.Depths.{Opening, opening, behind_choice, next_at, openings}
use Rattle.vv_grammar_laws.proofs.Calm.{is_behind, is_calm, Calm}
use Rattle.vv_grammar_laws.proofs.Bridge.{bare}
use denote.Enum.Declared.{tag_of}
use Rattle.vv_vlex.specs.contracts.word.Word as w
use Rattle.vv_vlex.specs.contracts.sign.Sign as s

pub same-self : (t : Terminal) → same t t ≡ true
same-self the.Id = refl
same-self the.Int = refl
same-self the.Char = refl
same-self the.Str = refl
same-self the.BitStr = refl
same-self the.End = refl
same-self (the.Key a) = eq-eqb (tag_of w.the_type a) (tag_of w.the_type a) refl
same-self (the.Mark a) = eq-eqb (tag_of s.the_type a) (tag_of s.the_type a) refl

-- the alternative by which a place ends soonest, if not by what it admits else
abbrev pub pick : Place → Option ℕ
pick place.Expression = Some 0
pick place.Factor = Some 0
pick place.Power = Some 0
pick place.Primary = Some 1
pick place.BehindTick = Some 0
pick place.Argument = Some 0
pick place.ArgumentBehindIdent = Some 0
pick place.BehindFirst = Some 0
pick place.AggregateElements = Some 0
pick place.BehindFirstElement = Some 2
pick place.BehindChoices = Some 1
pick place.Choice = Some 0
pick place.DiscreteRange = Some 0
pick place.DiscreteRangeBehindMark = Some 0
pick place.MarkPart = Some 0
pick place.TypeMark = Some 0
pick place.Name = Some 0
pick place.Declaration = Some 8
pick place.PackageDeclaration = Some 7
pick place.BodyDeclaration = Some 3
pick place.ProcessDeclaration = Some 4
pick place.FunctionEnd = Some 0
pick place.Designator = Some 0
pick place.ConstantInterface = Some 1
pick place.PortInterface = Some 1
pick place.TypeDefinition = Some 0
pick place.EnumerationLiteral = Some 0
pick place.ArrayIndex = Some 0
pick place.ArrayIndexBehindMark = Some 0
pick place.ArrayIndexBehindRange = Some 0
pick place.BehindAttribute = Some 0
pick place.EntityDesignator = Some 0
pick place.EntityClass = Some 0
pick place.SelectedName = Some 0
pick place.Suffix = Some 0
pick place.Concurrent = Some 1
pick place.ConcurrentBehindIdent = Some 0
pick place.LabelledConcurrent = Some 0
pick place.ConcurrentBehindMark = Some 1
pick place.Association = Some 1
pick place.AssociationBehindIdent = Some 0
pick place.ActualPart = Some 0
pick place.SensitivityNames = Some 0
pick place.ConditionalRest = Some 0
pick place.GenerateRest = Some 0
pick place.Statement = Some 9
pick place.StatementBehindIdent = Some 0
pick place.LabelledStatement = Some 9
pick place.LoopRest = Some 0
pick place.AssignmentRest = Some 0
pick place.Unit = Some 2
pick place.UnitBehindContext = Some 2
pick place.BehindPackage = Some 0
pick _ = None

abbrev pub glued : Option (List Terminal) → Option (List Terminal) → Option (List Terminal)
glued None o = None
glued (Some x) None = None
glued (Some x) (Some y) = Some (x ++ y)

-- a word of steps, by words of places
abbrev pub made : (Place → Option (List Terminal)) → List Step → Option (List Terminal)
made f [] = Some []
made f (step.Make x ∷ R) = made f R
made f (step.Skip t ∷ R) = glued (Some (t ∷ [])) (made f R)
made f (step.Keep t ∷ R) = glued (Some (t ∷ [])) (made f R)
made f (step.Call p ∷ R) = glued (f p) (made f R)
made f (step.Many p ∷ R) = made f R

-- a word of an alternative, by a word of its steps
abbrev pub taken : Take → List Terminal → List Terminal → Option (List Terminal)
taken take.Keep [] y = None
taken take.Keep (t ∷ on) y = Some (t ∷ y)
taken take.Skip [] y = None
taken take.Skip (t ∷ on) y = Some (t ∷ y)
taken take.Look on [] = None
taken take.Look on (t ∷ y) = if contains on t then Some (t ∷ y) else None

abbrev pub taken_by : Choice → Option (List Terminal) → Option (List Terminal)
taken_by c None = None
taken_by c (Some y) = taken c.take c.on y

abbrev pub alternative : List Choice → ℕ → (Place → Option (List Terminal)) → Option (List Terminal)
alternative [] i f = None
alternative (c ∷ cs) zero f = taken_by c (made f c.steps)
alternative (c ∷ cs) (suc i) f = alternative cs i f

abbrev pub else_word : Option (List Step) → (Place → Option (List Terminal)) → Option (List Terminal)
else_word None f = None
else_word (Some ss) f = made f ss

abbrev pub picked : Edition → Place → Option ℕ → (Place → Option (List Terminal)) → Option (List Terminal)
picked e p (Some i) f = alternative (alternatives e p) i f
picked e p None f = else_word (otherwise p) f

-- no word of a place that tells late where something began
abbrev pub calm_word : Bool → Option (List Terminal) → Option (List Terminal)
calm_word true y = None
calm_word false y = y

abbrev pub word_of : Edition → ℕ → Place → Option (List Terminal)
word_of e zero p = None
word_of e (suc n) p = calm_word (is_behind (level_of p)) (picked e p (pick p) (word_of e n))

abbrev pub is_found : Option (List Terminal) → Bool
is_found None = false
is_found (Some y) = true

pub found : (e : Edition) (p : Place) → (is_behind (level_of p) || is_found (word_of e 10 p)) ≡ true
found edition.Vhdl93 place.SensitivityNames = refl
found edition.Vhdl08 place.SensitivityNames = refl
found e place.Expression = refl
found e _ = refl

-- nothing among these starts before this token
abbrev pub From : ℕ → List Opening → Type 0
From at [] = Unit {0}
From at (o ∷ os) = (at ≤ o.at) × From at os

-- whatever is round the steps, nothing starts before what is derived
abbrev pub StartsIn : (e : Edition) (K : List Step) (u : List Terminal) (es : List Event) → Derives e K u es → Type 0
StartsIn e K u es d = (F : List Pending) (at : ℕ) → From at (openings e K u es d F at)

pub record Derived (e : Edition) (K : List Step) (u : List Terminal) : Type 0 where
  pub events : List Event
  pub derives : Derives e K u events
  pub starts : StartsIn e K u events derives

from-append : (at : ℕ) (xs ys : List Opening) → From at xs → From at ys → From at (xs ++ ys)
from-append at [] ys a b = b
from-append at (x ∷ xs) ys a b = (a.0, from-append at xs ys a.1 b)

from-later : (at n : ℕ) (xs : List Opening) → at ≤ n → From n xs → From at xs
from-later at n [] h f = tt
from-later at n (x ∷ xs) h f = (let g : n ≤ x.at = f.0 in omega (arith, h, g), from-later at n xs h f.1)

from-opening : (l : Level) (o : Pending) (at : ℕ) → is_behind l ≡ false → From at (opening l o at)
from-opening level.Same o at h = tt
from-opening level.Expression o at h = (omega arith, tt)
from-opening level.ExpressionBehind o at h = absurd (true≢false h)
from-opening level.Statement o at h = (omega arith, tt)
from-opening level.StatementBehind o at h = absurd (true≢false h)

by-next : (k : Take) (at : ℕ) → at ≤ next_at k at
by-next take.Keep at = omega arith
by-next take.Skip at = omega arith
by-next take.Look at = omega arith

nothing : (e : Edition) → Derived e [] []
nothing e = record { events = []; derives = done; starts = λ F at. tt }

then-make : (e : Edition) (f : Form) (K : List Step) (u : List Terminal) → Derived e K u → Derived e (step.Make f ∷ K) u
then-make e f K u i = record { events = event.Make f ∷ i.events; derives = make f K u i.events i.derives; starts = starts }
  where
    starts : StartsIn e (step.Make f ∷ K) u (event.Make f ∷ i.events) (make f K u i.events i.derives)
    starts [] at = tt
    starts (o ∷ F) at = i.starts F at

then-skip : (e : Edition) (t : Terminal) (K : List Step) (u : List Terminal) → Derived e K u → Derived e (step.Skip t ∷ K) (t ∷ u)
then-skip e t K u i = record { events = event.Skip ∷ i.events; derives = skip t t K u i.events (same-self t) i.derives; starts = starts }
  where
    starts : StartsIn e (step.Skip t ∷ K) (t ∷ u) (event.Skip ∷ i.events) (skip t t K u i.events (same-self t) i.derives)
    starts [] at = tt
    starts (o ∷ F) at = from-later at (at + 1) (openings e K u i.events i.derives F (at + 1)) (omega arith) (i.starts F (at + 1))

then-keep : (e : Edition) (t : Terminal) (K : List Step) (u : List Terminal) → Derived e K u → Derived e (step.Keep t ∷ K) (t ∷ u)
then-keep e t K u i = record { events = event.Keep ∷ i.events; derives = keep t t K u i.events (same-self t) i.derives; starts = starts }
  where
    starts : StartsIn e (step.Keep t ∷ K) (t ∷ u) (event.Keep ∷ i.events) (keep t t K u i.events (same-self t) i.derives)
    starts [] at = tt
    starts (o ∷ F) at = from-later at (at + 1) (openings e K u i.events i.derives F (at + 1)) (omega arith) (i.starts F (at + 1))

then-stop : (e : Edition) (p : Place) (K : List Step) (u : List Terminal) → Derived e K u → Derived e (step.Many p ∷ K) u
then-stop e p K u i = record { events = i.events; derives = stop p K u i.events i.derives; starts = starts }
  where
    starts : StartsIn e (step.Many p ∷ K) u i.events (stop p K u i.events i.derives)
    starts [] at = tt
    starts (o ∷ F) at = i.starts F at

then-pass : (e : Edition) (p : Place) (ss K : List Step) (u : List Terminal) → otherwise p ≡ Some ss → Derived e (ss ++ K) u → Derived e (step.Call p ∷ K) u
then-pass e p ss K u x i = record { events = i.events; derives = pass p ss K u i.events x i.derives; starts = starts }
  where
    starts : StartsIn e (step.Call p ∷ K) u i.events (pass p ss K u i.events x i.derives)
    starts [] at = tt
    starts (o ∷ F) at = i.starts (steps_in ss o ++ F) at

then-call : (e : Edition) (p : Place) (c : Choice) (t : Terminal) (K : List Step) (u : List Terminal) → is_behind (level_of p) ≡ false → IsAmong c (alternatives e p) → contains c.on t ≡ true
    → Derived e (c.steps ++ K) (left c.take t u) → Derived e (step.Call p ∷ K) (t ∷ u)
then-call e p c t K u l a h i = record { events = noted c.take ++ i.events; derives = call p c t K u i.events a h i.derives; starts = starts }
  where
    starts : StartsIn e (step.Call p ∷ K) (t ∷ u) (noted c.take ++ i.events) (call p c t K u i.events a h i.derives)
    starts [] at = tt
    starts (o ∷ F) at =
        let G = steps_in c.steps (behind_choice c.take (inside (level_of p) o) at) ++ F in
        let os = openings e (c.steps ++ K) (left c.take t u) i.events i.derives G (next_at c.take at) in
        from-append at (opening (level_of p) o at) os (from-opening (level_of p) o at l) (from-later at (next_at c.take at) os (by-next c.take at) (i.starts G (next_at c.take at)))

-- the word is derived before all that is derived
abbrev pub IsWord : Edition → List Step → List Terminal → Type 0
IsWord e R y = (K : List Step) (v : List Terminal) → Derived e K v → Derived e (R ++ K) (y ++ v)

abbrev pub OnWord : (List Terminal → Type 0) → Option (List Terminal) → Type 0
OnWord P None = Unit {0}
OnWord P (Some y) = P y

glued-word : (P Q R : List Terminal → Type 0) (a b : Option (List Terminal)) → ((x y : List Terminal) → P x → Q y → R (x ++ y)) → OnWord P a → OnWord Q b → OnWord R (glued a b)
glued-word P Q R None b j h k = tt
glued-word P Q R (Some x) None j h k = tt
glued-word P Q R (Some x) (Some y) j h k = j x y h k

on-word : (P Q : List Terminal → Type 0) (a : Option (List Terminal)) → ((x : List Terminal) → P x → Q x) → OnWord P a → OnWord Q a
on-word P Q None j h = tt
on-word P Q (Some x) j h = j x h

joined-word : (e : Edition) (p : Place) (R : List Step) (x y : List Terminal) → IsWord e (step.Call p ∷ []) x → IsWord e R y → IsWord e (step.Call p ∷ R) (x ++ y)
joined-word e p R x y a b K v i = subst (λ (z : List Terminal). Derived e (step.Call p ∷ (R ++ K)) z) (sym (append_assoc x y v)) (a (R ++ K) (y ++ v) (b K v i))

made-word : (e : Edition) (f : Place → Option (List Terminal)) → ((p : Place) → OnWord (IsWord e (step.Call p ∷ [])) (f p)) → (R : List Step) → OnWord (IsWord e R) (made f R)
made-word e f h [] = λ K v i. i
made-word e f h (step.Make x ∷ R) =
    on-word (IsWord e R) (IsWord e (step.Make x ∷ R)) (made f R) (λ y g K v i. then-make e x (R ++ K) (y ++ v) (g K v i)) (made-word e f h R)
made-word e f h (step.Skip t ∷ R) =
    glued-word (λ x. x ≡ t ∷ []) (IsWord e R) (IsWord e (step.Skip t ∷ R)) (Some (t ∷ [])) (made f R)
    (λ x y g j K v i. subst (λ (z : List Terminal). Derived e (step.Skip t ∷ (R ++ K)) ((z ++ y) ++ v)) (sym g) (then-skip e t (R ++ K) (y ++ v) (j K v i)))
    refl (made-word e f h R)
made-word e f h (step.Keep t ∷ R) =
    glued-word (λ x. x ≡ t ∷ []) (IsWord e R) (IsWord e (step.Keep t ∷ R)) (Some (t ∷ [])) (made f R)
    (λ x y g j K v i. subst (λ (z : List Terminal). Derived e (step.Keep t ∷ (R ++ K)) ((z ++ y) ++ v)) (sym g) (then-keep e t (R ++ K) (y ++ v) (j K v i)))
    refl (made-word e f h R)
made-word e f h (step.Call p ∷ R) =
    glued-word (IsWord e (step.Call p ∷ [])) (IsWord e R) (IsWord e (step.Call p ∷ R)) (f p) (made f R) (joined-word e p R) (h p) (made-word e f h R)
made-word e f h (step.Many p ∷ R) =
    on-word (IsWord e R) (IsWord e (step.Many p ∷ R)) (made f R) (λ y g K v i. then-stop e p (R ++ K) (y ++ v) (g K v i)) (made-word e f h R)

or-first : (x y : Bool) → x ≡ true → (x || y) ≡ true
or-first true y h = refl
or-first false y h = absurd (false≢true h)

-- a word of the steps of an alternative, with its token before it or first in it
chosen-word : (e : Edition) (p : Place) → is_behind (level_of p) ≡ false → (c : Choice) (t : Terminal) (y u v : List Terminal) → IsAmong c (alternatives e p) → contains c.on t ≡ true
    → IsWord e c.steps y → left c.take t (u ++ v) ≡ y ++ v → (K : List Step) → Derived e K v → Derived e (step.Call p ∷ K) (t ∷ (u ++ v))
chosen-word e p l c t y u v a h g r K i =
    then-call e p c t K (u ++ v) l a h (subst (λ (z : List Terminal). Derived e (c.steps ++ K) z) (sym r) (g K v i))

taken-word : (e : Edition) (p : Place) → is_behind (level_of p) ≡ false → (c : Choice) (y : List Terminal) → IsAmong c (alternatives e p) → IsWord e c.steps y
    → (k : Take) (on : List Terminal) → c.take ≡ k → c.on ≡ on → OnWord (IsWord e (step.Call p ∷ [])) (taken k on y)
taken-word e p l c y a g take.Keep [] i j = tt
taken-word e p l c y a g take.Keep (t ∷ on) i j = λ K v d.
    chosen-word e p l c t y y v a (ap (λ (x : List Terminal). contains x t) j ∙ or-first (same t t) (contains on t) (same-self t))
    g (ap (λ (x : Take). left x t (y ++ v)) i) K d
taken-word e p l c y a g take.Skip [] i j = tt
taken-word e p l c y a g take.Skip (t ∷ on) i j = λ K v d.
    chosen-word e p l c t y y v a (ap (λ (x : List Terminal). contains x t) j ∙ or-first (same t t) (contains on t) (same-self t))
    g (ap (λ (x : Take). left x t (y ++ v)) i) K d
taken-word e p l c [] a g take.Look on i j = tt
taken-word e p l c (t ∷ y) a g take.Look on i j = go (contains on t) refl
  where
    go : (b : Bool) → contains on t ≡ b → OnWord (IsWord e (step.Call p ∷ [])) (if b then Some (t ∷ y) else None)
    go false h = tt
    go true h = λ K v d.
        chosen-word e p l c t (t ∷ y) y v a (ap (λ (x : List Terminal). contains x t) j ∙ h) g (ap (λ (x : Take). left x t (y ++ v)) i) K d

taken-by-word : (e : Edition) (p : Place) → is_behind (level_of p) ≡ false → (c : Choice) (o : Option (List Terminal)) → IsAmong c (alternatives e p) → OnWord (IsWord e c.steps) o
    → OnWord (IsWord e (step.Call p ∷ [])) (taken_by c o)
taken-by-word e p l c None a h = tt
taken-by-word e p l c (Some y) a h = taken-word e p l c y a h c.take c.on refl refl

alternative-word : (e : Edition) (p : Place) → is_behind (level_of p) ≡ false → (f : Place → Option (List Terminal)) → ((q : Place) → OnWord (IsWord e (step.Call q ∷ [])) (f q))
    → (cs : List Choice) → ((c : Choice) → IsAmong c cs → IsAmong c (alternatives e p)) → (i : ℕ) → OnWord (IsWord e (step.Call p ∷ [])) (alternative cs i f)
alternative-word e p l f h [] a i = tt
alternative-word e p l f h (c ∷ cs) a zero = taken-by-word e p l c (made f c.steps) (a c (here c cs)) (made-word e f h c.steps)
alternative-word e p l f h (c ∷ cs) a (suc i) = alternative-word e p l f h cs (λ d b. a d (later d c cs b)) i

else-found : (e : Edition) (p : Place) (f : Place → Option (List Terminal)) → ((q : Place) → OnWord (IsWord e (step.Call q ∷ [])) (f q))
    → (o : Option (List Step)) → otherwise p ≡ o → OnWord (IsWord e (step.Call p ∷ [])) (else_word o f)
else-found e p f h None j = tt
else-found e p f h (Some ss) j =
    on-word (IsWord e ss) (IsWord e (step.Call p ∷ [])) (made f ss) (λ y g K v i. then-pass e p ss K (y ++ v) j (g K v i)) (made-word e f h ss)

picked-word : (e : Edition) (p : Place) → is_behind (level_of p) ≡ false → (f : Place → Option (List Terminal)) → ((q : Place) → OnWord (IsWord e (step.Call q ∷ [])) (f q))
    → (i : Option ℕ) → OnWord (IsWord e (step.Call p ∷ [])) (picked e p i f)
picked-word e p l f h (Some i) = alternative-word e p l f h (alternatives e p) (λ c a. a) i
picked-word e p l f h None = else-found e p f h (otherwise p) refl

calm-picked : (e : Edition) (p : Place) (f : Place → Option (List Terminal)) → ((q : Place) → OnWord (IsWord e (step.Call q ∷ [])) (f q))
    → (b : Bool) → is_behind (level_of p) ≡ b → OnWord (IsWord e (step.Call p ∷ [])) (calm_word b (picked e p (pick p) f))
calm-picked e p f h true l = tt
calm-picked e p f h false l = picked-word e p l f h (pick p)

pub word-of : (e : Edition) (n : ℕ) (p : Place) → OnWord (IsWord e (step.Call p ∷ [])) (word_of e n p)
word-of e zero p = tt
word-of e (suc n) p = calm-picked e p (word_of e n) (word-of e n) (is_behind (level_of p)) refl

some-word : (e : Edition) (p : Place) (b : Bool) (o : Option (List Terminal)) → (b || is_found o) ≡ true → not b ≡ true → OnWord (IsWord e (step.Call p ∷ [])) o
    → (y : List Terminal) × IsWord e (step.Call p ∷ []) y
some-word e p true o h l g = absurd (false≢true l)
some-word e p false None h l g = absurd (false≢true h)
some-word e p false (Some y) h l g = (y, g)

place-word : (e : Edition) (p : Place) → not (is_behind (level_of p)) ≡ true → (y : List Terminal) × IsWord e (step.Call p ∷ []) y
place-word e p l = some-word e p (is_behind (level_of p)) (word_of e 10 p) (found e p) l (word-of e 10 p)

step-word : (e : Edition) (s : Step) → is_calm s ≡ true → (y : List Terminal) × IsWord e (s ∷ []) y
step-word e (step.Make f) l = ([], λ K v i. then-make e f K v i)
step-word e (step.Skip t) l = (t ∷ [], λ K v i. then-skip e t K v i)
step-word e (step.Keep t) l = (t ∷ [], λ K v i. then-keep e t K v i)
step-word e (step.Many p) l = ([], λ K v i. then-stop e p K v i)
step-word e (step.Call p) l = place-word e p l

-- Calm steps derive something, in which nothing starts before its first token.
pub productive : (e : Edition) (K : List Pending) → Calm K → (u : List Terminal) × Derived e (bare K) u
productive e [] c = ([], nothing e)
productive e (o ∷ K) c =
    let r = productive e K c.1 in
    let y = step-word e o.step c.0 in
    (y.0 ++ r.0, y.1 (bare K) r.0 r.1)
