-- Where all is read nothing is marked.
use Rattle.std.proofs.Common.{◌≡◌, ℕ, ◌+◌, ◌≤◌, Bool, true, false, if◌then◌else◌, List, [], ◌∷◌, ◌++◌, drop, Option, Some, None, refl, sym, ◌∙◌, subst, arith}
use Rattle.std.proofs.lemmas.Bool.{true≢false}
use Rattle.vv_grammar.specs.declared.edition.Edition.{Edition}
use Rattle.vv_grammar.specs.declared.event.Event.{Event}
use Rattle.vv_grammar.specs.declared.event.Event.TheVariants as event
use Rattle.vv_grammar.specs.declared.form.Form.TheVariants as form
use Rattle.vv_grammar.specs.declared.place.Place.{Place}
use Rattle.vv_machine.specs.declared.stack.Pending.{Pending}
use Rattle.vv_grammar.specs.declared.step.Step.{Step}
use Rattle.vv_grammar.specs.declared.step.Step.TheVariants as step
use Rattle.vv_grammar.specs.declared.step.Take.{Take}
use Rattle.vv_grammar.specs.declared.step.Take.TheVariants as take
use Rattle.vv_grammar.specs.declared.terminal.Terminal.{Terminal}
use Rattle.vv_grammar.specs.Terminals.{same}
use Rattle.vv_grammar.specs.Table.{alternatives, otherwise, level_of}
use Rattle.vv_machine.specs.Machine as machine
use Rattle.vv_machine.specs.Machine.{Turn, turn, takes, as_part, choose, chosen, next_terminal, inside, marked, as_step, steps_in, Leads, here, further}
use Rattle.vv_grammar_laws.specs.Derivations.{Derives, done}
use Rattle.vv_grammar_laws.proofs.Plain as plain
use Rattle.vv_grammar_laws.proofs.Plain.{Act, act, act_of}
use Rattle.vv_grammar_laws.proofs.Acts.{as_acts, Chosen, chosen-turn}
use Rattle.vv_grammar_laws.proofs.Seals.{Closed, look-closed, back-end}
use Rattle.vv_grammar_laws.proofs.Settled.{told}
use Rattle.vv_grammar_laws.proofs.Bridge.{bare, bare-steps, past, Agrees, agrees, way}
use Rattle.vv_grammar_laws.proofs.Ways.{further-by}
use Rattle.vv_grammar_laws.proofs.Calm.{Arrival, at_start, by_token}
use Rattle.vv_grammar_laws.proofs.Free.{closed-path}

abbrev pub IsOn : Act → Type 0
IsOn (plain.goes es L b) = Unit {0}
IsOn plain.stuck = Unit {0}
IsOn plain.over = ⊥

called-on : (r : Option Turn) (o : Option (List Step)) (K : List Step) → IsOn (plain.called r o K)
called-on (Some r) o K = tt
called-on None (Some ss) K = tt
called-on None None K = tt

token-on : (f : Event) (w : Terminal) (t : Option Terminal) (K : List Step) → IsOn (plain.token f w t K)
token-on f w None K = tt
token-on f w (Some t) K = go (same w t)
  where
    go : (b : Bool) → IsOn (if b then plain.goes (f ∷ []) K true else plain.stuck)
    go true = tt
    go false = tt

many-on : (e : Edition) (s : Step) (t : Option Terminal) (K : List Step) → IsOn (act_of e s t K)
many-on e (step.Call p) t K = called-on (chosen e p t) (otherwise p) K
many-on e (step.Many p) t K = go (machine.as_part (chosen e p t))
  where
    go : (r : Option Turn) → IsOn (plain.repeated r p K)
    go None = tt
    go (Some r) = tt
many-on e (step.Skip w) t K = token-on event.Skip w t K
many-on e (step.Keep w) t K = token-on event.Keep w t K
many-on e (step.Make f) t K = tt

over-nothing : (e : Edition) (ts : List Terminal) (K : List Pending) (at : ℕ) → act e (bare K) (next_terminal ts at) ≡ plain.over → K ≡ []
over-nothing e ts [] at h = refl
over-nothing e ts (o ∷ K) at h = absurd (subst IsOn h (many-on e o.step (next_terminal ts at) (bare K)))

-- a step ends only where nothing is to come
pub nothing-comes : (e : Edition) (ts : List Terminal) (K : List Pending) (at : ℕ) (mark : Option ℕ) → machine.advance e ts K at mark ≡ machine.ends → K ≡ []
nothing-comes e ts K at mark h =
    over-nothing e ts K at (subst (λ (x : machine.Advance). Agrees x (act e (bare K) (next_terminal ts at)) at) h (agrees e ts K at mark))

-- With no token taken, and none to come, a step leaves the mark.
abbrev pub Stays : Edition → List Pending → ℕ → Option ℕ → machine.Advance → Type 0
Stays e L at m (machine.advances fs M c k) = c ≡ at → Closed (bare L) → (gs : List Event) → Derives e (bare M) [] gs → k ≡ m
Stays e L at m machine.fails = Unit {0}
Stays e L at m machine.ends = Unit {0}

taking-stays : (e : Edition) (L : List Pending) (k : Take) (ss : List Step) (o : Pending) (base : List Pending) (at : ℕ) (m n : Option ℕ)
    → (takes k ≡ false → Closed (bare L) → (gs : List Event) → Derives e (ss ++ bare base) [] gs → ⊥) → Stays e L at m (machine.taking k at ss o base n)
taking-stays e L take.Keep ss o base at m n h = λ i c gs d. absurd (omega (arith, i))
taking-stays e L take.Skip ss o base at m n h = λ i c gs d. absurd (omega (arith, i))
taking-stays e L take.Look ss o base at m n h = λ i c gs d. absurd (h refl c gs (subst (λ (z : List Step). Derives e z [] gs) (bare-steps ss o base) d))

call-stays : (e : Edition) (p : Place) (o : Pending) (K : List Pending) (at : ℕ) (m : Option ℕ) → o.step ≡ step.Call p → (t : Terminal) (r : Option Turn) → Chosen (alternatives e p) t r
    → (z : Option (List Step)) → Stays e (o ∷ K) at m (machine.called r z p o at K m)
call-stays e p o K at m h t (Some r) i z =
    subst (λ (x : Turn). Stays e (o ∷ K) at m (machine.turning p x o at K m)) i.is
    (taking-stays e (o ∷ K) i.choice.take i.choice.steps (inside (level_of p) o) K at m (marked (level_of p) o at m)
    (λ s c gs d. look-closed e p i.choice i.among s (bare K) (subst (λ (x : Step). Closed (x ∷ bare K)) h c) gs d))
call-stays e p o K at m h t None i (Some ss) = λ j c gs d. refl
call-stays e p o K at m h t None i None = tt

blind-stays : (e : Edition) (p : Place) (o : Pending) (K : List Pending) (at : ℕ) (m : Option ℕ) (z : Option (List Step)) → Stays e (o ∷ K) at m (machine.called None z p o at K m)
blind-stays e p o K at m (Some ss) = λ j c gs d. refl
blind-stays e p o K at m None = tt

many-stays : (e : Edition) (p : Place) (o : Pending) (K : List Pending) (at : ℕ) (m : Option ℕ) (r : Option Turn) → Stays e (o ∷ K) at m (machine.repeated (as_part r) p o at K m)
many-stays e p o K at m None = λ j c gs d. refl
many-stays e p o K at m (Some r) = go (takes r.take) refl
  where
    go : (b : Bool) → takes r.take ≡ b → Stays e (o ∷ K) at m (machine.repeated (if b then Some r else None) p o at K m)
    go false k = λ j c gs d. refl
    go true k =
        taking-stays e (o ∷ K) r.take r.steps (inside (level_of p) o) (as_step o (step.Make form.Add) ∷ (o ∷ K)) at m (marked (level_of p) o at m)
        (λ s c gs d. true≢false (sym k ∙ s))

token-stays : (e : Edition) (L : List Pending) (f : Event) (w : Terminal) (t : Option Terminal) (at : ℕ) (K : List Pending) (m : Option ℕ) → Stays e L at m (machine.token f w t at K m)
token-stays e L f w None at K m = tt
token-stays e L f w (Some t) at K m = go (same w t)
  where
    go : (b : Bool) → Stays e L at m (if b then machine.advances (f ∷ []) K (at + 1) m else machine.fails)
    go true = λ j c gs d. refl
    go false = tt

step-stays : (e : Edition) (t : Option Terminal) (s : Step) (o : Pending) (K : List Pending) (at : ℕ) (m : Option ℕ) → o.step ≡ s → Stays e (o ∷ K) at m (machine.advance_of e t s o at K m)
step-stays e None (step.Call p) o K at m h = blind-stays e p o K at m (otherwise p)
step-stays e (Some t) (step.Call p) o K at m h = call-stays e p o K at m h t (choose (alternatives e p) t) (chosen-turn (alternatives e p) t) (otherwise p)
step-stays e t (step.Many p) o K at m h = many-stays e p o K at m (chosen e p t)
step-stays e t (step.Skip w) o K at m h = token-stays e (o ∷ K) event.Skip w t at K m
step-stays e t (step.Keep w) o K at m h = token-stays e (o ∷ K) event.Keep w t at K m
step-stays e t (step.Make f) o K at m h = λ j c gs d. refl

stays : (e : Edition) (ts : List Terminal) (L : List Pending) (at : ℕ) (m : Option ℕ) → Stays e L at m (machine.advance e ts L at m)
stays e ts [] at m = tt
stays e ts (o ∷ K) at m = step-stays e (next_terminal ts at) o.step o K at m refl

pub led-by : (e : Edition) (ts : List Terminal) (K : List Pending) (a : ℕ) (es : List Event) (L : List Pending) (b : ℕ) (m : Option ℕ) → Leads e ts K a es L b m → a ≤ b
led-by e _ _ _ _ _ _ _ (here _ ts K at) = omega arith
led-by e _ _ _ _ _ _ _ (further _ ts K L M a b c m n es fs l h) =
    let x = told b m (machine.advance e ts L b m) (machine.goes fs M c n) h in
    let up : b ≤ c = further-by e ts L M b c m n fs x.0 in
    let low : a ≤ b = led-by e ts K a es L b m l in
    omega (arith, up, low)

-- a step that took no token, backwards where none is to come
back-step : (e : Edition) (ts : List Terminal) (L M : List Pending) (b c : ℕ) (m n : Option ℕ) (fs gs : List Event) → machine.advance e ts L b m ≡ machine.advances fs M c n → c ≡ b
    → Closed (bare L) → Derives e (bare M) [] gs → Derives e (bare L) [] (fs ++ gs)
back-step e ts L M b c m n fs gs h s cl d = go g.0 g.1 g.2
  where
    g : Agrees (machine.advances fs M c n) (act e (bare L) (next_terminal ts b)) b
    g = subst (λ (x : machine.Advance). Agrees x (act e (bare L) (next_terminal ts b)) b) h (agrees e ts L b m)

    go : (y : Bool) → act e (bare L) (next_terminal ts b) ≡ plain.goes fs (bare M) y → c ≡ past y b → Derives e (bare L) [] (fs ++ gs)
    go true i j = absurd (omega (arith, s, j))
    go false i j = back-end e (bare L) (bare M) (next_terminal ts b) fs gs false (as_acts e (bare L) (next_terminal ts b) fs (bare M) false i) refl cl d

unmarked : (e : Edition) (ts : List Terminal) (K : List Pending) (a : ℕ) (es : List Event) (L : List Pending) (b : ℕ) (m : Option ℕ) → Leads e ts K a es L b m → b ≡ a → Closed (bare K)
    → (gs : List Event) → Derives e (bare L) [] gs → m ≡ None
unmarked e _ _ _ _ _ _ _ (here _ ts K at) s cl gs d = refl
unmarked e _ _ _ _ _ _ _ (further _ ts K L M a b c m n es fs l h) s cl gs d =
    let x = told b m (machine.advance e ts L b m) (machine.goes fs M c n) h in
    let up : b ≤ c = further-by e ts L M b c m n fs x.0 in
    let low : a ≤ b = led-by e ts K a es L b m l in
    let now : c ≡ b = omega (arith, s, up, low) in
    let w = way e ts K a es L b m l in
    let q = closed-path e (bare L) (drop b ts) (bare K) w.tokens es w.path cl in
    subst (Stays e L b m) x.0 (stays e ts L b m) now q gs d
    ∙ unmarked e ts K a es L b m l (omega (arith, s, up, low)) cl (fs ++ gs) (back-step e ts L M b c m n fs gs x.0 now q d)

-- Where nothing is to come, nothing is marked.
pub ended-unmarked : (e : Edition) (ts : List Terminal) (K : List Pending) (a b : ℕ) (m : Option ℕ) → Closed (bare K) → Arrival e ts K a [] b m → m ≡ None
ended-unmarked e ts K a _ _ c (at_start rs k q l) = unmarked e ts K a rs [] a k l refl c [] done
ended-unmarked e ts K a _ _ c (by_token es fs rs L M b m k l h q n) =
    let w = way e ts K a (es ++ fs) M (b + 1) None (further e ts K L M a b (b + 1) m None es fs l h) in
    unmarked e ts M (b + 1) rs [] (b + 1) k n refl (closed-path e (bare M) (drop (b + 1) ts) (bare K) w.tokens (es ++ fs) w.path c) [] done
