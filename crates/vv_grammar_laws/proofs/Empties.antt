-- Steps that can be empty are no dead end: by the next token they go on or come to their end. So what is misplaced follows nothing that is whole.
use Rattle.std.proofs.Common.{◌≡◌, ℕ, ◌+◌, ◌≤◌, Bool, true, false, not, ◌||◌, ◌&&◌, if◌then◌else◌, List, [], ◌∷◌, ◌++◌, length, drop, Option, Some, None, refl, sym, ap, ◌∙◌, subst, arith}
use Rattle.std.proofs.lemmas.Bool.{false≢true, and_parts, and_from}
use Rattle.vv_grammar.specs.declared.edition.Edition.{Edition}
use Rattle.vv_grammar.specs.declared.edition.Edition.TheVariants as edition
use Rattle.vv_grammar.specs.declared.event.Event.{Event}
use Rattle.vv_grammar.specs.declared.form.Form.TheVariants as form
use Rattle.vv_grammar.specs.declared.place.Place.{Place}
use Rattle.vv_grammar.specs.declared.place.Place.TheVariants as place
use Rattle.vv_machine.specs.declared.stack.Pending.{Pending}
use Rattle.vv_grammar.specs.declared.step.Step.{Step}
use Rattle.vv_grammar.specs.declared.step.Step.TheVariants as step
use Rattle.vv_grammar.specs.declared.terminal.Terminal.{Terminal}
use Rattle.vv_grammar.specs.Table.{Choice, alternatives, otherwise}
use Rattle.vv_machine.specs.Machine as machine
use Rattle.vv_machine.specs.Machine.{Turn, takes, as_part, choose, chosen, next_terminal, starting_with, Leads, here, further, Halts}
use Rattle.vv_grammar_laws.specs.Derivations.{IsAmong, first, later}
use Rattle.vv_grammar_laws.specs.Starts.{AreBetween}
use Rattle.vv_grammar_laws.proofs.Sets.{empty}
use Rattle.vv_grammar_laws.proofs.Check.{nulls}
use Rattle.vv_grammar_laws.proofs.Followed.{is_else}
use Rattle.vv_grammar_laws.proofs.Plain as plain
use Rattle.vv_grammar_laws.proofs.Plain.{act, act_of, head, behind, forward, Runs, end, move}
use Rattle.vv_grammar_laws.proofs.Acts.{Acts, made, skipped, kept, chose, passed, stopped, again, as_acts, HasHead, IsTurn, Chosen, chosen-turn}
use Rattle.vv_grammar_laws.proofs.Seals.{is_closed, Closed, nulls-parts, implied, IsEmpty}
use Rattle.vv_grammar_laws.proofs.Paths.{follow, step-on}
use Rattle.vv_grammar_laws.proofs.Settled.{told}
use Rattle.vv_grammar_laws.proofs.Bridge.{bare, past, Agrees, agrees, needs-head, head-from, way}
use Rattle.vv_grammar_laws.proofs.Ways.{further-by}
use Rattle.vv_grammar_laws.proofs.Calm.{Arrival, at_start, by_token}
use Rattle.vv_grammar_laws.proofs.Free.{closed-path, between-next}
use Rattle.vv_grammar_laws.proofs.Over.{led-by}

abbrev pub all_take : List Choice → Bool
all_take [] = true
all_take (c ∷ cs) = takes c.take && all_take cs

abbrev pub passes_empty : Option (List Step) → Bool
passes_empty None = false
passes_empty (Some ss) = nulls ss

-- what can be empty takes a token or passes, but where it stands before something
abbrev pub is_ready : Edition → Place → Bool
is_ready e p = not (empty p) || (is_closed p || (all_take (alternatives e p) && passes_empty (otherwise p)))

ready : (e : Edition) (p : Place) → is_ready e p ≡ true
ready edition.Vhdl93 place.SensitivityNames = refl
ready edition.Vhdl08 place.SensitivityNames = refl
ready e place.Expression = refl
ready e _ = refl

third : (a b c : Bool) → (not a || (b || c)) ≡ true → a ≡ true → (b ≡ true → ⊥) → c ≡ true
third true true c h x y = absurd (y refl)
third true false c h x y = h
third false b c h x y = absurd (false≢true x)

nulls-join : (R K : List Step) → nulls R ≡ true → nulls K ≡ true → nulls (R ++ K) ≡ true
nulls-join [] K h k = k
nulls-join (step.Make f ∷ R) K h k = nulls-join R K h k
nulls-join (step.Skip w ∷ R) K h k = absurd (false≢true h)
nulls-join (step.Keep w ∷ R) K h k = absurd (false≢true h)
nulls-join (step.Call p ∷ R) K h k = let a = and_parts (empty p) (nulls R) h in and_from (empty p) (nulls (R ++ K)) a.0 (nulls-join R K a.1 k)
nulls-join (step.Many p ∷ R) K h k = nulls-join R K h k

-- a step takes a token, or what is left can be empty too
abbrev pub Readies : plain.Act → Type 0
Readies (plain.goes es L true) = Unit {0}
Readies (plain.goes es L false) = nulls L ≡ true
Readies plain.stuck = ⊥
Readies plain.over = Unit {0}

among-takes : (c : Choice) (cs : List Choice) → IsAmong c cs → all_take cs ≡ true → takes c.take ≡ true
among-takes c [] a h = elim a [ ]
among-takes c (_ ∷ cs) (first _ _) h = (and_parts (takes c.take) (all_take cs) h).0
among-takes c (_ ∷ cs) (later _ d _ a) h = among-takes c cs a (and_parts (takes d.take) (all_take cs) h).1

turned-readies : (r : Turn) (K : List Step) → takes r.take ≡ true → Readies (plain.turned r K)
turned-readies r K h = go (takes r.take) h
  where
    go : (b : Bool) → b ≡ true → Readies (plain.goes (let es : List Event = [] in es) (r.steps ++ K) b)
    go true k = tt
    go false k = absurd (false≢true k)

chosen-takes : (cs : List Choice) (t : Terminal) (r : Turn) → all_take cs ≡ true → IsTurn cs t r → takes r.take ≡ true
chosen-takes cs t r h i = ap (λ (x : Turn). takes x.take) (sym i.is) ∙ among-takes i.choice cs i.among h

pass-readies : (o : Option (List Step)) (K : List Step) → passes_empty o ≡ true → nulls K ≡ true → Readies (plain.called None o K)
pass-readies None K h k = absurd (false≢true h)
pass-readies (Some ss) K h k = nulls-join ss K h k

call-readies : (e : Edition) (p : Place) (K : List Step) (x : Option Terminal) → all_take (alternatives e p) ≡ true → passes_empty (otherwise p) ≡ true → nulls K ≡ true
    → Readies (plain.called (chosen e p x) (otherwise p) K)
call-readies e p K None h k n = pass-readies (otherwise p) K k n
call-readies e p K (Some t) h k n = go (choose (alternatives e p) t) (chosen-turn (alternatives e p) t)
  where
    go : (r : Option Turn) → Chosen (alternatives e p) t r → Readies (plain.called r (otherwise p) K)
    go None i = pass-readies (otherwise p) K k n
    go (Some r) i = turned-readies r K (chosen-takes (alternatives e p) t r h i)

many-readies : (p : Place) (K : List Step) (r : Option Turn) → nulls K ≡ true → Readies (plain.repeated (as_part r) p K)
many-readies p K None n = n
many-readies p K (Some r) n = go (takes r.take) refl
  where
    go : (b : Bool) → takes r.take ≡ b → Readies (plain.repeated (if b then Some r else None) p K)
    go false h = n
    go true h = turned-readies r (step.Make form.Add ∷ (step.Many p ∷ K)) h

readied : (e : Edition) (K : List Step) (x : Option Terminal) → nulls K ≡ true → Closed K → Readies (act e K x)
readied e [] x n c = tt
readied e (step.Make f ∷ K) x n c = n
readied e (step.Skip w ∷ K) x n c = absurd (false≢true n)
readied e (step.Keep w ∷ K) x n c = absurd (false≢true n)
readied e (step.Many p ∷ K) x n c = many-readies p K (chosen e p x) n
readied e (step.Call p ∷ K) x n c =
    let a = and_parts (empty p) (nulls K) n in
    let b = third (empty p) (is_closed p) (all_take (alternatives e p) && passes_empty (otherwise p)) (ready e p) a.0 (λ y. c.0 y a.1) in
    let d = and_parts (all_take (alternatives e p)) (passes_empty (otherwise p)) b in
    call-readies e p K x d.0 d.1 a.1

emptied-step : (e : Edition) (ts : List Terminal) (L M : List Pending) (b c : ℕ) (m k : Option ℕ) (fs : List Event) → machine.advance e ts L b m ≡ machine.advances fs M c k → c ≡ b
    → Closed (bare L) → nulls (bare L) ≡ true → nulls (bare M) ≡ true
emptied-step e ts L M b c m k fs h now cl n = go g.0 g.1 g.2
  where
    g : Agrees (machine.advances fs M c k) (act e (bare L) (next_terminal ts b)) b
    g = subst (λ (z : machine.Advance). Agrees z (act e (bare L) (next_terminal ts b)) b) h (agrees e ts L b m)

    go : (y : Bool) → act e (bare L) (next_terminal ts b) ≡ plain.goes fs (bare M) y → c ≡ past y b → nulls (bare M) ≡ true
    go true i j = absurd (omega (arith, now, j))
    go false i j = subst Readies i (readied e (bare L) (next_terminal ts b) n cl)

-- with no token taken the machine comes from steps that can be empty to such
emptied : (e : Edition) (ts : List Terminal) (K : List Pending) (a : ℕ) (es : List Event) (L : List Pending) (b : ℕ) (m : Option ℕ) → Leads e ts K a es L b m → b ≡ a
    → Closed (bare K) → nulls (bare K) ≡ true → nulls (bare L) ≡ true
emptied e _ _ _ _ _ _ _ (here _ ts K at) s c n = n
emptied e _ _ _ _ _ _ _ (further _ ts K L M a b c m k es fs l h) s cl n =
    let x = told b m (machine.advance e ts L b m) (machine.goes fs M c k) h in
    let up : b ≤ c = further-by e ts L M b c m k fs x.0 in
    let low : a ≤ b = led-by e ts K a es L b m l in
    let w = way e ts K a es L b m l in
    emptied-step e ts L M b c m k fs x.0 (omega (arith, s, up, low)) (closed-path e (bare L) (drop b ts) (bare K) w.tokens es w.path cl)
    (emptied e ts K a es L b m l (omega (arith, s, up, low)) cl n)

acts-nulled : (e : Edition) (K L : List Step) (h : Option Terminal) (es : List Event) (b : Bool) → Acts e K h es L b → (HasHead h → ⊥) → nulls L ≡ true → nulls K ≡ true
acts-nulled e _ _ _ _ _ (made f K h) x n = n
acts-nulled e _ _ _ _ _ (skipped w t K y) x n = absurd (x tt)
acts-nulled e _ _ _ _ _ (kept w t K y) x n = absurd (x tt)
acts-nulled e _ _ _ _ _ (chose p c t K a y) x n = absurd (x tt)
acts-nulled e _ _ _ _ _ (passed p ss K h o c) x n =
    let b = nulls-parts ss K n in
    and_from (empty p) (nulls K) (implied (nulls ss) (empty p) (is_else e p ss o).nulled b.0) b.1
acts-nulled e _ _ _ _ _ (stopped p K h) x n = n
acts-nulled e _ _ _ _ _ (again p c t K a y k) x n = absurd (x tt)

no-head : (u : List Terminal) → IsEmpty u → HasHead (head u) → ⊥
no-head [] h k = k
no-head (t ∷ u) h k = h

behind-empty : (b : Bool) (u : List Terminal) → IsEmpty u → IsEmpty (behind b u)
behind-empty false u h = h
behind-empty true [] h = tt
behind-empty true (t ∷ u) h = absurd h

-- what no tokens go through can be empty
runs-nulled : (e : Edition) (K : List Step) (u : List Terminal) (es : List Event) → Runs e K u es → IsEmpty u → nulls K ≡ true
runs-nulled e _ _ _ end h = refl
runs-nulled e _ _ _ (move K L u b es fs m r) h =
    acts-nulled e K L (head u) es b (as_acts e K (head u) es L b m) (no-head u h) (runs-nulled e L (behind b u) fs r (behind-empty b u h))

no-tokens : (q : List Terminal) (a : ℕ) → a ≡ a + length q → IsEmpty q
no-tokens [] a h = tt
no-tokens (t ∷ q) a h = absurd (omega (arith, h))

-- the steps behind the last token, where all tokens so far are derived, can be empty
last-nulled : (e : Edition) (ts : List Terminal) (K : List Pending) (a : ℕ) (es fs : List Event) (L M : List Pending) (b : ℕ) (m : Option ℕ) → Leads e ts K a es L b m
    → machine.move e ts L b m ≡ machine.goes fs M (b + 1) None → (q : List Terminal) → AreBetween ts a (b + 1) q
    → ((p r : List Terminal) → AreBetween ts a (b + 1) p → AreBetween ts a (b + 1) r → p ≡ r) → (gs : List Event) → Runs e (bare K) q gs → nulls (bare M) ≡ true
last-nulled e ts K a es fs L M b m l h q w one gs r = go g.0 g.1 g.2
  where
    g : Agrees (machine.advances fs M (b + 1) None) (act e (bare L) (next_terminal ts b)) b
    g = subst (λ (z : machine.Advance). Agrees z (act e (bare L) (next_terminal ts b)) b) (told b m (machine.advance e ts L b m) (machine.goes fs M (b + 1) None) h).0 (agrees e ts L b m)

    there : (x : Option Terminal) → HasHead x → (t : Terminal) × (x ≡ Some t)
    there None k = absurd k
    there (Some t) k = (t, refl)

    go : (y : Bool) → act e (bare L) (next_terminal ts b) ≡ plain.goes fs (bare M) y → b + 1 ≡ past y b → nulls (bare M) ≡ true
    go false i j = absurd (omega (arith, j))
    go true i j =
        let t = there (next_terminal ts b) (needs-head e (bare L) (bare M) (next_terminal ts b) fs true (as_acts e (bare L) (next_terminal ts b) fs (bare M) true i) tt) in
        let v = way e ts K a es L b m l in
        let same : q ≡ v.tokens ++ (t.0 ∷ []) = one q (v.tokens ++ (t.0 ∷ [])) w (between-next ts a b v.tokens t.0 v.between t.1) in
        let o = follow e (bare L) (drop b ts) (t.0 ∷ []) (head-from ts b ∙ t.1) (bare K) v.tokens es gs v.path (subst (λ (x : List Terminal). Runs e (bare K) x gs) same r) in
        let z = step-on e (bare L) (bare M) (t.0 ∷ []) fs o.events true (ap (act e (bare L)) (sym t.1) ∙ i) o.runs in
        runs-nulled e (bare M) [] z.events z.runs tt

-- Where the machine came by these tokens and they are derived, the next one is not misplaced.
pub never-stuck : (e : Edition) (ts : List Terminal) (K : List Pending) (a : ℕ) (Z : List Pending) (b : ℕ) (m : Option ℕ) → Arrival e ts K a Z b m → Closed (bare K)
    → machine.advance e ts Z b m ≡ machine.fails → (q : List Terminal) → AreBetween ts a b q → ((c : ℕ) (p r : List Terminal) → AreBetween ts a c p → AreBetween ts a c r → p ≡ r)
    → (gs : List Event) → Runs e (bare K) q gs → ⊥
never-stuck e ts K a Z _ _ (at_start rs k q l) c h u w one gs r =
    let n = emptied e ts K a rs Z a k l refl c (runs-nulled e (bare K) u gs r (no-tokens u a w.size)) in
    let v = way e ts K a rs Z a k l in
    subst Readies (subst (λ (z : machine.Advance). Agrees z (act e (bare Z) (next_terminal ts a)) a) h (agrees e ts Z a k))
    (readied e (bare Z) (next_terminal ts a) n (closed-path e (bare Z) (drop a ts) (bare K) v.tokens rs v.path c))
never-stuck e ts K a Z _ _ (by_token es fs rs L M b m k l i q j) c h u w one gs r =
    let v = way e ts K a (es ++ fs) M (b + 1) None (further e ts K L M a b (b + 1) m None es fs l i) in
    let cm = closed-path e (bare M) (drop (b + 1) ts) (bare K) v.tokens (es ++ fs) v.path c in
    let n = emptied e ts M (b + 1) rs Z (b + 1) k j refl cm (last-nulled e ts K a es fs L M b m l i u w (one (b + 1)) gs r) in
    let x = way e ts M (b + 1) rs Z (b + 1) k j in
    subst Readies (subst (λ (z : machine.Advance). Agrees z (act e (bare Z) (next_terminal ts (b + 1))) (b + 1)) h (agrees e ts Z (b + 1) k))
    (readied e (bare Z) (next_terminal ts (b + 1)) n (closed-path e (bare Z) (drop (b + 1) ts) (bare M) x.tokens rs x.path cm))
