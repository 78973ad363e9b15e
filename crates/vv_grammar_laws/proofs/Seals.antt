-- Places behind which something always stands: only there can an alternative that takes no token be empty.
use Rattle.std.proofs.Common.{◌≡◌, Bool, true, false, not, ◌||◌, ◌&&◌, List, [], ◌∷◌, ◌++◌, Option, Some, None, refl, sym, ap, ◌∙◌}
use Rattle.std.proofs.lemmas.Bool.{true≢false, false≢true, and_parts, and_from, not-true}
use Rattle.vv_grammar.specs.declared.edition.Edition.{Edition}
use Rattle.vv_grammar.specs.declared.edition.Edition.TheVariants as edition
use Rattle.vv_grammar.specs.declared.event.Event.{Event}
use Rattle.vv_grammar.specs.declared.form.Form.TheVariants as form
use Rattle.vv_grammar.specs.declared.place.Place.{Place}
use Rattle.vv_grammar.specs.declared.place.Place.TheVariants as place
use Rattle.vv_grammar.specs.declared.step.Step.{Step}
use Rattle.vv_grammar.specs.declared.step.Step.TheVariants as step
use Rattle.vv_grammar.specs.declared.step.Take.{Take}
use Rattle.vv_grammar.specs.declared.step.Take.TheVariants as take
use Rattle.vv_grammar.specs.declared.terminal.Terminal.{Terminal}
use Rattle.vv_grammar.specs.Table.{Choice, alternatives, otherwise}
use Rattle.vv_grammar_laws.specs.Derivations.{IsAmong, first as here, later, Derives, done, make, skip, keep, call, pass, stop, more}
use Rattle.vv_grammar_laws.proofs.Sets.{empty}
use Rattle.vv_grammar_laws.proofs.Check.{nulls}
use Rattle.vv_grammar_laws.proofs.Followed.{is_else}
use Rattle.vv_machine.specs.Machine.{takes}
use Rattle.vv_grammar_laws.proofs.Acts.{Acts, made, skipped, kept, chose, passed, stopped, again}

abbrev pub is_closed : Place → Bool
is_closed place.ExpressionBehindIdent = true
is_closed place.ExpressionBehindMark = true
is_closed place.DiscreteRange = true
is_closed place.DiscreteRangeBehindMark = true
is_closed place.ArrayIndex = true
is_closed place.ArrayIndexBehindMark = true
is_closed place.Argument = true
is_closed place.ArgumentBehindIdent = true
is_closed place.MoreArguments = true
is_closed place.Association = true
is_closed place.AssociationBehindIdent = true
is_closed place.MoreAssociations = true
is_closed place.Element = true
is_closed place.BehindElement = true
is_closed place.MoreElements = true
is_closed place.GenerateDeclarations = true
is_closed _ = false

-- closed places stand before something; what stands last may be closed only where its place is
abbrev pub seals : List Step → Bool → Bool
seals [] last = true
seals (step.Make f ∷ R) last = seals R last
seals (step.Skip w ∷ R) last = seals R last
seals (step.Keep w ∷ R) last = seals R last
seals (step.Call p ∷ R) last = not (is_closed p && (nulls R && last)) && seals R last
seals (step.Many p ∷ R) last = not (is_closed p) && seals R last

abbrev pub looks : Take → Bool
looks take.Keep = false
looks take.Skip = false
looks take.Look = true

abbrev pub each_seals : List Choice → Bool → Bool
each_seals [] closed = true
each_seals (c ∷ cs) closed = (not (looks c.take && nulls c.steps) || closed) && (seals c.steps (not closed) && each_seals cs closed)

abbrev pub else_seals : Option (List Step) → Bool → Bool
else_seals None closed = true
else_seals (Some ss) closed = seals ss (not closed)

abbrev pub is_sealed : Edition → Place → Bool
is_sealed e p = each_seals (alternatives e p) (is_closed p) && else_seals (otherwise p) (is_closed p)

pub sealed : (e : Edition) (p : Place) → is_sealed e p ≡ true
sealed edition.Vhdl93 place.SensitivityNames = refl
sealed edition.Vhdl08 place.SensitivityNames = refl
sealed e place.Expression = refl
sealed e _ = refl

-- closed places stand before something
abbrev pub Closed : List Step → Type 0
Closed [] = Unit {0}
Closed (step.Make f ∷ K) = Closed K
Closed (step.Skip w ∷ K) = Closed K
Closed (step.Keep w ∷ K) = Closed K
Closed (step.Call p ∷ K) = (is_closed p ≡ true → nulls K ≡ true → ⊥) × Closed K
Closed (step.Many p ∷ K) = (is_closed p ≡ true → ⊥) × Closed K

pub nulls-parts : (R K : List Step) → nulls (R ++ K) ≡ true → (nulls R ≡ true) × (nulls K ≡ true)
nulls-parts [] K h = (refl, h)
nulls-parts (step.Make f ∷ R) K h = nulls-parts R K h
nulls-parts (step.Skip w ∷ R) K h = absurd (false≢true h)
nulls-parts (step.Keep w ∷ R) K h = absurd (false≢true h)
nulls-parts (step.Call p ∷ R) K h =
    let a = and_parts (empty p) (nulls (R ++ K)) h in
    let b = nulls-parts R K a.1 in
    (and_from (empty p) (nulls R) a.0 b.0, b.1)
nulls-parts (step.Many p ∷ R) K h = nulls-parts R K h

three : (a b c : Bool) → not (a && (b && c)) ≡ true → a ≡ true → b ≡ true → c ≡ true → ⊥
three a b c h x y z = true≢false (sym (and_from a (b && c) x (and_from b c y z)) ∙ not-true (a && (b && c)) h)

pub closed-append : (R K : List Step) (last : Bool) → seals R last ≡ true → (nulls K ≡ true → last ≡ true) → Closed K → Closed (R ++ K)
closed-append [] K last h n c = c
closed-append (step.Make f ∷ R) K last h n c = closed-append R K last h n c
closed-append (step.Skip w ∷ R) K last h n c = closed-append R K last h n c
closed-append (step.Keep w ∷ R) K last h n c = closed-append R K last h n c
closed-append (step.Call p ∷ R) K last h n c =
    let a = and_parts (not (is_closed p && (nulls R && last))) (seals R last) h in
    (λ x y. (let b = nulls-parts R K y in three (is_closed p) (nulls R) last a.0 x b.0 (n b.1)), closed-append R K last a.1 n c)
closed-append (step.Many p ∷ R) K last h n c =
    let a = and_parts (not (is_closed p)) (seals R last) h in
    (λ x. true≢false (sym x ∙ not-true (is_closed p) a.0), closed-append R K last a.1 n c)

pub among-seals : (c : Choice) (cs : List Choice) (b : Bool) → IsAmong c cs → each_seals cs b ≡ true
    → ((not (looks c.take && nulls c.steps) || b) ≡ true) × (seals c.steps (not b) ≡ true)
among-seals c [] b a h = elim a [ ]
among-seals c (_ ∷ cs) b (here _ _) h =
    let x = and_parts (not (looks c.take && nulls c.steps) || b) (seals c.steps (not b) && each_seals cs b) h in
    (x.0, (and_parts (seals c.steps (not b)) (each_seals cs b) x.1).0)
among-seals c (_ ∷ cs) b (later _ d _ a) h =
    let x = and_parts (not (looks d.take && nulls d.steps) || b) (seals d.steps (not b) && each_seals cs b) h in
    among-seals c cs b a (and_parts (seals d.steps (not b)) (each_seals cs b) x.1).1

pub choice-seals : (e : Edition) (p : Place) (c : Choice) → IsAmong c (alternatives e p)
    → ((not (looks c.take && nulls c.steps) || is_closed p) ≡ true) × (seals c.steps (not (is_closed p)) ≡ true)
choice-seals e p c a = among-seals c (alternatives e p) (is_closed p) a (and_parts (each_seals (alternatives e p) (is_closed p)) (else_seals (otherwise p) (is_closed p)) (sealed e p)).0

pub pass-seals : (e : Edition) (p : Place) (ss : List Step) → otherwise p ≡ Some ss → seals ss (not (is_closed p)) ≡ true
pass-seals e p ss o =
    ap (λ (x : Option (List Step)). else_seals x (is_closed p)) (sym o)
    ∙ (and_parts (each_seals (alternatives e p) (is_closed p)) (else_seals (otherwise p) (is_closed p)) (sealed e p)).1

opened : (b n : Bool) → (b ≡ true → n ≡ true → ⊥) → n ≡ true → not b ≡ true
opened true n h k = absurd (h refl k)
opened false n h k = refl

-- Closed places stand before something after each step.
pub closed-acts : (e : Edition) (K L : List Step) (h : Option Terminal) (es : List Event) (b : Bool) → Acts e K h es L b → Closed K → Closed L
closed-acts e _ _ _ _ _ (made f K h) c = c
closed-acts e _ _ _ _ _ (skipped w t K y) c = c
closed-acts e _ _ _ _ _ (kept w t K y) c = c
closed-acts e _ _ _ _ _ (chose p d t K a y) c = closed-append d.steps K (not (is_closed p)) (choice-seals e p d a).1 (opened (is_closed p) (nulls K) c.0) c.1
closed-acts e _ _ _ _ _ (passed p ss K h o n) c = closed-append ss K (not (is_closed p)) (pass-seals e p ss o) (opened (is_closed p) (nulls K) c.0) c.1
closed-acts e _ _ _ _ _ (stopped p K h) c = c.1
closed-acts e _ _ _ _ _ (again p d t K a y k) c =
    closed-append d.steps (step.Make form.Add ∷ step.Many p ∷ K) (not (is_closed p)) (choice-seals e p d a).1 (opened (is_closed p) (nulls K) (λ x z. c.0 x)) c

abbrev pub IsEmpty : List Terminal → Type 0
IsEmpty [] = Unit {0}
IsEmpty (t ∷ u) = ⊥

pub implied : (a b : Bool) → (not a || b) ≡ true → a ≡ true → b ≡ true
implied true b h e = h
implied false b h e = absurd (false≢true e)

-- Where no token is derived, the steps can be empty.
pub nulled : (e : Edition) (K : List Step) (u : List Terminal) (es : List Event) → Derives e K u es → IsEmpty u → nulls K ≡ true
nulled e _ _ _ done n = refl
nulled e _ _ _ (make f K u es d) n = nulled e K u es d n
nulled e _ _ _ (skip w t K u es s d) n = absurd n
nulled e _ _ _ (keep w t K u es s d) n = absurd n
nulled e _ _ _ (call p c t K u es a h d) n = absurd n
nulled e _ _ _ (pass p ss K u es o d) n =
    let b = nulls-parts ss K (nulled e (ss ++ K) u es d n) in
    and_from (empty p) (nulls K) (implied (nulls ss) (empty p) (is_else e p ss o).nulled b.0) b.1
nulled e _ _ _ (stop p K u es d) n = nulled e K u es d n
nulled e _ _ _ (more p c t K u es a h k d) n = absurd n

takes-looks : (k : Take) → takes k ≡ false → looks k ≡ true
takes-looks take.Keep h = absurd (true≢false h)
takes-looks take.Skip h = absurd (true≢false h)
takes-looks take.Look h = refl

-- Where a token is only looked at, it does not end what is to come.
pub look-closed : (e : Edition) (p : Place) (k : Choice) → IsAmong k (alternatives e p) → takes k.take ≡ false → (K : List Step) → Closed (step.Call p ∷ K)
    → (fs : List Event) → Derives e (k.steps ++ K) [] fs → ⊥
look-closed e p k a s K c fs d =
    let n = nulls-parts k.steps K (nulled e (k.steps ++ K) [] fs d tt) in
    c.0 (implied (looks k.take && nulls k.steps) (is_closed p) (choice-seals e p k a).0 (and_from (looks k.take) (nulls k.steps) (takes-looks k.take s) n.0)) n.1

-- A derivation of no tokens goes back over a step that took none, whatever the next token was.
pub back-end : (e : Edition) (K L : List Step) (h : Option Terminal) (es fs : List Event) (b : Bool)
    → Acts e K h es L b → b ≡ false → Closed K → Derives e L [] fs → Derives e K [] (es ++ fs)
back-end e _ _ _ _ fs _ (made f K h) s c d = make f K [] fs d
back-end e _ _ _ _ fs _ (skipped w t K y) s c d = absurd (true≢false s)
back-end e _ _ _ _ fs _ (kept w t K y) s c d = absurd (true≢false s)
back-end e _ _ _ _ fs _ (chose p k t K a y) s c d = absurd (look-closed e p k a s K c fs d)
back-end e _ _ _ _ fs _ (passed p ss K h o n) s c d = pass p ss K [] fs o d
back-end e _ _ _ _ fs _ (stopped p K h) s c d = stop p K [] fs d
back-end e _ _ _ _ fs _ (again p k t K a y x) s c d = absurd (true≢false (sym x ∙ s))
