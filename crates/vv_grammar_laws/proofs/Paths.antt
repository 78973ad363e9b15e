-- Stretches of the way of the machine without levels.
use Rattle.std.proofs.Common.{◌≡◌, Bool, true, false, List, [], ◌∷◌, ◌++◌, Some, refl, sym, ap, ◌∙◌, subst, append_assoc}
use Rattle.std.proofs.lemmas.List.{append-nil}
use Rattle.vv_grammar.specs.declared.edition.Edition.{Edition}
use Rattle.vv_grammar.specs.declared.event.Event.{Event}
use Rattle.vv_grammar.specs.declared.step.Step.{Step}
use Rattle.vv_grammar.specs.declared.terminal.Terminal.{Terminal}
use Rattle.vv_grammar_laws.specs.Derivations.{Derives, done}
use Rattle.vv_grammar_laws.proofs.Plain.{Act, goes, stuck, over, act, head, behind, Runs, end, move, continues, continued, Goes, steps_of, took}
use Rattle.vv_grammar_laws.proofs.Acts.{as_acts, back}
use Rattle.vv_grammar_laws.proofs.Seals.{Closed, closed-acts, back-end}

-- from steps to the steps M before v, over the tokens between
pub data Path (e : Edition) (M : List Step) (v : List Terminal) : List Step → List Terminal → List Event → Type 0 where
  here : Path e M v M [] []
  looks : (K L : List Step) (q : List Terminal) (es fs : List Event) → act e K (head (q ++ v)) ≡ goes es L false → Path e M v L q fs → Path e M v K q (es ++ fs)
  takes : (K L : List Step) (t : Terminal) (q : List Terminal) (es fs : List Event) → act e K (Some t) ≡ goes es L true → Path e M v L q fs → Path e M v K (t ∷ q) (es ++ fs)

pub then-looks : (e : Edition) (M N : List Step) (v : List Terminal) (gs : List Event) → act e M (head v) ≡ goes gs N false
    → (K : List Step) (q : List Terminal) (es : List Event) → Path e M v K q es → Path e N v K q (es ++ gs)
then-looks e M N v gs m _ _ _ here = subst (λ (x : List Event). Path e N v M [] x) (append-nil gs) (looks M N [] gs [] m here)
then-looks e M N v gs m _ _ _ (looks K L q es fs n p) =
    subst (λ (x : List Event). Path e N v K q x) (sym (append_assoc es fs gs)) (looks K L q es (fs ++ gs) n (then-looks e M N v gs m L q fs p))
then-looks e M N v gs m _ _ _ (takes K L t q es fs n p) =
    subst (λ (x : List Event). Path e N v K (t ∷ q) x) (sym (append_assoc es fs gs)) (takes K L t q es (fs ++ gs) n (then-looks e M N v gs m L q fs p))

pub then-takes : (e : Edition) (M N : List Step) (t : Terminal) (w : List Terminal) (gs : List Event) → act e M (Some t) ≡ goes gs N true
    → (K : List Step) (q : List Terminal) (es : List Event) → Path e M (t ∷ w) K q es → Path e N w K (q ++ (t ∷ [])) (es ++ gs)
then-takes e M N t w gs m _ _ _ here = subst (λ (x : List Event). Path e N w M (t ∷ []) x) (append-nil gs) (takes M N t [] gs [] m here)
then-takes e M N t w gs m _ _ _ (looks K L q es fs n p) =
    subst (λ (x : List Event). Path e N w K (q ++ (t ∷ [])) x) (sym (append_assoc es fs gs))
    (looks K L (q ++ (t ∷ [])) es (fs ++ gs)
    (ap (λ (x : List Terminal). act e K (head x)) (append_assoc q (t ∷ []) w) ∙ n)
    (then-takes e M N t w gs m L q fs p))
then-takes e M N t w gs m _ _ _ (takes K L s q es fs n p) =
    subst (λ (x : List Event). Path e N w K (s ∷ (q ++ (t ∷ []))) x) (sym (append_assoc es fs gs))
    (takes K L s (q ++ (t ∷ [])) es (fs ++ gs) n (then-takes e M N t w gs m L q fs p))

same-head : (q v w : List Terminal) → head v ≡ head w → head (q ++ v) ≡ head (q ++ w)
same-head [] v w h = h
same-head (t ∷ q) v w h = refl

pub record Onward (e : Edition) (M : List Step) (v : List Terminal) : Type 0 where
  pub events : List Event
  pub runs : Runs e M v events

pub step-on : (e : Edition) (K L : List Step) (u : List Terminal) (es fs : List Event) (b : Bool) → act e K (head u) ≡ goes es L b → Runs e K u fs → Onward e L (behind b u)
step-on e K L u es fs b m r = elim (continued e K u fs (subst Goes (sym m) tt) r) [
  | continues ds d q ↦ record { events = ds; runs = subst (λ (x : Act). Runs e (steps_of x) (behind (took x) u) ds) m q }
]

-- A run over the same tokens, before the same next one, comes by the same steps.
pub follow : (e : Edition) (M : List Step) (v w : List Terminal) → head v ≡ head w
    → (K : List Step) (q : List Terminal) (es fs : List Event) → Path e M v K q es → Runs e K (q ++ w) fs → Onward e M w
follow e M v w h _ _ _ fs here r = record { events = fs; runs = r }
follow e M v w h _ _ _ fs (looks K L q es gs m p) r =
    let o = step-on e K L (q ++ w) es fs false (ap (act e K) (sym (same-head q v w h)) ∙ m) r in
    follow e M v w h L q gs o.events p o.runs
follow e M v w h _ _ _ fs (takes K L t q es gs m p) r =
    let o = step-on e K L (t ∷ (q ++ w)) es fs true m r in
    follow e M v w h L q gs o.events p o.runs

abbrev pub IsStuck : Act → Type 0
IsStuck (goes es L b) = ⊥
IsStuck stuck = Unit {0}
IsStuck over = ⊥

pub not-stuck : (e : Edition) (K : List Step) (u : List Terminal) (fs : List Event) → act e K (head u) ≡ stuck → Runs e K u fs → ⊥
not-stuck e _ _ _ m end = subst IsStuck (sym m) tt
not-stuck e _ _ _ m (move K L u b es fs n r) = subst IsStuck (sym m ∙ n) tt

pub not-further : (e : Edition) (K : List Step) (u : List Terminal) (fs : List Event) → K ≡ [] → Runs e K u fs → u ≡ []
not-further e _ _ _ k end = refl
not-further e _ _ _ k (move K L u b es fs m r) = absurd (subst Goes (sym m ∙ ap (λ (x : List Step). act e x (head u)) k) tt)

-- The tokens of a way to the end are derived.
pub derived : (e : Edition) (v : List Terminal) (K : List Step) (q : List Terminal) (es : List Event) → Path e [] v K q es → Closed K → Derives e K q es
derived e v _ _ _ here c = done
derived e v _ _ _ (looks K L [] es fs m p) c =
    let a = as_acts e K (head v) es L false m in
    back-end e K L (head v) es fs false a refl c (derived e v L [] fs p (closed-acts e K L (head v) es false a c))
derived e v _ _ _ (looks K L (t ∷ q) es fs m p) c =
    let a = as_acts e K (Some t) es L false m in
    back e K L (Some t) es fs false (t ∷ q) a refl (derived e v L (t ∷ q) fs p (closed-acts e K L (Some t) es false a c))
derived e v _ _ _ (takes K L t q es fs m p) c =
    let a = as_acts e K (Some t) es L true m in
    back e K L (Some t) es fs true (t ∷ q) a refl (derived e v L q fs p (closed-acts e K L (Some t) es true a c))
