-- What the machine answers, told by the productions.
use Rattle.std.proofs.Common.{◌≡◌, ◌∙◌, ℕ, ◌-◌, ◌<◌, ◌≤◌, List, [], ◌∷◌, ◌++◌, Some, None, drop, take, length, slice_get, get_or, sym, subst, arith}
use Rattle.std.specs.Prelude.{◌⊎◌}
use Rattle.std.proofs.lemmas.List.{append-nil, take_all, length-drop}
use Rattle.std.proofs.lemmas.Option.{slice_get_cases, none-some}
use mathlib.Core.Logic.{inl, inr}
use Rattle.vv_base.specs.declared.fault.Fault.{Fault}
use Rattle.vv_base.specs.declared.fault.Span.{Span}
use Rattle.vv_base.specs.declared.rules.Rule.TheVariants.{Y1}
use Rattle.vv_vlex.specs.declared.token.Token.{Token}
use Rattle.vv_grammar.specs.declared.edition.Edition.{Edition}
use Rattle.vv_grammar.specs.declared.event.Event.{Event}
use Rattle.vv_grammar.specs.declared.step.Step.{Step}
use Rattle.vv_grammar.specs.declared.terminal.Terminal.{Terminal}
use Rattle.vv_grammar.specs.Terminals.{terminals_of}
use Rattle.vv_grammar.specs.Trees.{Tree, replay}
use Rattle.vv_machine.specs.declared.machine.Stop.{Stop}
use Rattle.vv_machine.specs.declared.machine.Stop.TheVariants as stop
use Rattle.vv_machine.specs.Machine.{Leads, Halts, Stops, starting_with, next_terminal}
use Rattle.vv_grammar_laws.specs.Starts.{Start, file, steps_for}
use Rattle.vv_grammar_laws.proofs.Ends.{reads, refuses}
use Rattle.vv_grammar_laws.proofs.Deep.{too_deep}
use Rattle.vv_productions.specs.Matches.{Matches, phrase_for}
use Rattle.vv_productions.specs.Readings.{IsShallow, IsRead, IsMisplaced, nowhere}
use Rattle.vv_productions.proofs.Readings.{read-of, misplaced-of, deep-of}
use Rattle.vv_reading.specs.Readings.{IsReadAs, IsNotRead, IsRefusedAt, IsFaultOf, misplaced_at, deep_at, span_at}

pub rest_of : (n : ℕ) (ts : List Token) → take (length ts - n) (drop n ts) ≡ drop n ts
rest_of n ts = take_all (length ts - n) (drop n ts) (omega (arith, length-drop n ts))

pub read_as : (e : Edition) (s : Start) (ts : List Token) (ks : List Terminal) (steps : List Step) (a b : ℕ) (es : List Event) (t : Tree)
    → ks ≡ terminals_of ts → steps ≡ steps_for s → Leads e ks (starting_with steps a) a es [] b None → replay es (drop a ts) nowhere [] ≡ t ∷ []
    → IsReadAs e s ts a b t
read_as e s ts ks steps a b es t k p l m =
    let led : Leads e (terminals_of ts) (starting_with (steps_for s) a) a es [] b None = rw (sym k, sym p) l in
    record {
      events = es;
      read = read-of e s (terminals_of ts) a b es (reads e s (terminals_of ts) a b es led);
      made = m;
    }

pub refused_as : (e : Edition) (s : Start) (ts : List Token) (a n : ℕ) (sp : Span) → sp ≡ span_at ts n → IsMisplaced e s (terminals_of ts) a n
    → IsRefusedAt e s ts a (record { rule = Y1; span = sp })
refused_as e s ts a n sp h r = rw h (misplaced_at n r)

pub not_read : (e : Edition) (s : Start) (ts : List Token) (ks : List Terminal) (steps : List Step) (a : ℕ) (st : Stop) (f : Fault)
    → ks ≡ terminals_of ts → steps ≡ steps_for s → Stops e ks (starting_with steps a) a st
    → IsFaultOf st ts f → IsNotRead e s ts a f
not_read e s ts ks steps a stop.Memory f k p l h = rw h tt
not_read e s ts ks steps a (stop.Misplaced n) f k p l h =
    let halted : Halts e (terminals_of ts) (starting_with (steps_for s) a) a (stop.Misplaced n) = rw (sym k, sym p) l in
    rw h (misplaced_at n (misplaced-of e s (terminals_of ts) a n (refuses e s (terminals_of ts) a n halted)))
not_read e s ts ks steps a (stop.Deep n) f k p l h =
    let halted : Halts e (terminals_of ts) (starting_with (steps_for s) a) a (stop.Deep n) = rw (sym k, sym p) l in
    rw h (deep_at n (deep-of e s (terminals_of ts) a n (too_deep e s (terminals_of ts) a n halted)))

-- some tokens match, and nothing in them is too deep
Sound : Edition → Start → ℕ → List Event → List Terminal → Type 0
Sound e s a es w = (m : Matches e (phrase_for s ∷ []) w es) × IsShallow e s w es m a

there_is_one : (ks : List Terminal) (n : ℕ) → n < length ks → next_terminal ks n ≡ None → ⊥
there_is_one ks n lt none = go (slice_get_cases ks n).1
  where
    go : ((x : Terminal) × (n < length ks) × (slice_get ks n ≡ Some x) × (get_or ks n x ≡ x)) ⊎ ((length ks ≤ n) × (slice_get ks n ≡ None)) → ⊥
    go (inl h) = none-some h.0 (sym none ∙ h.2)
    go (inr h) = absurd (omega (arith, h.0, lt))

-- what is read as a file, where there are more tokens behind it, is refused at the next one as the whole of them
pub left_over : (e : Edition) (ks : List Terminal) (a n : ℕ) (es : List Event) → IsRead e file ks a n es → n < length ks → IsMisplaced e file ks a n
unfolding Sound
left_over e ks a n es r lt =
    let sound : Sound e file a es (r.tokens ++ []) = subst (Sound e file a es) (sym (append-nil r.tokens)) (r.matches, r.shallow) in
    record {
      tokens = r.tokens;
      between = r.between;
      goes_on = record { more = []; events = es; matches = sound.0; free = λ m l h. sound.1 m h };
      never = r.longest;
      ends = λ fs none d. absurd (there_is_one ks n lt none);
    }
