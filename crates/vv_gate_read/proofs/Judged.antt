-- What the machine's outcome says of the tokens.
use Rattle.std.proofs.Common.{◌≡◌, ℕ, ◌≤◌, length, List, [], ◌∷◌, ◌++◌, map, Option, Some, None, refl, sym, ap, ◌∙◌, subst, append_assoc, ◌⊎◌, inl, inr}
use Rattle.vv_gate.specs.Tree.{GateFile}
use Rattle.vv_gate.specs.declared.token.Mark.{Mark}
use Rattle.vv_gate_lex.specs.Symbols.{Symbol, finish, is_mark, Token}
use Rattle.vv_gate_lex.specs.Lexical.{tokens}
use Rattle.vv_gate_read.specs.Grammar.{spelled, IsMisplaced}
use Rattle.vv_gate_read.specs.Machine.{Place, at_logic, after_logic, at_numeric, at_entity, at_port, after_port, at_mode, after_group, at_architecture, at_of, at_statement, at_term, at_operand, after_term, at_finish, done, State, start, step_at, step, Outcome, Reads, Stops, drive}
use Rattle.vv_gate_read.specs.Reading.{IsReading}
use Rattle.vv_gate_read.proofs.Drives.{drive-takes, drive-stops}
use Rattle.vv_gate_read.proofs.Runs.{at, after, run, after-append, Reached}
use Rattle.vv_gate_read.proofs.Advance.{over}
use Rattle.vv_gate_read.proofs.Forward.{file_over}
use Rattle.vv_gate_read.proofs.Completed.{all_read, goes_on}
use Rattle.vv_gate_read.proofs.Order.{Closed, IsOrdered, placed, token_within}

abbrev symbols : List Token → List Symbol
symbols ts = map (λ t. t.symbol) ts

abbrev Judged : List Token → Outcome → Type 0
Judged ts (Reads f) = (run start (symbols ts) ≡ Some (at (done f)))
Judged ts (Stops place) = IsMisplaced ts place

start_reached : Reached [] start
start_reached = record { text = refl; good = tt }

run-snoc : (front : List Token) (t : Token) (s : State) → run start (symbols front) ≡ Some s → run start (symbols front ++ (t.symbol ∷ [])) ≡ step s t.symbol
run-snoc front t s e = after-append (Some start) (symbols front) (t.symbol ∷ []) ∙ (ap (λ (o : Option State). after o (t.symbol ∷ [])) e ∙ last (step s t.symbol))
  where
    last : (o : Option State) → after o [] ≡ o
    last None = refl
    last (Some n) = refl

map-snoc : (front : List Token) (t : Token) → symbols (front ++ (t ∷ [])) ≡ symbols front ++ (t.symbol ∷ [])
map-snoc [] t = refl
map-snoc (u ∷ front) t = ap (λ (k : List Symbol). u.symbol ∷ k) (map-snoc front t)

none_some : (n : State) → None ≡ Some n → ⊥
none_some n e = cc

-- a token that fits nowhere
misplaced : (front : List Token) (s : State) (t : Token) (more : List Token) → run start (symbols front) ≡ Some s → step s t.symbol ≡ None → IsMisplaced (front ++ (t ∷ more)) t.at
misplaced front s t more e stuck = record {
  front = front;
  token = t;
  more = more;
  split = refl;
  place = refl;
  before = goes_on (symbols front) s (over (symbols front) [] start s e start_reached);
  not_after = λ v.
      let all : run start (spelled v.file) ≡ Some (at (done v.file)) = file_over v.file v.whole in
      let here : run start ((symbols front ++ (t.symbol ∷ [])) ++ v.more) ≡ None =
      after-append (Some start) (symbols front ++ (t.symbol ∷ [])) v.more ∙ ap (λ (o : Option State). after o v.more) (run-snoc front t s e ∙ stuck) in
      none_some (at (done v.file)) (sym here ∙ (ap (run start) v.spells ∙ all));
}

no_mark : (ms : List Mark) (p : Place) (n : State) → step_at ms p finish ≡ Some n → (f : GateFile) × (n ≡ at (done f))
unfolding is_mark
no_mark (m ∷ ms) p n e = absurd (none_some n e)
no_mark [] at_logic n e = absurd (none_some n e)
no_mark [] (after_logic l) n e = absurd (none_some n e)
no_mark [] (at_numeric l) n e = absurd (none_some n e)
no_mark [] (at_entity c) n e = absurd (none_some n e)
no_mark [] (at_port p) n e = absurd (none_some n e)
no_mark [] (after_port p i) n e = absurd (none_some n e)
no_mark [] (at_mode p i) n e = absurd (none_some n e)
no_mark [] (after_group p g) n e = absurd (none_some n e)
no_mark [] (at_architecture p) n e = absurd (none_some n e)
no_mark [] (at_of p i) n e = absurd (none_some n e)
no_mark [] (at_statement f) n e = absurd (none_some n e)
no_mark [] (at_term c) n e = absurd (none_some n e)
no_mark [] (at_operand c) n e = absurd (none_some n e)
no_mark [] (after_term c t) n e = absurd (none_some n e)
no_mark [] (at_finish f) n e = (f, cc)
no_mark [] (done f) n e = absurd (none_some n e)

known : (o : Option State) → ((n : State) × (o ≡ Some n)) ⊎ (o ≡ None)
known None = inr refl
known (Some n) = inl (n, refl)

drive-done : (f : GateFile) → drive (at (done f)) [] ≡ Reads f
unfolding drive
drive-done f = refl

judged : (front ts : List Token) (s : State) → run start (symbols front) ≡ Some s → Closed ts → Judged (front ++ ts) (drive s ts)
judged front [] s e h = absurd h
judged front (t ∷ []) s e h = elim (known (step s t.symbol)) [
  | inr k ↦ subst (Judged (front ++ (t ∷ []))) (sym (drive-stops s t [] k)) (misplaced front s t [] e k)
  | inl k ↦ (let d = no_mark s.expected s.place k.0 (ap (step s) (sym h) ∙ k.1) in
      subst (Judged (front ++ (t ∷ []))) (sym (drive-takes s k.0 t [] k.1 ∙ (ap (λ (n : State). drive n []) d.1 ∙ drive-done d.0)))
      (ap (run start) (map-snoc front t) ∙ (run-snoc front t s e ∙ (k.1 ∙ ap (λ (n : State). Some n) d.1))))
]
judged front (t ∷ u ∷ more) s e h = elim (known (step s t.symbol)) [
  | inr k ↦ subst (Judged (front ++ (t ∷ u ∷ more))) (sym (drive-stops s t (u ∷ more) k)) (misplaced front s t (u ∷ more) e k)
  | inl k ↦ (let go = judged (front ++ (t ∷ [])) (u ∷ more) k.0 (ap (run start) (map-snoc front t) ∙ (run-snoc front t s e ∙ k.1)) h in
      subst (Judged (front ++ (t ∷ u ∷ more))) (sym (drive-takes s k.0 t (u ∷ more) k.1))
      (subst (λ (x : List Token). Judged x (drive k.0 (u ∷ more))) (append_assoc front (t ∷ []) (u ∷ more)) go))
]

abbrev place_tree : GateFile → Place → GateFile
place_tree f (done g) = g
place_tree f _ = f

abbrev option_tree : GateFile → Option State → GateFile
option_tree f None = f
option_tree f (Some s) = place_tree f s.place

same_file : (f g : GateFile) → Some (at (done f)) ≡ Some (at (done g)) → f ≡ g
same_file f g e = ap (λ (o : Option State). option_tree f o) e

pub read_well : (f : GateFile) (ts : List Token) → IsOrdered 0 ts → drive start ts ≡ Reads f → IsReading f ts
read_well f ts r e =
    let over_all : run start (symbols ts) ≡ Some (at (done f)) = subst (Judged ts) e (judged [] ts start refl r.closed) in
    let reached = over (symbols ts) [] start (at (done f)) over_all start_reached in
    let spells = all_read f (symbols ts) reached in
    record {
      text = record { whole = reached.good; spells = spells };
      only = λ g t. same_file g f (sym (file_over g t.whole) ∙ (ap (run start) (sym t.spells) ∙ over_all));
      placed = placed f ts r spells;
    }

pub stops_well : (place : ℕ) (ts : List Token) → IsOrdered 0 ts → drive start ts ≡ Stops place → IsMisplaced ts place
stops_well place ts r e = subst (Judged ts) e (judged [] ts start refl r.closed)

pub within : (bytes : List ℕ) (place : ℕ) → IsMisplaced (tokens (length bytes) bytes) place → place ≤ length bytes
within bytes place h = let in_file = token_within bytes h.front h.more h.token h.split in subst (λ (n : ℕ). n ≤ length bytes) h.place in_file
