-- What the machine makes of one token more.
use Rattle.std.proofs.Common.{◌≡◌, ℕ, List, [], ◌∷◌, Option, Some, None, refl, sym, ap, ◌∙◌}
use Rattle.vv_gate.specs.Tree.{GateFile}
use Rattle.vv_gate.specs.declared.token.Mark.{Mark}
use Rattle.vv_gate_lex.specs.Symbols.{finish, is_mark, Token}
use Rattle.vv_gate_lex.specs.Lexical.{skip, first_of, tokens}
use Rattle.vv_gate_read.specs.Machine.{Place, at_logic, after_logic, at_numeric, at_entity, at_port, after_port, at_mode, after_group, at_architecture, at_of, at_statement, at_term, at_operand, after_term, at_finish, done, State, step, Outcome, Reads, Stops, going, drive, ending_at, ending}
use Rattle.vv_gate_lex.proofs.Tokens.{tokens-first}

pub drive-takes : (s n : State) (t : Token) (ts : List Token) → step s t.symbol ≡ Some n → drive s (t ∷ ts) ≡ drive n ts
unfolding drive
drive-takes s n t ts e = ap (λ (o : Option State). going o (λ n. drive n ts) t.at) e

pub drive-stops : (s : State) (t : Token) (ts : List Token) → step s t.symbol ≡ None → drive s (t ∷ ts) ≡ Stops t.at
unfolding drive
drive-stops s t ts e = ap (λ (o : Option State). going o (λ n. drive n ts) t.at) e

-- how a reading ends at the end of the file
abbrev pub closed : Option GateFile → ℕ → Outcome
closed None at = Stops at
closed (Some f) at = Reads f

abbrev pub end_token : ℕ → Token
end_token at = record { symbol = finish; at = at }

drive-end_at : (ms : List Mark) (p : Place) (at : ℕ) → drive (record { expected = ms; place = p }) (end_token at ∷ []) ≡ closed (ending_at ms p) at
unfolding drive is_mark
drive-end_at (m ∷ ms) p at = refl
drive-end_at [] at_logic at = refl
drive-end_at [] (after_logic l) at = refl
drive-end_at [] (at_numeric l) at = refl
drive-end_at [] (at_entity c) at = refl
drive-end_at [] (at_port p) at = refl
drive-end_at [] (after_port p i) at = refl
drive-end_at [] (at_mode p i) at = refl
drive-end_at [] (after_group p g) at = refl
drive-end_at [] (at_architecture p) at = refl
drive-end_at [] (at_of p i) at = refl
drive-end_at [] (at_statement f) at = refl
drive-end_at [] (at_term c) at = refl
drive-end_at [] (at_operand c) at = refl
drive-end_at [] (after_term c t) at = refl
drive-end_at [] (at_finish f) at = refl
drive-end_at [] (done f) at = refl

-- the loop's turns, by the bytes that are left
pub takes_on : (total : ℕ) (s n : State) (t : Token) (rest more : List ℕ) (o : Outcome) → tokens total rest ≡ t ∷ tokens total more → step s t.symbol ≡ Some n → drive s (tokens total rest) ≡ o → drive n (tokens total more) ≡ o
takes_on total s n t rest more o split takes so_far = sym (drive-takes s n t (tokens total more) takes) ∙ (ap (drive s) (sym split) ∙ so_far)

pub stops_on : (total : ℕ) (s : State) (t : Token) (rest more : List ℕ) (o : Outcome) → tokens total rest ≡ t ∷ tokens total more → step s t.symbol ≡ None → drive s (tokens total rest) ≡ o → o ≡ Stops t.at
stops_on total s t rest more o split stops so_far = sym so_far ∙ (ap (drive s) split ∙ drive-stops s t (tokens total more) stops)

pub ends_on : (total : ℕ) (s : State) (rest : List ℕ) (o : Outcome) → skip rest ≡ [] → drive s (tokens total rest) ≡ o → o ≡ closed (ending s) total
ends_on total s rest o none so_far = sym so_far ∙ (ap (drive s) (tokens-first total rest ∙ ap (first_of (tokens total) total) none) ∙ drive-end_at s.expected s.place total)
