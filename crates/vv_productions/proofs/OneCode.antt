-- Terminals of one code are one.
use Rattle.std.proofs.Common.{◌≡◌, inl, inr, ℕ, ◌+◌, ◌<◌, Bool, true, false, ◌||◌, nat_eq, List, [], ◌∷◌, refl, arith}
use Rattle.std.proofs.lemmas.Bool.{false≢true, eqb-true, eq-eqb, or_cases}
use Rattle.vv_grammar.specs.declared.terminal.Terminal.{Terminal}
use Rattle.vv_grammar.specs.declared.terminal.Terminal.TheVariants as the
use Rattle.vv_grammar.specs.Terminals.{same, contains}
use denote.Enum.Declared.{tag_of}
use Rattle.vv_vlex.specs.declared.sign.Sign.{Sign}
use Rattle.vv_vlex.specs.declared.sign.Sign.TheVariants as sign
use Rattle.vv_vlex.specs.contracts.word.Word as w
use Rattle.vv_vlex.specs.contracts.sign.Sign as s
use Rattle.vv_grammar_laws.proofs.Codes.{code, codes, has}

few-signs : (a : Sign) → tag_of s.the_type a < 30
few-signs sign.Semicolon = omega arith
few-signs sign.Comma = omega arith
few-signs sign.Dot = omega arith
few-signs sign.Open = omega arith
few-signs sign.Close = omega arith
few-signs sign.Colon = omega arith
few-signs sign.Becomes = omega arith
few-signs sign.Unconstrained = omega arith
few-signs sign.LessEqual = omega arith
few-signs sign.Arrow = omega arith
few-signs sign.Bar = omega arith
few-signs sign.Equal = omega arith
few-signs sign.NotEqual = omega arith
few-signs sign.Less = omega arith
few-signs sign.Greater = omega arith
few-signs sign.GreaterEqual = omega arith
few-signs sign.Plus = omega arith
few-signs sign.Minus = omega arith
few-signs sign.Ampersand = omega arith
few-signs sign.Star = omega arith
few-signs sign.Slash = omega arith
few-signs sign.StarStar = omega arith
few-signs sign.Tick = omega arith

code-same : (a b : Terminal) → code a ≡ code b → same a b ≡ true
code-same the.Id the.Id h = refl
code-same the.Id the.Int h = let k : ◌≡◌ {A = ℕ} (0) (1) = h in absurd (omega arith)
code-same the.Id the.Char h = let k : ◌≡◌ {A = ℕ} (0) (2) = h in absurd (omega arith)
code-same the.Id the.Str h = let k : ◌≡◌ {A = ℕ} (0) (3) = h in absurd (omega arith)
code-same the.Id the.BitStr h = let k : ◌≡◌ {A = ℕ} (0) (4) = h in absurd (omega arith)
code-same the.Id the.End h = let k : ◌≡◌ {A = ℕ} (0) (5) = h in absurd (omega arith)
code-same the.Id (the.Mark b) h = let k : ◌≡◌ {A = ℕ} (0) (10 + tag_of s.the_type b) = h in absurd (omega arith)
code-same the.Id (the.Key b) h = let k : ◌≡◌ {A = ℕ} (0) (40 + tag_of w.the_type b) = h in absurd (omega arith)
code-same the.Int the.Id h = let k : ◌≡◌ {A = ℕ} (1) (0) = h in absurd (omega arith)
code-same the.Int the.Int h = refl
code-same the.Int the.Char h = let k : ◌≡◌ {A = ℕ} (1) (2) = h in absurd (omega arith)
code-same the.Int the.Str h = let k : ◌≡◌ {A = ℕ} (1) (3) = h in absurd (omega arith)
code-same the.Int the.BitStr h = let k : ◌≡◌ {A = ℕ} (1) (4) = h in absurd (omega arith)
code-same the.Int the.End h = let k : ◌≡◌ {A = ℕ} (1) (5) = h in absurd (omega arith)
code-same the.Int (the.Mark b) h = let k : ◌≡◌ {A = ℕ} (1) (10 + tag_of s.the_type b) = h in absurd (omega arith)
code-same the.Int (the.Key b) h = let k : ◌≡◌ {A = ℕ} (1) (40 + tag_of w.the_type b) = h in absurd (omega arith)
code-same the.Char the.Id h = let k : ◌≡◌ {A = ℕ} (2) (0) = h in absurd (omega arith)
code-same the.Char the.Int h = let k : ◌≡◌ {A = ℕ} (2) (1) = h in absurd (omega arith)
code-same the.Char the.Char h = refl
code-same the.Char the.Str h = let k : ◌≡◌ {A = ℕ} (2) (3) = h in absurd (omega arith)
code-same the.Char the.BitStr h = let k : ◌≡◌ {A = ℕ} (2) (4) = h in absurd (omega arith)
code-same the.Char the.End h = let k : ◌≡◌ {A = ℕ} (2) (5) = h in absurd (omega arith)
code-same the.Char (the.Mark b) h = let k : ◌≡◌ {A = ℕ} (2) (10 + tag_of s.the_type b) = h in absurd (omega arith)
code-same the.Char (the.Key b) h = let k : ◌≡◌ {A = ℕ} (2) (40 + tag_of w.the_type b) = h in absurd (omega arith)
code-same the.Str the.Id h = let k : ◌≡◌ {A = ℕ} (3) (0) = h in absurd (omega arith)
code-same the.Str the.Int h = let k : ◌≡◌ {A = ℕ} (3) (1) = h in absurd (omega arith)
code-same the.Str the.Char h = let k : ◌≡◌ {A = ℕ} (3) (2) = h in absurd (omega arith)
code-same the.Str the.Str h = refl
code-same the.Str the.BitStr h = let k : ◌≡◌ {A = ℕ} (3) (4) = h in absurd (omega arith)
code-same the.Str the.End h = let k : ◌≡◌ {A = ℕ} (3) (5) = h in absurd (omega arith)
code-same the.Str (the.Mark b) h = let k : ◌≡◌ {A = ℕ} (3) (10 + tag_of s.the_type b) = h in absurd (omega arith)
code-same the.Str (the.Key b) h = let k : ◌≡◌ {A = ℕ} (3) (40 + tag_of w.the_type b) = h in absurd (omega arith)
code-same the.BitStr the.Id h = let k : ◌≡◌ {A = ℕ} (4) (0) = h in absurd (omega arith)
code-same the.BitStr the.Int h = let k : ◌≡◌ {A = ℕ} (4) (1) = h in absurd (omega arith)
code-same the.BitStr the.Char h = let k : ◌≡◌ {A = ℕ} (4) (2) = h in absurd (omega arith)
code-same the.BitStr the.Str h = let k : ◌≡◌ {A = ℕ} (4) (3) = h in absurd (omega arith)
code-same the.BitStr the.BitStr h = refl
code-same the.BitStr the.End h = let k : ◌≡◌ {A = ℕ} (4) (5) = h in absurd (omega arith)
code-same the.BitStr (the.Mark b) h = let k : ◌≡◌ {A = ℕ} (4) (10 + tag_of s.the_type b) = h in absurd (omega arith)
code-same the.BitStr (the.Key b) h = let k : ◌≡◌ {A = ℕ} (4) (40 + tag_of w.the_type b) = h in absurd (omega arith)
code-same the.End the.Id h = let k : ◌≡◌ {A = ℕ} (5) (0) = h in absurd (omega arith)
code-same the.End the.Int h = let k : ◌≡◌ {A = ℕ} (5) (1) = h in absurd (omega arith)
code-same the.End the.Char h = let k : ◌≡◌ {A = ℕ} (5) (2) = h in absurd (omega arith)
code-same the.End the.Str h = let k : ◌≡◌ {A = ℕ} (5) (3) = h in absurd (omega arith)
code-same the.End the.BitStr h = let k : ◌≡◌ {A = ℕ} (5) (4) = h in absurd (omega arith)
code-same the.End the.End h = refl
code-same the.End (the.Mark b) h = let k : ◌≡◌ {A = ℕ} (5) (10 + tag_of s.the_type b) = h in absurd (omega arith)
code-same the.End (the.Key b) h = let k : ◌≡◌ {A = ℕ} (5) (40 + tag_of w.the_type b) = h in absurd (omega arith)
code-same (the.Mark a) the.Id h = let k : ◌≡◌ {A = ℕ} (10 + tag_of s.the_type a) (0) = h in absurd (omega arith)
code-same (the.Mark a) the.Int h = let k : ◌≡◌ {A = ℕ} (10 + tag_of s.the_type a) (1) = h in absurd (omega arith)
code-same (the.Mark a) the.Char h = let k : ◌≡◌ {A = ℕ} (10 + tag_of s.the_type a) (2) = h in absurd (omega arith)
code-same (the.Mark a) the.Str h = let k : ◌≡◌ {A = ℕ} (10 + tag_of s.the_type a) (3) = h in absurd (omega arith)
code-same (the.Mark a) the.BitStr h = let k : ◌≡◌ {A = ℕ} (10 + tag_of s.the_type a) (4) = h in absurd (omega arith)
code-same (the.Mark a) the.End h = let k : ◌≡◌ {A = ℕ} (10 + tag_of s.the_type a) (5) = h in absurd (omega arith)
code-same (the.Mark a) (the.Mark b) h = let k : 10 + tag_of s.the_type a ≡ 10 + tag_of s.the_type b = h in eq-eqb (tag_of s.the_type a) (tag_of s.the_type b) (omega arith)
code-same (the.Mark a) (the.Key b) h = let k : ◌≡◌ {A = ℕ} (10 + tag_of s.the_type a) (40 + tag_of w.the_type b) = h in let f = few-signs a in absurd (omega arith)
code-same (the.Key a) the.Id h = let k : ◌≡◌ {A = ℕ} (40 + tag_of w.the_type a) (0) = h in absurd (omega arith)
code-same (the.Key a) the.Int h = let k : ◌≡◌ {A = ℕ} (40 + tag_of w.the_type a) (1) = h in absurd (omega arith)
code-same (the.Key a) the.Char h = let k : ◌≡◌ {A = ℕ} (40 + tag_of w.the_type a) (2) = h in absurd (omega arith)
code-same (the.Key a) the.Str h = let k : ◌≡◌ {A = ℕ} (40 + tag_of w.the_type a) (3) = h in absurd (omega arith)
code-same (the.Key a) the.BitStr h = let k : ◌≡◌ {A = ℕ} (40 + tag_of w.the_type a) (4) = h in absurd (omega arith)
code-same (the.Key a) the.End h = let k : ◌≡◌ {A = ℕ} (40 + tag_of w.the_type a) (5) = h in absurd (omega arith)
code-same (the.Key a) (the.Mark b) h = let k : ◌≡◌ {A = ℕ} (40 + tag_of w.the_type a) (10 + tag_of s.the_type b) = h in let f = few-signs b in absurd (omega arith)
code-same (the.Key a) (the.Key b) h = let k : 40 + tag_of w.the_type a ≡ 40 + tag_of w.the_type b = h in eq-eqb (tag_of w.the_type a) (tag_of w.the_type b) (omega arith)

or-left : (x y : Bool) → x ≡ true → (x || y) ≡ true
or-left true y h = refl
or-left false y h = absurd (false≢true h)

or-right : (x y : Bool) → y ≡ true → (x || y) ≡ true
or-right true y h = refl
or-right false y h = h

pub has-contains : (ts : List Terminal) (t : Terminal) → has (codes ts) (code t) ≡ true → contains ts t ≡ true
has-contains [] t h = absurd (false≢true h)
has-contains (x ∷ ts) t h = elim (or_cases (nat_eq (code x) (code t)) (has (codes ts) (code t)) h) [
  | inl a ↦ or-left (same x t) (contains ts t) (code-same x t (eqb-true (code x) (code t) a))
  | inr b ↦ or-right (same x t) (contains ts t) (has-contains ts t b)
]
