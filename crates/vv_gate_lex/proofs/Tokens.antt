-- The tokens of a file do not depend on how many are looked for, where that is enough.
use Rattle.std.proofs.Common.{◌≡◌, ℕ, zero, suc, ◌<◌, ◌≤◌, ◌-◌, Bool, true, false, if◌then◌else◌, ◌==◌, ◌&&◌, ◌||◌, List, [], ◌∷◌, length, take, drop, get_or, length-drop, refl, ap, ◌∙◌, sym, arith}
use Rattle.std.proofs.Math.Seq.{take-length}
use Rattle.vv_gate.specs.Whole.{is_letter, is_digit, is_underscore, is_name_byte}
use Rattle.vv_gate_lex.specs.Symbols.{Symbol, Token}
use Rattle.vv_gate_lex.specs.Lexical.{is_alphanumeric, is_blank, is_bit, begins, name_tail, symbol_at, named, keyword, skip, skip_line, size, first_of, tokens_within, tokens}

either : (b : Bool) (x y : List ℕ) (n : ℕ) → length x ≤ n → length y ≤ n → length (if b then x else y) ≤ n
either true x y n h k = h
either false x y n h k = k

mutual
  pub skip-length : (bytes : List ℕ) → length (skip bytes) ≤ length bytes
  skip-length [] = omega arith
  skip-length (b ∷ more) =
      let here = skip-length more in
      let line = skip-length-line more in
      either (is_blank b) (skip more) (if b == 45 && begins (λ c. c == 45) more then skip_line more else (b ∷ more)) (suc (length more)) (omega arith)
      (either (b == 45 && begins (λ c. c == 45) more) (skip_line more) (b ∷ more) (suc (length more)) (omega arith) (omega arith))

  skip-length-line : (bytes : List ℕ) → length (skip_line bytes) ≤ length bytes
  skip-length-line [] = omega arith
  skip-length-line (b ∷ more) =
      let here = skip-length more in
      let line = skip-length-line more in
      either (b == 10) (skip more) (skip_line more) (suc (length more)) (omega arith) (omega arith)

one_of : (b : Bool) (m n : ℕ) → 0 < m → 0 < n → 0 < (if b then m else n)
one_of true m n h k = h
one_of false m n h k = k

pub size-some : (b : ℕ) (more : List ℕ) → 0 < size b more
size-some b more =
    let short : 0 < (if b == 60 && begins (λ c. c == 61) more then 2 else 1) = one_of (b == 60 && begins (λ c. c == 61) more) 2 1 (omega arith) (omega arith) in
    let other : 0 < (if b == 39 && is_bit more then 3 else if b == 60 && begins (λ c. c == 61) more then 2 else 1) = one_of (b == 39 && is_bit more) 3 (if b == 60 && begins (λ c. c == 61) more then 2 else 1) (omega arith) short in
    one_of (is_letter b) (suc (name_tail more)) (if b == 39 && is_bit more then 3 else if b == 60 && begins (λ c. c == 61) more then 2 else 1) (omega arith) other

pub behind-less : (b : ℕ) (more : List ℕ) → length (drop (size b more) (b ∷ more)) ≤ length more
behind-less b more = omega (arith, size-some b more, length-drop (size b more) (b ∷ more))

first-same : (f g : List ℕ → List Token) (total : ℕ) (rest : List ℕ) → ((b : ℕ) (more : List ℕ) → rest ≡ b ∷ more → f (drop (size b more) rest) ≡ g (drop (size b more) rest)) → first_of f total rest ≡ first_of g total rest
first-same f g total [] h = refl
first-same f g total (b ∷ more) h =
    ap (λ (ts : List Token). record { symbol = symbol_at (total - suc (length more)) b more; at = total - suc (length more) } ∷ ts) (h b more refl)

enough : (n m total : ℕ) (bytes : List ℕ) → length bytes < n → length bytes < m → tokens_within n total bytes ≡ tokens_within m total bytes
enough zero m total bytes h k = absurd (omega arith)
enough (suc n) zero total bytes h k = absurd (omega arith)
enough (suc n) (suc m) total bytes h k = first-same (tokens_within n total) (tokens_within m total) total (skip bytes) (λ b more e.
    let less = behind-less b more in
    let all = skip-length bytes in
    let same : length (skip bytes) ≡ suc (length more) = ap length e in
    let here : length (drop (size b more) (skip bytes)) ≤ length more = rw e less in
    enough n m total (drop (size b more) (skip bytes)) (omega arith) (omega arith))

-- the tokens are the first one and the tokens of what follows it
pub tokens-first : (total : ℕ) (bytes : List ℕ) → tokens total bytes ≡ first_of (tokens total) total (skip bytes)
unfolding tokens
tokens-first total bytes = first-same (tokens_within (length bytes) total) (tokens total) total (skip bytes) (λ b more e.
    let less = behind-less b more in
    let all = skip-length bytes in
    let same : length (skip bytes) ≡ suc (length more) = ap length e in
    let here : length (drop (size b more) (skip bytes)) ≤ length more = rw e less in
    enough (length bytes) (suc (length (drop (size b more) (skip bytes)))) total (drop (size b more) (skip bytes)) (omega arith) (omega arith))

-- a text that is the first letter and the rest of a name is the name or the word there
pub letter_symbol : (b : ℕ) (more text : List ℕ) → is_letter b ≡ true → text ≡ b ∷ take (name_tail more) more → (at : ℕ) → named (keyword text) text at ≡ symbol_at at b more
letter_symbol b more text h e at = rw (e, h) refl

all_taken : (n : ℕ) (bytes : List ℕ) → n ≡ length bytes → take n bytes ≡ bytes
all_taken n bytes e = rw e (take-length bytes)

token_at : (total : ℕ) (rest : List ℕ) (s : ℕ) (t : Symbol) → 1 ≤ length rest
    → s ≡ size (get_or rest 0 0) (take (length rest - 1) (drop 1 rest))
    → t ≡ symbol_at (total - length rest) (get_or rest 0 0) (take (length rest - 1) (drop 1 rest))
    → first_of (tokens total) total rest ≡ record { symbol = t; at = total - length rest } ∷ tokens total (take (length rest - s) (drop s rest))
token_at total [] s t some hs ht = absurd (omega arith)
token_at total (b ∷ more) s t some hs ht =
    let n : suc (length more) - 1 ≡ length more = omega arith in
    let behind : take (suc (length more) - 1) more ≡ more = all_taken (suc (length more) - 1) more n in
    let size_is : s ≡ size b more = hs ∙ ap (size b) behind in
    let symbol_is : t ≡ symbol_at (total - suc (length more)) b more = ht ∙ ap (symbol_at (total - suc (length more)) b) behind in
    let all : take (suc (length more) - s) (drop s (b ∷ more)) ≡ drop s (b ∷ more) = all_taken (suc (length more) - s) (drop s (b ∷ more)) (sym (length-drop s (b ∷ more))) in
    rw (all, symbol_is, size_is) refl

-- the first token, by the slices that the program cuts
pub token_next : (total : ℕ) (bytes rest : List ℕ) (s : ℕ) (t : Symbol) → rest ≡ skip bytes → 1 ≤ length rest
    → s ≡ size (get_or rest 0 0) (take (length rest - 1) (drop 1 rest))
    → t ≡ symbol_at (total - length rest) (get_or rest 0 0) (take (length rest - 1) (drop 1 rest))
    → tokens total bytes ≡ record { symbol = t; at = total - length rest } ∷ tokens total (take (length rest - s) (drop s rest))
token_next total bytes rest s t e some hs ht = tokens-first total bytes ∙ (ap (first_of (tokens total) total) (sym e) ∙ token_at total rest s t some hs ht)

-- a byte that goes on with a name
pub name_byte : (b : ℕ) (c : Bool) → (is_alphanumeric b || (is_underscore b && c)) ≡ true → is_name_byte b ≡ true
name_byte b c h = go (is_letter b) (is_digit b) (is_underscore b) c h
  where
    go : (l d u c : Bool) → ((l || d) || (u && c)) ≡ true → (l || (d || u)) ≡ true
    go true d u c h = refl
    go false true u c h = refl
    go false false true c h = refl
    go false false false c h = h
