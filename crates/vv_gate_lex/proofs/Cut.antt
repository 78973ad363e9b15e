-- The tokens are those of the one cut of the file into longest pieces.
use Rattle.std.proofs.Common.{◌≡◌, ◌≢◌, ℕ, zero, suc, ◌<◌, ◌≤◌, ◌+◌, ◌-◌, Bool, true, false, if◌then◌else◌, ◌==◌, ◌&&◌, ◌||◌, nat_le, List, [], ◌∷◌, ◌++◌, length, take, drop, flat_map, Option, Some, None, All, refl, sym, ap, ◌∙◌, subst, arith}
use Rattle.std.proofs.lemmas.Bool.{eqb-true, leb-true}
use Rattle.std.proofs.lemmas.List.{take-append-drop, length-take-le, length-append, take_all, take_at, drop_at, append-nil}
use Rattle.std.proofs.lemmas.List.Elements.{All-nil, All-cons, All-head, All-tail}
use Rattle.std.proofs.Math.Bool.{and-false}
use Rattle.vv_gate.specs.Whole.{is_letter}
use Rattle.vv_gate_lex.specs.Symbols.{Symbol, Token}
use Rattle.vv_gate_lex.specs.Lexical.{is_blank, is_bit, begins, name_tail, symbol_at, sign, named, keyword, skip, skip_line, size, first_of, tokens}
use Rattle.vv_gate_lex.specs.Cut.{IsNameText, Piece, blank, comment, word, arrow, zero_bit, one_bit, byte, text_of, IsPiece, IsLongest, AreLongest, symbol_for, placed_at, tokens_from, IsCutOf}
use Rattle.vv_gate_lex.proofs.Tokens.{tokens-first, size-some}
use Rattle.vv_gate_lex.proofs.Names.{name_text, tail_of_name, tail_within, tail_taken, name_tail-within}

-- a byte of a kind is not one that has no part in it
other_byte : (k b : ℕ) (p : ℕ → Bool) → p b ≡ true → p k ≡ false → (b == k) ≡ false
other_byte k b p h n = go (b == k) refl
  where
    go : (t : Bool) → (b == k) ≡ t → t ≡ false
    go true e = let same : b ≡ k = eqb-true b k e in (let f : p k ≡ true = subst (λ (x : ℕ). p x ≡ true) same h in cc)
    go false e = refl

and_left : (a b : Bool) → (a && b) ≡ true → a ≡ true
and_left true b h = refl
and_left false b h = h

and_right : (a b : Bool) → (a && b) ≡ true → b ≡ true
and_right true b h = h
and_right false b h = let z : false ≡ true = h in cc

blank_below : (b : ℕ) → is_blank b ≡ true → b ≤ 32
blank_below b h = go (b == 32) refl h
  where
    go : (t : Bool) → (b == 32) ≡ t → (t || (nat_le 9 b && nat_le b 13)) ≡ true → b ≤ 32
    go true e k = let same : b ≡ 32 = eqb-true b 32 e in omega arith
    go false e k = let below : b ≤ 13 = leb-true b 13 (and_right (nat_le 9 b) (nat_le b 13) k) in omega arith

letter_above : (b : ℕ) → is_letter b ≡ true → 97 ≤ b
letter_above b h = leb-true 97 b (and_left (nat_le 97 b) (nat_le b 122) h)

letter_not_blank : (b : ℕ) → is_letter b ≡ true → is_blank b ≡ false
letter_not_blank b h = go (is_blank b) refl
  where
    go : (t : Bool) → is_blank b ≡ t → t ≡ false
    go true e = let low = blank_below b e in (let high = letter_above b h in absurd (omega arith))
    go false e = refl

blank_not_letter : (b : ℕ) → is_blank b ≡ true → is_letter b ≡ false
blank_not_letter b h = go (is_letter b) refl
  where
    go : (t : Bool) → is_letter b ≡ t → t ≡ false
    go true e = let low = blank_below b h in (let high = letter_above b e in absurd (omega arith))
    go false e = refl

-- the bytes up to the end of the line
abbrev pub line_size : List ℕ → ℕ
line_size [] = 0
line_size (b ∷ more) = if b == 10 then 0 else suc (line_size more)

line_test : (b : ℕ) (more : List ℕ) (t : Bool) → (b == 10) ≡ t → All (λ b. b ≢ 10) (take (line_size more) more)
    → All (λ b. b ≢ 10) (take (if t then 0 else suc (line_size more)) (b ∷ more))
line_test b more true h rest = All-nil (λ (b : ℕ). b ≢ 10)
line_test b more false h rest = All-cons (λ (b : ℕ). b ≢ 10) b (take (line_size more) more) (λ e. let f : (b == 10) ≡ true = rw e refl in cc) rest

line_bytes : (bytes : List ℕ) → All (λ b. b ≢ 10) (take (line_size bytes) bytes)
line_bytes [] = All-nil (λ (b : ℕ). b ≢ 10)
line_bytes (b ∷ more) = line_test b more (b == 10) refl (line_bytes more)

line_behind : (b : ℕ) (more : List ℕ) (t : Bool) → (b == 10) ≡ t → skip_line more ≡ skip (drop (line_size more) more)
    → (if t then skip more else skip_line more) ≡ skip (drop (if t then 0 else suc (line_size more)) (b ∷ more))
line_behind b more true h k = let e : b ≡ 10 = eqb-true b 10 h in rw e refl
line_behind b more false h k = k

line_skipped : (bytes : List ℕ) → skip_line bytes ≡ skip (drop (line_size bytes) bytes)
line_skipped [] = refl
line_skipped (b ∷ more) = line_behind b more (b == 10) refl (line_skipped more)

line_counted : (t : Bool) (n k : ℕ) → t ≡ false → n ≤ k → suc n ≤ (if t then 0 else suc k)
line_counted true n k h l = cc
line_counted false n k h l = omega arith

not_ten : (b : ℕ) → b ≢ 10 → (b == 10) ≡ false
not_ten b n = go (b == 10) refl
  where
    go : (t : Bool) → (b == 10) ≡ t → t ≡ false
    go true e = absurd (n (eqb-true b 10 e))
    go false e = refl

line_long : (line more : List ℕ) → All (λ b. b ≢ 10) line → length line ≤ line_size (line ++ more)
line_long [] more h = omega arith
line_long (b ∷ line) more h =
    line_counted (b == 10) (length line) (line_size (line ++ more)) (not_ten b (All-head (λ (b : ℕ). b ≢ 10) b line h)) (line_long line more (All-tail (λ (b : ℕ). b ≢ 10) b line h))

line_within : (bytes : List ℕ) → line_size bytes ≤ length bytes
line_within [] = omega arith
line_within (b ∷ more) = go (b == 10) (line_within more)
  where
    go : (t : Bool) → line_size more ≤ length more → (if t then 0 else suc (line_size more)) ≤ suc (length more)
    go true h = omega arith
    go false h = omega arith

-- the length of the longest piece
abbrev pub reach : List ℕ → ℕ
reach [] = 0
reach (b ∷ more) = if b == 45 && begins (λ c. c == 45) more then suc (line_size more) else size b more

reach_some : (b : ℕ) (more : List ℕ) → 1 ≤ reach (b ∷ more)
reach_some b more = go (b == 45 && begins (λ c. c == 45) more) (size-some b more)
  where
    go : (t : Bool) → 0 < size b more → 1 ≤ (if t then suc (line_size more) else size b more)
    go true h = omega arith
    go false h = omega arith

word_longest : (text more : List ℕ) → IsNameText text → length text ≤ reach (text ++ more)
word_longest [] more h = absurd h.name
word_longest (b ∷ t) more h =
    let letter : is_letter b ≡ true = h.name.0 in
    let dash : (b == 45) ≡ false = other_byte 45 b is_letter letter refl in
    let tail = tail_within t more (tail_of_name b t h) in
    let far : suc (length t) ≤ suc (name_tail (t ++ more)) = omega arith in
    rw (dash, letter) far

-- no piece is longer than what the lexer takes
longest : (q : Piece) (more : List ℕ) → IsPiece q → length (text_of q) ≤ reach (text_of q ++ more)
longest (blank b) more h = reach_some b more
longest (comment line) more h = let far = line_long line more h in omega arith
longest (word text) more h = word_longest text more h
longest arrow more h = omega arith
longest zero_bit more h = omega arith
longest one_bit more h = omega arith
longest (byte b) more h = reach_some b more

-- bytes near the end of a file, and their cut
pub record Cuts (total : ℕ) (bytes : List ℕ) : Type 0 where
  pub pieces : List Piece
  pub whole : flat_map text_of pieces ≡ bytes
  pub longest : AreLongest pieces
  pub tokens : tokens_from (total - length bytes) pieces ≡ tokens total bytes

longest_here : (p : Piece) (bytes : List ℕ) → length (text_of p) ≡ reach bytes → IsLongest p bytes
longest_here p bytes size q more h e =
    let far : length (text_of q) ≤ reach (text_of q ++ more) = longest q more h in
    let same : reach bytes ≡ reach (text_of q ++ more) = ap reach e in
    omega arith

-- one more piece in front
one_more : (total : ℕ) (bytes rest : List ℕ) (p : Piece) → length bytes ≤ total → IsPiece p → bytes ≡ text_of p ++ rest → length (text_of p) ≡ reach bytes
    → placed_at (total - length bytes) (symbol_for (total - length bytes) p) (tokens total rest) ≡ tokens total bytes
    → Cuts total rest → Cuts total bytes
one_more total bytes rest p within kind e size first c =
    let at = total - length bytes in
    let whole : text_of p ++ flat_map text_of c.pieces ≡ bytes = ap (λ (k : List ℕ). text_of p ++ k) c.whole ∙ sym e in
    let next : at + length (text_of p) ≡ total - length rest = (let sum : length bytes ≡ length (text_of p) + length rest = ap length e ∙ length-append (text_of p) rest in omega arith) in
    record {
      pieces = p ∷ c.pieces;
      whole = whole;
      longest = (kind, (subst (IsLongest p) (sym whole) (longest_here p bytes size), c.longest));
      tokens = ap (λ (n : ℕ). placed_at at (symbol_for at p) (tokens_from n c.pieces)) next ∙ (ap (placed_at at (symbol_for at p)) c.tokens ∙ first);
    }

-- what is skipped changes no token
skipped : (total : ℕ) (x y : List ℕ) → skip x ≡ skip y → tokens total x ≡ tokens total y
skipped total x y e = tokens-first total x ∙ (ap (first_of (tokens total) total) e ∙ sym (tokens-first total y))

blank_here : (total b : ℕ) (more : List ℕ) → suc (length more) ≤ total → is_blank b ≡ true → Cuts total more → Cuts total (b ∷ more)
blank_here total b more within h c =
    let letter : is_letter b ≡ false = blank_not_letter b h in
    let dash : (b == 45) ≡ false = other_byte 45 b is_blank h refl in
    let quote : (b == 39) ≡ false = other_byte 39 b is_blank h refl in
    let less : (b == 60) ≡ false = other_byte 60 b is_blank h refl in
    let one : 1 ≡ reach (b ∷ more) = rw (dash, letter, quote, less) refl in
    let same : skip more ≡ skip (b ∷ more) = rw h refl in
    one_more total (b ∷ more) more (blank b) within h refl one (skipped total more (b ∷ more) same) c

comment_here : (total : ℕ) (rest : List ℕ) → suc (suc (length rest)) ≤ total → Cuts total (drop (line_size rest) rest) → Cuts total (45 ∷ 45 ∷ rest)
comment_here total rest within c =
    let n = line_size rest in
    let split : rest ≡ take n rest ++ drop n rest = sym (take-append-drop n rest) in
    let long : length (take n rest) ≡ n = length-take-le n rest (line_within rest) in
    let same : skip (drop n rest) ≡ skip (45 ∷ 45 ∷ rest) = sym (line_skipped rest) in
    one_more total (45 ∷ 45 ∷ rest) (drop n rest) (comment (take n rest)) within (line_bytes rest) (ap (λ (k : List ℕ). 45 ∷ 45 ∷ k) split) (ap (λ (k : ℕ). suc (suc k)) long)
    (skipped total (drop n rest) (45 ∷ 45 ∷ rest) same) c

-- a token's piece
token_here : (total b : ℕ) (more : List ℕ) (p : Piece) (rest : List ℕ) → suc (length more) ≤ total → skip (b ∷ more) ≡ b ∷ more → IsPiece p → b ∷ more ≡ text_of p ++ rest
    → length (text_of p) ≡ size b more → length (text_of p) ≡ reach (b ∷ more)
    → symbol_for (total - suc (length more)) p ≡ Some (symbol_at (total - suc (length more)) b more) → Cuts total rest → Cuts total (b ∷ more)
token_here total b more p rest within stays kind e taken far symbol c =
    let at = total - suc (length more) in
    let behind : drop (size b more) (b ∷ more) ≡ rest = ap (drop (size b more)) e ∙ drop_at (text_of p) rest (size b more) taken in
    let first : tokens total (b ∷ more) ≡ record { symbol = symbol_at at b more; at = at } ∷ tokens total (drop (size b more) (b ∷ more)) =
    tokens-first total (b ∷ more) ∙ ap (first_of (tokens total) total) stays in
    let told : placed_at at (symbol_for at p) (tokens total rest) ≡ record { symbol = symbol_at at b more; at = at } ∷ tokens total rest = ap (λ (s : Option Symbol). placed_at at s (tokens total rest)) symbol in
    let last : tokens total (drop (size b more) (b ∷ more)) ≡ tokens total rest = ap (tokens total) behind in
    one_more total (b ∷ more) rest p within kind e far
    (told ∙ (ap (λ (ts : List Token). record { symbol = symbol_at at b more; at = at } ∷ ts) (sym last) ∙ sym first)) c

word_here : (total b : ℕ) (more : List ℕ) → suc (length more) ≤ total → is_letter b ≡ true → Cuts total (drop (name_tail more) more) → Cuts total (b ∷ more)
word_here total b more within h c =
    let n = name_tail more in
    let white : is_blank b ≡ false = letter_not_blank b h in
    let dash : (b == 45) ≡ false = other_byte 45 b is_letter h refl in
    let stays : skip (b ∷ more) ≡ b ∷ more = rw (white, dash) refl in
    let split : b ∷ more ≡ (b ∷ take n more) ++ drop n more = ap (λ (k : List ℕ). b ∷ k) (sym (take-append-drop n more)) in
    let long : suc (length (take n more)) ≡ suc n = ap suc (length-take-le n more (name_tail-within more)) in
    let taken : suc (length (take n more)) ≡ size b more = long ∙ rw h refl in
    let far : suc (length (take n more)) ≡ reach (b ∷ more) = long ∙ rw (dash, h) refl in
    let at = total - suc (length more) in
    let text = b ∷ take n more in
    let symbol : Some (named (keyword text) text at) ≡ Some (symbol_at at b more) = rw h refl in
    token_here total b more (word text) (drop n more) within stays (name_text b (take n more) h (tail_taken more)) split taken far symbol c

zero_here : (total : ℕ) (rest : List ℕ) → suc (suc (suc (length rest))) ≤ total → Cuts total rest → Cuts total (39 ∷ 48 ∷ 39 ∷ rest)
zero_here total rest within c = token_here total 39 (48 ∷ 39 ∷ rest) zero_bit rest within refl tt refl refl refl refl c

one_here : (total : ℕ) (rest : List ℕ) → suc (suc (suc (length rest))) ≤ total → Cuts total rest → Cuts total (39 ∷ 49 ∷ 39 ∷ rest)
one_here total rest within c = token_here total 39 (49 ∷ 39 ∷ rest) one_bit rest within refl tt refl refl refl refl c

arrow_here : (total : ℕ) (rest : List ℕ) → suc (suc (length rest)) ≤ total → Cuts total rest → Cuts total (60 ∷ 61 ∷ rest)
arrow_here total rest within c = token_here total 60 (61 ∷ rest) arrow rest within refl tt refl refl refl refl c

-- what is left is cut too
abbrev pub Rest : ℕ → List ℕ → Type 0
Rest total more = (rest : List ℕ) → length rest ≤ length more → Cuts total rest

byte_here : (total b : ℕ) (more : List ℕ) → suc (length more) ≤ total → is_blank b ≡ false → is_letter b ≡ false
    → (b == 45 && begins (λ c. c == 45) more) ≡ false → (b == 39 && is_bit more) ≡ false → (b == 60 && begins (λ c. c == 61) more) ≡ false
    → Cuts total more → Cuts total (b ∷ more)
byte_here total b more within white letter dash bit less c =
    let stays : skip (b ∷ more) ≡ b ∷ more = rw (white, dash) refl in
    let taken : 1 ≡ size b more = rw (letter, bit, less) refl in
    let far : 1 ≡ reach (b ∷ more) = rw (dash, letter, bit, less) refl in
    let at = total - suc (length more) in
    let symbol : Some (sign b) ≡ Some (symbol_at at b more) = rw (letter, bit, less) refl in
    token_here total b more (byte b) more within stays (white, letter) refl taken far symbol c

comment_at : (total b : ℕ) (more : List ℕ) → suc (length more) ≤ total → (b == 45 && begins (λ c. c == 45) more) ≡ true → Rest total more → Cuts total (b ∷ more)
comment_at total b [] within h c = let e : begins (λ c. c == 45) [] ≡ true = and_right (b == 45) false h in cc
comment_at total b (d ∷ rest) within h c =
    let first : b ≡ 45 = eqb-true b 45 (and_left (b == 45) (d == 45) h) in
    let second : d ≡ 45 = eqb-true d 45 (and_right (b == 45) (d == 45) h) in
    let both : 45 ∷ 45 ∷ rest ≡ b ∷ d ∷ rest = cc in
    let less : length (drop (line_size rest) rest) ≤ suc (length rest) = omega (arith, length-append (take (line_size rest) rest) (drop (line_size rest) rest), ap length (take-append-drop (line_size rest) rest)) in
    subst (Cuts total) both (comment_here total rest within (c (drop (line_size rest) rest) less))

arrow_at : (total b : ℕ) (more : List ℕ) → suc (length more) ≤ total → (b == 60 && begins (λ c. c == 61) more) ≡ true → Rest total more → Cuts total (b ∷ more)
arrow_at total b [] within h c = let e : false ≡ true = and_right (b == 60) false h in cc
arrow_at total b (d ∷ rest) within h c =
    let first : b ≡ 60 = eqb-true b 60 (and_left (b == 60) (d == 61) h) in
    let second : d ≡ 61 = eqb-true d 61 (and_right (b == 60) (d == 61) h) in
    let both : 60 ∷ 61 ∷ rest ≡ b ∷ d ∷ rest = cc in
    subst (Cuts total) both (arrow_here total rest within (c rest (omega arith)))

bit_at : (total b : ℕ) (more : List ℕ) → suc (length more) ≤ total → (b == 39 && is_bit more) ≡ true → Rest total more → Cuts total (b ∷ more)
bit_at total b [] within h c = let e : false ≡ true = and_right (b == 39) false h in cc
bit_at total b (d ∷ []) within h c = let e : false ≡ true = and_right (d == 48 || d == 49) false (and_right (b == 39) (is_bit (d ∷ [])) h) in cc
bit_at total b (d ∷ f ∷ rest) within h c = go (d == 48) refl digit
  where
    inner : (is_bit (d ∷ f ∷ rest)) ≡ true
    inner = and_right (b == 39) (is_bit (d ∷ f ∷ rest)) h

    digit : (d == 48 || d == 49) ≡ true
    digit = and_left (d == 48 || d == 49) (f == 39) inner

    first : b ≡ 39
    first = eqb-true b 39 (and_left (b == 39) (is_bit (d ∷ f ∷ rest)) h)

    third : f ≡ 39
    third = eqb-true f 39 (and_right (d == 48 || d == 49) (f == 39) inner)

    go : (t : Bool) → (d == 48) ≡ t → (t || d == 49) ≡ true → Cuts total (b ∷ d ∷ f ∷ rest)
    go true e k =
        let second : d ≡ 48 = eqb-true d 48 e in
        let a : b ≡ 39 = first in
        let z : f ≡ 39 = third in
        let all : 39 ∷ 48 ∷ 39 ∷ rest ≡ b ∷ d ∷ f ∷ rest = cc in
        subst (Cuts total) all (zero_here total rest within (c rest (omega arith)))
    go false e k =
        let second : d ≡ 49 = eqb-true d 49 k in
        let a : b ≡ 39 = first in
        let z : f ≡ 39 = third in
        let all : 39 ∷ 49 ∷ 39 ∷ rest ≡ b ∷ d ∷ f ∷ rest = cc in
        subst (Cuts total) all (one_here total rest within (c rest (omega arith)))

cut_here : (total b : ℕ) (more : List ℕ) → suc (length more) ≤ total → Rest total more
    → (white dash letter bit less : Bool) → is_blank b ≡ white → (b == 45 && begins (λ c. c == 45) more) ≡ dash → is_letter b ≡ letter
    → (b == 39 && is_bit more) ≡ bit → (b == 60 && begins (λ c. c == 61) more) ≡ less → Cuts total (b ∷ more)
cut_here total b more within c true dash letter bit less h k l m n = blank_here total b more within h (c more (omega arith))
cut_here total b more within c false true letter bit less h k l m n = comment_at total b more within k c
cut_here total b more within c false false true bit less h k l m n =
    word_here total b more within l (c (drop (name_tail more) more) (omega (arith, length-append (take (name_tail more) more) (drop (name_tail more) more), ap length (take-append-drop (name_tail more) more))))
cut_here total b more within c false false false true less h k l m n = bit_at total b more within m c
cut_here total b more within c false false false false true h k l m n = arrow_at total b more within n c
cut_here total b more within c false false false false false h k l m n = byte_here total b more within h l k m n (c more (omega arith))

cut : (n total : ℕ) (bytes : List ℕ) → length bytes < n → length bytes ≤ total → Cuts total bytes
cut zero total bytes h within = absurd (omega arith)
cut (suc n) total [] h within = record { pieces = []; whole = refl; longest = tt; tokens = (let whole_file : total - 0 ≡ total = omega arith in ap (λ (n : ℕ). tokens_from n []) whole_file ∙ sym (tokens-first total [])) }
cut (suc n) total (b ∷ more) h within =
    cut_here total b more within (λ rest less. cut n total rest (omega arith) (omega arith))
    (is_blank b) (b == 45 && begins (λ c. c == 45) more) (is_letter b) (b == 39 && is_bit more) (b == 60 && begins (λ c. c == 61) more) refl refl refl refl refl

-- the tokens of a file are those of a cut
pub cut_of : (bytes : List ℕ) → IsCutOf bytes (tokens (length bytes) bytes)
cut_of bytes =
    let c = cut (suc (length bytes)) (length bytes) bytes (omega arith) (omega arith) in
    let start : length bytes - length bytes ≡ 0 = omega arith in
    record { pieces = c.pieces; whole = c.whole; longest = c.longest; tokens = subst (λ (n : ℕ). tokens_from n c.pieces ≡ tokens (length bytes) bytes) start c.tokens }

-- the symbol of the piece that has this text
abbrev pub symbol_in : ℕ → List ℕ → Option Symbol
symbol_in at [] = None
symbol_in at (b ∷ more) = if is_blank b then None else if b == 45 && begins (λ c. c == 45) more then None else Some (symbol_at at b more)

word_symbol : (at : ℕ) (text : List ℕ) → IsNameText text → Some (named (keyword text) text at) ≡ symbol_in at text
word_symbol at [] h = absurd h.name
word_symbol at (b ∷ t) h =
    let letter : is_letter b ≡ true = h.name.0 in
    let white : is_blank b ≡ false = letter_not_blank b letter in
    let dash : (b == 45) ≡ false = other_byte 45 b is_letter letter refl in
    let long : length t ≤ name_tail t = subst (λ (k : List ℕ). length t ≤ name_tail k) (append-nil t) (tail_within t [] (tail_of_name b t h)) in
    let all : take (name_tail t) t ≡ t = take_all (name_tail t) t long in
    rw (white, dash, letter, all) refl

byte_symbol : (at b : ℕ) → is_blank b ≡ false → is_letter b ≡ false → Some (sign b) ≡ symbol_in at (b ∷ [])
byte_symbol at b h k = rw (h, and-false (b == 45), k, and-false (b == 39), and-false (b == 60)) refl

piece_symbol : (at : ℕ) (p : Piece) → IsPiece p → symbol_for at p ≡ symbol_in at (text_of p)
piece_symbol at (blank b) h = rw h refl
piece_symbol at (comment line) h = refl
piece_symbol at (word text) h = word_symbol at text h
piece_symbol at arrow h = refl
piece_symbol at zero_bit h = refl
piece_symbol at one_bit h = refl
piece_symbol at (byte b) h = byte_symbol at b h.0 h.1

piece_some : (p : Piece) → IsPiece p → 0 < length (text_of p)
piece_some (blank b) h = omega arith
piece_some (comment line) h = omega arith
piece_some (word []) h = absurd h.name
piece_some (word (b ∷ t)) h = omega arith
piece_some arrow h = omega arith
piece_some zero_bit h = omega arith
piece_some one_bit h = omega arith
piece_some (byte b) h = omega arith

same_tokens : (at : ℕ) (ps qs : List Piece) → AreLongest ps → AreLongest qs → flat_map text_of ps ≡ flat_map text_of qs → tokens_from at ps ≡ tokens_from at qs
same_tokens at [] [] h k e = refl
same_tokens at [] (q ∷ qs) h k e =
    let some = piece_some q k.0 in
    let none : 0 ≡ length (text_of q) + length (flat_map text_of qs) = ap length e ∙ length-append (text_of q) (flat_map text_of qs) in
    absurd (omega arith)
same_tokens at (p ∷ ps) [] h k e =
    let some = piece_some p h.0 in
    let none : length (text_of p) + length (flat_map text_of ps) ≡ 0 = sym (length-append (text_of p) (flat_map text_of ps)) ∙ ap length e in
    absurd (omega arith)
same_tokens at (p ∷ ps) (q ∷ qs) h k e =
    let left : length (text_of q) ≤ length (text_of p) = h.1.0 q (flat_map text_of qs) k.0 e in
    let right : length (text_of p) ≤ length (text_of q) = k.1.0 p (flat_map text_of ps) h.0 (sym e) in
    let same : length (text_of p) ≡ length (text_of q) = omega arith in
    let text : text_of p ≡ text_of q =
    sym (take_at (text_of p) (flat_map text_of ps) (length (text_of q)) same) ∙ (ap (take (length (text_of q))) e ∙ take_at (text_of q) (flat_map text_of qs) (length (text_of q)) refl) in
    let behind : flat_map text_of ps ≡ flat_map text_of qs =
    sym (drop_at (text_of p) (flat_map text_of ps) (length (text_of q)) same) ∙ (ap (drop (length (text_of q))) e ∙ drop_at (text_of q) (flat_map text_of qs) (length (text_of q)) refl) in
    let symbol : symbol_for at p ≡ symbol_for at q = piece_symbol at p h.0 ∙ (ap (symbol_in at) text ∙ sym (piece_symbol at q k.0)) in
    let next : tokens_from (at + length (text_of p)) ps ≡ tokens_from (at + length (text_of q)) qs =
    same_tokens (at + length (text_of p)) ps qs h.1.1 k.1.1 behind ∙ ap (λ (n : ℕ). tokens_from (at + n) qs) same in
    ap (λ (s : Option Symbol). placed_at at s (tokens_from (at + length (text_of p)) ps)) symbol ∙ ap (placed_at at (symbol_for at q)) next

-- a file has the tokens of one cut alone
pub only_cut : (bytes : List ℕ) (ts : List Token) → IsCutOf bytes ts → ts ≡ tokens (length bytes) bytes
only_cut bytes ts c =
    let d = cut_of bytes in
    sym c.tokens ∙ (same_tokens 0 c.pieces d.pieces c.longest d.longest (c.whole ∙ sym d.whole) ∙ d.tokens)
