-- A piece that stands somewhere is the longest one there, or the longest one is longer.
use Rattle.std.proofs.Common.{◌≡◌, ◌≢◌, ℕ, suc, ◌<◌, ◌≤◌, ◌-◌, Bool, true, false, if◌then◌else◌, ◌==◌, ◌&&◌, ◌||◌, nat_lt, nat_le, ◌⊎◌, inl, inr, List, [], ◌∷◌, ◌++◌, length, take, All, Option, Some, None, option_map, refl, sym, ap, ◌∙◌, subst, append_assoc, arith}
use Rattle.std.proofs.lemmas.Bool.{eqb-true, leb-true}
use Rattle.std.proofs.lemmas.List.{length-take-le, length-append, take_at}
use Rattle.std.proofs.lemmas.List.Elements.{All-head, All-tail}
use Rattle.vv_vlex.specs.declared.class.Class.{Class}
use Rattle.vv_vlex.specs.declared.class.Class.TheVariants.{Alphanumeric, Binary, Octal, Hexadecimal}
use Rattle.vv_vlex.specs.declared.sign.Sign.{Sign}
use Rattle.vv_vlex.specs.declared.sign.Sign.TheVariants as sn
use Rattle.vv_vlex.specs.Bytes.{is_letter, is_digit, is_blank, is_printable, begins, has, tail}
use Rattle.vv_vlex.specs.Elements.{undoubled}
use Rattle.vv_vlex.specs.Quoted.{closed, class_of}
use Rattle.vv_vlex.specs.Pieces.{blanks, line, double_sign, single_sign}
use Rattle.vv_vlex_laws.specs.Cut.{IsGrouped, Piece, space, comment, name, decimal, based, character, string, bits, mark, sign_text, doubled, quoted, text_of, IsPiece}
use Rattle.vv_vlex_laws.proofs.Grouped.{group_of, Tail, tail_within, tail-within}
use Rattle.vv_vlex_laws.proofs.Strings.{closed-found, taken, undoubled-doubled}
use Rattle.vv_vlex_laws.proofs.Numbers.{number_piece}
use Rattle.vv_vlex_laws.proofs.Strings.{string_reaches}
use Rattle.vv_vlex_laws.proofs.Widest.{pick, sign_piece, string_in, bits_in, bits_quote, bits_class, word_piece, is_comment, widest, both}
use Rattle.vv_vlex_laws.proofs.Letters.{plain_byte}
use Rattle.vv_vlex_laws.proofs.Widest.{blanks-within, line-within}
use Rattle.vv_vlex_laws.specs.Cut.{exponent_text}
use Rattle.vv_vlex_laws.proofs.Signs.{double_text}
use Rattle.vv_vlex_laws.proofs.Numbers.{OrLonger, text_size, decimal_wide, based_wide}

abbrev pub widest_of : Bool → List ℕ → Option Piece
widest_of n [] = None
widest_of n (b ∷ more) = widest n b more

pub record Wide (n : Bool) (bytes : List ℕ) (q : Piece) : Type 0 where
  pub piece : Piece
  pub found : widest_of n bytes ≡ Some piece
  pub far : OrLonger text_size piece q

front_or_longer : (t more : List ℕ) (k : ℕ) → length t ≤ k → k ≤ length (t ++ more) → (take k (t ++ more) ≡ t) ⊎ (length t < length (take k (t ++ more)))
front_or_longer t more k least most =
    let long : length (take k (t ++ more)) ≡ k = length-take-le k (t ++ more) most in
    elim (nat_lt (length t) k) as (λ (u : Bool). nat_lt (length t) k ≡ u → (take k (t ++ more) ≡ t) ⊎ (length t < length (take k (t ++ more)))) [
      | true ↦ λ e. let less : length t < k = search (arith, e) in inr (omega arith)
      | false ↦ λ e. let same : length t ≡ k = (let no : k ≤ length t = search (arith, e) in omega arith) in inl (take_at t more k same)
    ] refl

counted : (t : Bool) (n k : ℕ) → t ≡ true → n ≤ k → suc n ≤ (if t then suc k else 0)
counted true n k h l = omega arith
counted false n k h l = cc

blanks_least : (t more : List ℕ) → All (λ b. is_blank b ≡ true) t → length t ≤ blanks (t ++ more)
blanks_least [] more a = omega arith
blanks_least (b ∷ t) more a =
    counted (is_blank b) (length t) (blanks (t ++ more)) (All-head (λ (b : ℕ). is_blank b ≡ true) b t a) (blanks_least t more (All-tail (λ (b : ℕ). is_blank b ≡ true) b t a))

not_ten : (b : ℕ) → b ≢ 10 → (b == 10) ≡ false
not_ten b n = go (b == 10) refl
  where
    go : (t : Bool) → (b == 10) ≡ t → t ≡ false
    go true e = absurd (n (eqb-true b 10 e))
    go false e = refl

line_counted : (t : Bool) (n k : ℕ) → t ≡ false → n ≤ k → suc n ≤ (if t then 0 else suc k)
line_counted true n k h l = cc
line_counted false n k h l = omega arith

line_least : (t more : List ℕ) → All (λ b. b ≢ 10) t → length t ≤ line (t ++ more)
line_least [] more a = omega arith
line_least (b ∷ t) more a =
    line_counted (b == 10) (length t) (line (t ++ more)) (not_ten b (All-head (λ (b : ℕ). b ≢ 10) b t a)) (line_least t more (All-tail (λ (b : ℕ). b ≢ 10) b t a))

-- what a byte is not, by what it is
other_byte : (k b : ℕ) (p : ℕ → Bool) → p b ≡ true → p k ≡ false → (b == k) ≡ false
other_byte k b p h n = go (b == k) refl
  where
    go : (t : Bool) → (b == k) ≡ t → t ≡ false
    go true e = let same : b ≡ k = eqb-true b k e in (let f : p k ≡ true = subst (λ (x : ℕ). p x ≡ true) same h in cc)
    go false e = refl

and_first : (a b : Bool) → a ≡ false → (a && b) ≡ false
and_first true b h = cc
and_first false b h = refl

blank_high : (b : ℕ) → is_blank b ≡ true → b ≤ 32
blank_high b h = go (b == 32) refl h
  where
    go : (t : Bool) → (b == 32) ≡ t → (t || (nat_le 9 b && nat_le b 13)) ≡ true → b ≤ 32
    go true e k = let same : b ≡ 32 = eqb-true b 32 e in omega arith
    go false e k = let p = both (nat_le 9 b) (nat_le b 13) k in let below : b ≤ 13 = leb-true b 13 p.1 in omega arith

letter_low : (b : ℕ) → is_letter b ≡ true → 65 ≤ b
letter_low b h = go (nat_le 97 b && nat_le b 122) refl h
  where
    go : (t : Bool) → (nat_le 97 b && nat_le b 122) ≡ t → (t || (nat_le 65 b && nat_le b 90)) ≡ true → 65 ≤ b
    go true e k = let p = both (nat_le 97 b) (nat_le b 122) e in let low : 97 ≤ b = leb-true 97 b p.0 in omega arith
    go false e k = let p = both (nat_le 65 b) (nat_le b 90) k in leb-true 65 b p.0

digit_range : (b : ℕ) → is_digit b ≡ true → (48 ≤ b) × (b ≤ 57)
digit_range b h = let p = both (nat_le 48 b) (nat_le b 57) h in (leb-true 48 b p.0, leb-true b 57 p.1)

not_blank : (b : ℕ) → 33 ≤ b → is_blank b ≡ false
not_blank b h = go (is_blank b) refl
  where
    go : (t : Bool) → is_blank b ≡ t → t ≡ false
    go true e = let low = blank_high b e in absurd (omega arith)
    go false e = refl

not_letter : (b : ℕ) → b ≤ 57 → is_letter b ≡ false
not_letter b h = go (is_letter b) refl
  where
    go : (t : Bool) → is_letter b ≡ t → t ≡ false
    go true e = let low = letter_low b e in absurd (omega arith)
    go false e = refl

letter_first : (b : ℕ) (more : List ℕ) → is_letter b ≡ true → (is_blank b ≡ false) × (is_comment b more ≡ false)
letter_first b more h =
    let low = letter_low b h in
    (not_blank b (omega arith), and_first (b == 45) (begins (λ c. c == 45) more) (other_byte 45 b is_letter h refl))

digit_first : (b : ℕ) (more : List ℕ) → is_digit b ≡ true → (is_blank b ≡ false) × (is_comment b more ≡ false) × (is_letter b ≡ false)
digit_first b more h =
    let range = digit_range b h in
    (not_blank b (omega (arith, range.0)), and_first (b == 45) (begins (λ c. c == 45) more) (other_byte 45 b is_digit h refl), not_letter b range.1)

widest_space : (n : Bool) (b : ℕ) (more : List ℕ) → is_blank b ≡ true → widest n b more ≡ Some (space (b ∷ take (blanks more) more))
unfolding widest
widest_space n b more h = rw h refl

space_wide : (n : Bool) (text more : List ℕ) → begins is_blank text ≡ true → All (λ b. is_blank b ≡ true) text → Wide n (text ++ more) (space text)
space_wide n [] more h a = let z : false ≡ true = h in cc
space_wide n (b ∷ t) more h a = record {
  piece = space (b ∷ take (blanks (t ++ more)) (t ++ more));
  found = widest_space n b (t ++ more) h;
  far = elim (front_or_longer t more (blanks (t ++ more)) (blanks_least t more (All-tail (λ (b : ℕ). is_blank b ≡ true) b t a)) (blanks-within (t ++ more))) [
    | inl e ↦ inl (ap (λ (z : List ℕ). space (b ∷ z)) e)
    | inr l ↦ inr (omega arith)
  ];
}

widest_comment : (n : Bool) (rest : List ℕ) → widest n 45 (45 ∷ rest) ≡ Some (comment (take (line rest) rest))
unfolding widest
widest_comment n rest = refl

comment_wide : (n : Bool) (text more : List ℕ) → All (λ b. b ≢ 10) text → Wide n ((45 ∷ 45 ∷ text) ++ more) (comment text)
comment_wide n text more a = record {
  piece = comment (take (line (text ++ more)) (text ++ more));
  found = widest_comment n (text ++ more);
  far = elim (front_or_longer text more (line (text ++ more)) (line_least text more a) (line-within (text ++ more))) [
    | inl e ↦ inl (ap comment e)
    | inr l ↦ inr (omega arith)
  ];
}

widest_letter : (n : Bool) (b : ℕ) (more : List ℕ) → is_letter b ≡ true → widest n b more ≡ Some (bits_class (class_of b) b more (word_piece b more))
unfolding widest
widest_letter n b more h = let f = letter_first b more h in let white = f.0 in let dash = f.1 in rw (white, dash, h) refl

word_wide : (b : ℕ) (t more : List ℕ) → Tail (has Alphanumeric) t → OrLonger text_size (word_piece b (t ++ more)) (name (b ∷ t))
word_wide b t more h = elim (front_or_longer t more (tail (has Alphanumeric) (t ++ more)) (tail_within (has Alphanumeric) t more h) (tail-within (has Alphanumeric) (t ++ more))) [
  | inl e ↦ inl (ap (λ (z : List ℕ). name (b ∷ z)) e)
  | inr l ↦ inr (omega arith)
]

quote_wide : (b : ℕ) (inner : List ℕ) (w : Piece) (u : Bool) (o : Option ℕ) → OrLonger text_size w (name (b ∷ [])) → (u ≡ true → closed inner ≡ o) → OrLonger text_size (bits_quote u b inner w) (name (b ∷ []))
quote_wide b inner w false o h e = h
quote_wide b inner w true None h e = let c : closed inner ≡ None = e refl in rw c h
quote_wide b inner w true (Some m) h e = let c : closed inner ≡ Some m = e refl in rw c (inr (omega arith))

-- a bit string or a word
class_wide : (b : ℕ) (t more : List ℕ) (o : Option Class) → Tail (has Alphanumeric) t → OrLonger text_size (bits_class o b (t ++ more) (word_piece b (t ++ more))) (name (b ∷ t))
class_wide b t more None h = word_wide b t more h
class_wide b [] [] (Some c) h = word_wide b [] [] h
class_wide b [] (q ∷ inner) (Some c) h = quote_wide b inner (word_piece b (q ∷ inner)) (q == 34) (closed inner) (word_wide b [] (q ∷ inner) h) (λ e. refl)
class_wide b (q ∷ t) more (Some c) h =
    let no : (q == 34) ≡ false = plain_byte (has Alphanumeric) q (begins (has Alphanumeric) t) refl h.0 in
    rw no (word_wide b (q ∷ t) more h)

name_wide : (n : Bool) (text more : List ℕ) → begins is_letter text ≡ true → IsGrouped Alphanumeric text → Wide n (text ++ more) (name text)
name_wide n [] more h g = let z : false ≡ true = h in cc
name_wide n (b ∷ t) more h g =
    let group = group_of Alphanumeric (b ∷ t) g in
    record {
      piece = bits_class (class_of b) b (t ++ more) (word_piece b (t ++ more));
      found = widest_letter n b (t ++ more) h;
      far = class_wide b t more (class_of b) group.1;
    }

widest_digit : (n : Bool) (bytes : List ℕ) → begins is_digit bytes ≡ true → widest_of n bytes ≡ Some (number_piece bytes)
unfolding widest
widest_digit n [] h = let z : false ≡ true = h in cc
widest_digit n (b ∷ more) h = let f = digit_first b more h in let white = f.0 in let dash = f.1 in let letter = f.2 in rw (white, dash, letter, h) refl

digits_begin : (digits more : List ℕ) → begins is_digit digits ≡ true → begins is_digit (digits ++ more) ≡ true
digits_begin [] more h = let z : false ≡ true = h in cc
digits_begin (b ∷ digits) more h = h

string_or_longer : (content more : List ℕ) (r : ℕ) → All (λ b. is_printable b ≡ true) content → closed (doubled content ++ (34 ∷ more)) ≡ Some r → suc (length (doubled content)) ≤ r
    → (undoubled (take (r - 1) (doubled content ++ (34 ∷ more))) ≡ content) ⊎ (length (doubled content) < length (doubled (undoubled (take (r - 1) (doubled content ++ (34 ∷ more))))))
string_or_longer content more r a e least =
    let bytes = doubled content ++ (34 ∷ more) in
    let f = closed-found bytes r e in
    let size = f.size in
    let inner : undoubled (take (r - 1) bytes) ≡ f.content = taken bytes r f in
    elim (nat_lt (suc (length (doubled content))) r) as (λ (u : Bool). nat_lt (suc (length (doubled content))) r ≡ u → (undoubled (take (r - 1) bytes) ≡ content) ⊎ (length (doubled content) < length (doubled (undoubled (take (r - 1) bytes))))) [
      | true ↦ λ h. let less : suc (length (doubled content)) < r = search (arith, h) in inr (rw inner (omega arith))
      | false ↦ λ h. let same : r - 1 ≡ length (doubled content) = (let no : r ≤ suc (length (doubled content)) = search (arith, h) in omega arith) in
          inl (ap undoubled (take_at (doubled content) (34 ∷ more) (r - 1) (sym same)) ∙ undoubled-doubled content)
    ] refl

quoted_longer : (content other : List ℕ) → length (doubled content) < length (doubled other) → length (quoted content) < length (quoted other)
quoted_longer content other h = omega (arith, length-append (doubled content) (34 ∷ []), length-append (doubled other) (34 ∷ []))

widest_quote : (n : Bool) (inner : List ℕ) → widest n 34 inner ≡ string_in (closed inner) inner
unfolding widest
widest_quote n inner = refl

pub string_wide : (n : Bool) (content more : List ℕ) → All (λ b. is_printable b ≡ true) content → Wide n (quoted content ++ more) (string content)
string_wide n content more a =
    let inner = (doubled content ++ (34 ∷ [])) ++ more in
    let same : inner ≡ doubled content ++ (34 ∷ more) = append_assoc (doubled content) (34 ∷ []) more in
    let r = string_reaches content more a in
    let reach = r.found in
    let s = undoubled (take (r.reach - 1) (doubled content ++ (34 ∷ more))) in
    record {
      piece = string s;
      found = widest_quote n inner ∙ ap (λ (z : List ℕ). string_in (closed z) z) same ∙ ap (λ (o : Option ℕ). string_in o (doubled content ++ (34 ∷ more))) reach;
      far = elim (string_or_longer content more r.reach a reach r.far) [
        | inl e ↦ inl (ap string e)
        | inr l ↦ inr (quoted_longer content s l)
      ];
    }

either_letter : (b m k : ℕ) → (b == m || b == k) ≡ true → is_letter m ≡ true → is_letter k ≡ true → is_letter b ≡ true
either_letter b m k h x y = go (b == m) refl h
  where
    go : (t : Bool) → (b == m) ≡ t → (t || b == k) ≡ true → is_letter b ≡ true
    go true e g = subst (λ (z : ℕ). is_letter z ≡ true) (sym (eqb-true b m e)) x
    go false e g = subst (λ (z : ℕ). is_letter z ≡ true) (sym (eqb-true b k g)) y

class_letter : (b : ℕ) (c : Class) → class_of b ≡ Some c → is_letter b ≡ true
class_letter b c e = go (b == 98 || b == 66) refl (b == 111 || b == 79) refl (b == 120 || b == 88) refl e
  where
    go : (t : Bool) → (b == 98 || b == 66) ≡ t → (u : Bool) → (b == 111 || b == 79) ≡ u → (v : Bool) → (b == 120 || b == 88) ≡ v
        → (if t then Some Binary else if u then Some Octal else if v then Some Hexadecimal else None) ≡ Some c → is_letter b ≡ true
    go true h u i v j e = either_letter b 98 66 h refl refl
    go false h true i v j e = either_letter b 111 79 i refl refl
    go false h false i true j e = either_letter b 120 88 j refl refl
    go false h false i false j e = cc

bits_wide : (n : Bool) (b : ℕ) (c : Class) (content more : List ℕ) → class_of b ≡ Some c → All (λ b. is_printable b ≡ true) content → Wide n ((b ∷ quoted content) ++ more) (bits b content)
bits_wide n b c content more h a =
    let inner = (doubled content ++ (34 ∷ [])) ++ more in
    let same : inner ≡ doubled content ++ (34 ∷ more) = append_assoc (doubled content) (34 ∷ []) more in
    let r = string_reaches content more a in
    let reach = r.found in
    let w = word_piece b (34 ∷ inner) in
    let s = undoubled (take (r.reach - 1) (doubled content ++ (34 ∷ more))) in
    record {
      piece = bits b s;
      found = widest_letter n b (34 ∷ inner) (class_letter b c h) ∙ ap (λ (o : Option Class). Some (bits_class o b (34 ∷ inner) w)) h
          ∙ ap (λ (z : List ℕ). Some (bits_in (closed z) b z w)) same ∙ ap (λ (o : Option ℕ). Some (bits_in o b (doubled content ++ (34 ∷ more)) w)) reach;
      far = elim (string_or_longer content more r.reach a reach r.far) [
        | inl e ↦ inl (ap (bits b) e)
        | inr l ↦ inr (let longer = quoted_longer content s l in omega arith)
      ];
    }

character_wide : (n : Bool) (b : ℕ) (more : List ℕ) → is_printable b ≡ true → n ≡ false → Wide n (39 ∷ b ∷ 39 ∷ more) (character b)
unfolding widest
character_wide n b more p h = record { piece = character b; found = rw (h, p) refl; far = inl refl }

-- a sign of one byte: a longer one may start with it
single_wide : (n : Bool) (b : ℕ) (s : Sign) (more : List ℕ) → single_sign b ≡ Some s → sign_text s ≡ b ∷ [] → widest n b more ≡ sign_piece b more → Wide n (sign_text s ++ more) (mark s)
single_wide n b s [] h t e = record {
  piece = mark s;
  found = ap (λ (z : List ℕ). widest_of n (z ++ [])) t ∙ e ∙ ap (option_map mark) h;
  far = inl refl;
}
single_wide n b s (c ∷ more) h t e = go (double_sign b c) refl
  where
    go : (o : Option Sign) → double_sign b c ≡ o → Wide n (sign_text s ++ (c ∷ more)) (mark s)
    go None d = record {
      piece = mark s;
      found = ap (λ (z : List ℕ). widest_of n (z ++ (c ∷ more))) t ∙ e ∙ ap (λ (o : Option Sign). pick o (option_map mark (single_sign b))) d ∙ ap (option_map mark) h;
      far = inl refl;
    }
    go (Some x) d = record {
      piece = mark x;
      found = ap (λ (z : List ℕ). widest_of n (z ++ (c ∷ more))) t ∙ e ∙ ap (λ (o : Option Sign). pick o (option_map mark (single_sign b))) d;
      far = inr (let two : length (sign_text x) ≡ 2 = sym (ap length (double_text b c x d)) in let one : length (sign_text s) ≡ 1 = ap length t in omega arith);
    }

double_wide : (n : Bool) (b c : ℕ) (s : Sign) (more : List ℕ) → double_sign b c ≡ Some s → sign_text s ≡ b ∷ c ∷ [] → widest n b (c ∷ more) ≡ sign_piece b (c ∷ more) → Wide n (sign_text s ++ more) (mark s)
double_wide n b c s more h t e = record {
  piece = mark s;
  found = ap (λ (z : List ℕ). widest_of n (z ++ more)) t ∙ e ∙ ap (λ (o : Option Sign). pick o (option_map mark (single_sign b))) h;
  far = inl refl;
}

minus_wide : (n : Bool) (more : List ℕ) → Wide n (45 ∷ more) (mark sn.Minus)
unfolding widest
minus_wide n [] = single_wide n 45 sn.Minus [] refl refl refl
minus_wide n (c ∷ more) = go (c == 45) refl
  where
    go : (t : Bool) → (c == 45) ≡ t → Wide n (45 ∷ c ∷ more) (mark sn.Minus)
    go true e = record { piece = comment (take (line more) more); found = rw e refl; far = inr (omega arith) }
    go false e = single_wide n 45 sn.Minus (c ∷ more) refl refl (rw e refl)

tick_wide : (n : Bool) (more : List ℕ) → Wide n (39 ∷ more) (mark sn.Tick)
unfolding widest
tick_wide true more = single_wide true 39 sn.Tick more refl refl refl
tick_wide false [] = single_wide false 39 sn.Tick [] refl refl refl
tick_wide false (c ∷ []) = single_wide false 39 sn.Tick (c ∷ []) refl refl refl
tick_wide false (c ∷ d ∷ more) = go (is_printable c && d == 39) refl
  where
    go : (t : Bool) → (is_printable c && d == 39) ≡ t → Wide false (39 ∷ c ∷ d ∷ more) (mark sn.Tick)
    go true e = record { piece = character c; found = rw e refl; far = inr (omega arith) }
    go false e = single_wide false 39 sn.Tick (c ∷ d ∷ more) refl refl (rw e refl)

mark_wide : (n : Bool) (s : Sign) (more : List ℕ) → Wide n (sign_text s ++ more) (mark s)
unfolding widest
mark_wide n sn.Semicolon more = single_wide n 59 sn.Semicolon more refl refl refl
mark_wide n sn.Comma more = single_wide n 44 sn.Comma more refl refl refl
mark_wide n sn.Dot more = single_wide n 46 sn.Dot more refl refl refl
mark_wide n sn.Open more = single_wide n 40 sn.Open more refl refl refl
mark_wide n sn.Close more = single_wide n 41 sn.Close more refl refl refl
mark_wide n sn.Colon more = single_wide n 58 sn.Colon more refl refl refl
mark_wide n sn.Bar more = single_wide n 124 sn.Bar more refl refl refl
mark_wide n sn.Equal more = single_wide n 61 sn.Equal more refl refl refl
mark_wide n sn.Less more = single_wide n 60 sn.Less more refl refl refl
mark_wide n sn.Greater more = single_wide n 62 sn.Greater more refl refl refl
mark_wide n sn.Plus more = single_wide n 43 sn.Plus more refl refl refl
mark_wide n sn.Ampersand more = single_wide n 38 sn.Ampersand more refl refl refl
mark_wide n sn.Star more = single_wide n 42 sn.Star more refl refl refl
mark_wide n sn.Slash more = single_wide n 47 sn.Slash more refl refl refl
mark_wide n sn.Becomes more = double_wide n 58 61 sn.Becomes more refl refl refl
mark_wide n sn.Unconstrained more = double_wide n 60 62 sn.Unconstrained more refl refl refl
mark_wide n sn.LessEqual more = double_wide n 60 61 sn.LessEqual more refl refl refl
mark_wide n sn.Arrow more = double_wide n 61 62 sn.Arrow more refl refl refl
mark_wide n sn.NotEqual more = double_wide n 47 61 sn.NotEqual more refl refl refl
mark_wide n sn.GreaterEqual more = double_wide n 62 61 sn.GreaterEqual more refl refl refl
mark_wide n sn.StarStar more = double_wide n 42 42 sn.StarStar more refl refl refl
mark_wide n sn.Minus more = minus_wide n more
mark_wide n sn.Tick more = tick_wide n more

-- each piece is the longest one where it stands, or the longest one there is longer
pub wide : (n : Bool) (q : Piece) (more : List ℕ) → IsPiece n q → Wide n (text_of q ++ more) q
wide n (space text) more h = space_wide n text more h.0 h.1
wide n (comment line) more h = comment_wide n line more h
wide n (name text) more h = name_wide n text more h.0 h.1
wide n (decimal digits x) more h =
    record { piece = number_piece ((digits ++ exponent_text x) ++ more); found = widest_digit n ((digits ++ exponent_text x) ++ more) (digits_begin (digits ++ exponent_text x) more (digits_begin digits (exponent_text x) h.0.first)); far = decimal_wide digits x more h.0 h.1 }
wide n (based base digits x) more h =
    let text = base ++ (35 ∷ (digits ++ (35 ∷ exponent_text x))) in
    record { piece = number_piece (text ++ more); found = widest_digit n (text ++ more) (digits_begin text more (digits_begin base (35 ∷ (digits ++ (35 ∷ exponent_text x))) h.0.first)); far = based_wide base digits x more h.0 h.1 h.2 h.3 }
wide n (character b) more h = character_wide n b more h.0 h.1
wide n (string bytes) more h = string_wide n bytes more h
wide n (bits b bytes) more h = bits_wide n b h.0.0 bytes more h.0.1 h.1
wide n (mark s) more h = mark_wide n s more
