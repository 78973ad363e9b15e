-- Words and bit strings are read.
use Rattle.std.proofs.Common.{◌≡◌, ℕ, suc, ◌<◌, ◌-◌, Bool, true, false, if◌then◌else◌, ◌==◌, ◌&&◌, ◌||◌, nat_lt, inl, inr, List, [], ◌∷◌, ◌++◌, length, take, drop, Option, Some, None, refl, sym, ap, ◌∙◌, subst, append_assoc, take-append-drop, arith}
use Rattle.std.proofs.Math.Seq.{take-length}
use Rattle.std.proofs.lemmas.Bool.{eqb-true, eq-eqb}
use Rattle.std.proofs.lemmas.List.{length-take-le, length-append, take_at}
use Rattle.vv_base.specs.declared.rules.Rule.TheVariants.{X5}
use Rattle.vv_vlex.specs.declared.class.Class.{Class}
use Rattle.vv_vlex.specs.declared.class.Class.TheVariants.{Alphanumeric, Decimal, Extended, Binary, Octal, Hexadecimal}
use Rattle.vv_vlex.specs.Bytes.{is_letter, is_blank, begins, has, tail, grouped}
use Rattle.vv_vlex.specs.Elements.{undoubled}
use Rattle.vv_vlex.specs.Quoted.{closed, class_of, are_digits}
use Rattle.vv_vlex.specs.Pieces.{word_at, bits_at, bits_with, piece_at}
use Rattle.vv_vlex_laws.specs.Cut.{IsGrouped, name, bits, doubled, element_for, code_at}
use Rattle.vv_vlex_laws.proofs.Grouped.{grouped_text, group_of, Group, Tail, tail_taken, tail-within, tail_whole, group_taken}
use Rattle.vv_vlex_laws.proofs.Strings.{Closed, closed-found, taken}
use Rattle.vv_vlex_laws.proofs.Widest.{Verdict, Finds, bits_quote, bits_class, word_piece, is_comment, both, sized}

word_size : (b : ℕ) (more : List ℕ) → suc (tail (has Alphanumeric) more) ≡ length (b ∷ take (tail (has Alphanumeric) more) more)
word_size b more = ap suc (sym (length-take-le (tail (has Alphanumeric) more) more (tail-within (has Alphanumeric) more)))

no_quote : (more : List ℕ) → begins (λ c. c == 95) (drop (tail (has Alphanumeric) more) more) ≡ true → begins (λ c. c == 34) more ≡ false
no_quote [] h = refl
no_quote (c ∷ more) h = go (c == 34) refl
  where
    go : (t : Bool) → (c == 34) ≡ t → t ≡ false
    go true e = let same : c ≡ 34 = eqb-true c 34 e in let at = subst (λ (z : ℕ). begins (λ c. c == 95) (drop (tail (has Alphanumeric) (z ∷ more)) (z ∷ more)) ≡ true) same h in let z : false ≡ true = at in cc
    go false e = refl

-- the first byte of a word is no white space and no dash
pub record IsLetterFirst (b : ℕ) (more : List ℕ) : Type 0 where
  pub white : is_blank b ≡ false
  pub dash : is_comment b more ≡ false
  pub letter : is_letter b ≡ true

word_verdict : (n : Bool) (b : ℕ) (more : List ℕ) (t : Bool) → begins (λ c. c == 95) (drop (tail (has Alphanumeric) more) more) ≡ t → IsLetterFirst b more → bits_at b more ≡ None
    → Verdict n b more (word_piece b more) (drop (tail (has Alphanumeric) more) more)
unfolding piece_at word_at
word_verdict n b more true h f none =
    let white = f.white in let dash = f.dash in let letter = f.letter in
    let quote : begins (λ c. c == 34) more ≡ false = no_quote more h in
    inr ((λ g. let z : false ≡ true = sym g ∙ h in cc), rw (white, dash, letter, none, h, quote) refl)
word_verdict n b more false h f none =
    let white = f.white in let dash = f.dash in let letter = f.letter in
    let text = b ∷ take (tail (has Alphanumeric) more) more in
    inl (h, rw (white, dash, letter, none, h) (sized (element_for (name text)) (suc (tail (has Alphanumeric) more)) (length text) (word_size b more)))

pub word_read : (n : Bool) (b : ℕ) (more : List ℕ) → IsLetterFirst b more → bits_at b more ≡ None → Finds n b more (word_piece b more)
word_read n b more f none = record {
  kind = (f.letter, grouped_text Alphanumeric (b ∷ take (tail (has Alphanumeric) more) more) ((let letter : is_letter b ≡ true = f.letter in rw letter refl), tail_taken (has Alphanumeric) more));
  behind = drop (tail (has Alphanumeric) more) more;
  split = ap (λ (z : List ℕ). b ∷ z) (sym (take-append-drop (tail (has Alphanumeric) more) more));
  verdict = word_verdict n b more (begins (λ c. c == 95) (drop (tail (has Alphanumeric) more) more)) refl f none;
}

pub no_quote_in : (c : Class) → has c 34 ≡ false
no_quote_in Alphanumeric = refl
no_quote_in Decimal = refl
no_quote_in Extended = refl
no_quote_in Binary = refl
no_quote_in Octal = refl
no_quote_in Hexadecimal = refl

pub plain_byte : (p : ℕ → Bool) (b : ℕ) (w : Bool) → p 34 ≡ false → (p b || (b == 95 && w)) ≡ true → (b == 34) ≡ false
plain_byte p b w q h = go (b == 34) refl
  where
    go : (t : Bool) → (b == 34) ≡ t → t ≡ false
    go true e = let same : b ≡ 34 = eqb-true b 34 e in (let at = subst (λ (z : ℕ). (p z || (z == 95 && w)) ≡ true) same h in let z = rw q at at in cc)
    go false e = refl

plain_tail : (p : ℕ → Bool) (bytes : List ℕ) → p 34 ≡ false → Tail p bytes → doubled bytes ≡ bytes
plain_tail p [] q h = refl
plain_tail p (b ∷ bytes) q h =
    let no : (b == 34) ≡ false = plain_byte p b (begins p bytes) q h.0 in
    rw no (ap (λ (z : List ℕ). b ∷ z) (plain_tail p bytes q h.1))

plain_first : (p : ℕ → Bool) (b : ℕ) → p 34 ≡ false → p b ≡ true → (b == 34) ≡ false
plain_first p b q h = plain_byte p b false q (rw h refl)

-- digits have no quotes that are doubled
pub plain_group : (p : ℕ → Bool) (bytes : List ℕ) → p 34 ≡ false → Group p bytes → doubled bytes ≡ bytes
plain_group p [] q h = refl
plain_group p (b ∷ bytes) q h =
    let no : (b == 34) ≡ false = plain_first p b q h.0 in
    rw no (ap (λ (z : List ℕ). b ∷ z) (plain_tail p bytes q h.1))

doubled_tail : (p : ℕ → Bool) (bytes : List ℕ) → p 34 ≡ false → Tail p (doubled bytes) → doubled bytes ≡ bytes
doubled_tail p [] q h = refl
doubled_tail p (b ∷ bytes) q h = go (b == 34) refl (λ k. doubled_tail p bytes q k) h
  where
    go : (t : Bool) → (b == 34) ≡ t → (Tail p (doubled bytes) → doubled bytes ≡ bytes) → Tail p (if t then 34 ∷ 34 ∷ doubled bytes else b ∷ doubled bytes) → (if t then 34 ∷ 34 ∷ doubled bytes else b ∷ doubled bytes) ≡ b ∷ bytes
    go true e rest k = let z = plain_byte p 34 (begins p (34 ∷ doubled bytes)) q k.0 in cc
    go false e rest k = ap (λ (z : List ℕ). b ∷ z) (rest k.1)

doubled_group : (p : ℕ → Bool) (bytes : List ℕ) → p 34 ≡ false → Group p (doubled bytes) → doubled bytes ≡ bytes
doubled_group p [] q h = refl
doubled_group p (b ∷ bytes) q h = go (b == 34) refl h
  where
    go : (t : Bool) → (b == 34) ≡ t → Group p (if t then 34 ∷ 34 ∷ doubled bytes else b ∷ doubled bytes) → (if t then 34 ∷ 34 ∷ doubled bytes else b ∷ doubled bytes) ≡ b ∷ bytes
    go true e k = let z : true ≡ false = sym k.0 ∙ q in cc
    go false e k = ap (λ (z : List ℕ). b ∷ z) (doubled_tail p bytes q k.1)

digits_group : (p : ℕ → Bool) (text : List ℕ) → are_digits p text ≡ true → Group p text
digits_group p text h =
    let parts = both (nat_lt 0 (length text)) (grouped p text == length text) h in
    let some : 0 < length text = search (arith, parts.0) in
    let whole : grouped p text ≡ length text = eqb-true (grouped p text) (length text) parts.1 in
    let found : 0 < grouped p text = omega arith in
    let group : Group p (take (grouped p text) text) = group_taken p text found in
    subst (Group p) (ap (λ (n : ℕ). take n text) whole ∙ take-length text) group

group_digits : (p : ℕ → Bool) (text : List ℕ) → Group p text → are_digits p text ≡ true
group_digits p [] h = absurd h
group_digits p (b ∷ text) h =
    let on : p b ≡ true = h.0 in
    let rest : tail p text ≡ length text = tail_whole p text h.1 in
    let some : nat_lt 0 (suc (length text)) ≡ true = (let less : 0 < suc (length text) = omega arith in search (arith, less)) in
    rw (some, on, rest) (eq-eqb (suc (length text)) (suc (length text)) refl)

-- a bit string is good exactly where its digits, as they are written, are digits of its class
bits_good : (c : Class) (content : List ℕ) → are_digits (has c) (doubled content) ≡ true → IsGrouped c content
bits_good c content h =
    let group : Group (has c) (doubled content) = digits_group (has c) (doubled content) h in
    let same : doubled content ≡ content = doubled_group (has c) content (no_quote_in c) group in
    grouped_text c content (subst (Group (has c)) same group)

bits_bad : (c : Class) (content : List ℕ) → are_digits (has c) (doubled content) ≡ false → IsGrouped c content → ⊥
bits_bad c content h g =
    let group : Group (has c) content = group_of c content g in
    let same : doubled content ≡ content = plain_group (has c) content (no_quote_in c) group in
    let digits : are_digits (has c) (doubled content) ≡ true = ap (are_digits (has c)) same ∙ group_digits (has c) content group in
    let z : true ≡ false = sym digits ∙ h in cc

pub record IsBits (b : ℕ) (c : Class) (inner : List ℕ) (k : ℕ) : Type 0 where
  pub class : class_of b ≡ Some c
  pub closes : closed inner ≡ Some k

bits_is : (b : ℕ) (c : Class) (inner : List ℕ) (k : ℕ) → IsBits b c inner k → bits_at b (34 ∷ inner) ≡ Some (bits_with c k b inner)
unfolding bits_at
bits_is b c inner k h = let class = h.class in let closes = h.closes in rw (class, closes) refl

bits_verdict : (n : Bool) (b : ℕ) (c : Class) (inner : List ℕ) (k : ℕ) (f : Closed inner k) (t : Bool) → IsLetterFirst b (34 ∷ inner) → IsBits b c inner k → are_digits (has c) (doubled f.content) ≡ t
    → Verdict n b (34 ∷ inner) (bits b f.content) f.rest
unfolding piece_at
bits_verdict n b c inner k f t l h d =
    let white = l.white in let dash = l.dash in let letter = l.letter in
    let size = f.size in
    let less : k - 1 ≡ length (doubled f.content) = omega arith in
    let front : take (k - 1) inner ≡ doubled f.content = rw (less, f.split) (take_at (doubled f.content) (34 ∷ f.rest) (length (doubled f.content)) refl) in
    let again : inner ≡ (doubled f.content ++ (34 ∷ [])) ++ f.rest = f.split ∙ sym (append_assoc (doubled f.content) (34 ∷ []) f.rest) in
    let long : length (doubled f.content ++ (34 ∷ [])) ≡ k = length-append (doubled f.content) (34 ∷ []) ∙ (omega arith) in
    let all : take k inner ≡ doubled f.content ++ (34 ∷ []) = ap (take k) again ∙ take_at (doubled f.content ++ (34 ∷ [])) f.rest k long in
    let at : bits_at b (34 ∷ inner) ≡ Some (bits_with c k b inner) = bits_is b c inner k h in
    let read : piece_at n b (34 ∷ inner) ≡ bits_with c k b inner = rw (white, dash, letter, at) refl in
    let code : code_at (b ∷ 34 ∷ inner) ≡ X5 = rw letter refl in
    go t d front all long read code
  where
    go : (t : Bool) → are_digits (has c) (doubled f.content) ≡ t → take (k - 1) inner ≡ doubled f.content → take k inner ≡ doubled f.content ++ (34 ∷ []) → length (doubled f.content ++ (34 ∷ [])) ≡ k
        → piece_at n b (34 ∷ inner) ≡ bits_with c k b inner → code_at (b ∷ 34 ∷ inner) ≡ X5 → Verdict n b (34 ∷ inner) (bits b f.content) f.rest
    go true d front all long read code = inl ((c, h.class, bits_good c f.content d), read ∙ rw (front, d, all) (sized (element_for (bits b f.content)) (suc (suc k)) (suc (suc (length (doubled f.content ++ (34 ∷ []))))) (ap (λ (z : ℕ). suc (suc z)) (sym long))))
    go false d front all long read code = inr (
      λ g. (let same : Some g.0 ≡ Some c = sym g.1 ∙ h.class in let one : g.0 ≡ c = cc in bits_bad c f.content d (subst (λ (z : Class). IsGrouped z f.content) one g.2)),
      read ∙ rw (front, d, code) refl,
    )

pub bits_read : (n : Bool) (b : ℕ) (c : Class) (inner : List ℕ) (k : ℕ) → IsLetterFirst b (34 ∷ inner) → IsBits b c inner k → Finds n b (34 ∷ inner) (bits b (undoubled (take (k - 1) inner)))
bits_read n b c inner k l h =
    let f = closed-found inner k h.closes in
    subst (λ (z : List ℕ). Finds n b (34 ∷ inner) (bits b z)) (sym (taken inner k f)) (record {
      kind = ((c, h.class), f.each);
      behind = f.rest;
      split = ap (λ (z : List ℕ). b ∷ 34 ∷ z) (f.split ∙ sym (append_assoc (doubled f.content) (34 ∷ []) f.rest));
      verdict = bits_verdict n b c inner k f (are_digits (has c) (doubled f.content)) l h refl;
    })

class_read : (n : Bool) (b : ℕ) (more : List ℕ) (o : Option Class) → IsLetterFirst b more → class_of b ≡ o → Finds n b more (bits_class o b more (word_piece b more))
unfolding bits_at
class_read n b more None l h = word_read n b more l (rw h refl)
class_read n b [] (Some c) l h = word_read n b [] l (rw h refl)
class_read n b (q ∷ inner) (Some c) l h = go (q == 34) refl (closed inner) refl
  where
    go : (t : Bool) → (q == 34) ≡ t → (o : Option ℕ) → closed inner ≡ o → Finds n b (q ∷ inner) (bits_quote t b inner (word_piece b (q ∷ inner)))
    go false e o k = word_read n b (q ∷ inner) l (rw (h, e) refl)
    go true e None k = rw k (word_read n b (q ∷ inner) l (rw (h, e, k) refl))
    go true e (Some m) k =
        let same : 34 ≡ q = sym (eqb-true q 34 e) in
        rw k (subst (λ (z : ℕ). IsLetterFirst b (z ∷ inner) → Finds n b (z ∷ inner) (bits b (undoubled (take (m - 1) inner)))) same (λ l. bits_read n b c inner m l (record { class = h; closes = k })) l)

pub letter_read : (n : Bool) (b : ℕ) (more : List ℕ) → IsLetterFirst b more → Finds n b more (bits_class (class_of b) b more (word_piece b more))
letter_read n b more l = class_read n b more (class_of b) l refl
