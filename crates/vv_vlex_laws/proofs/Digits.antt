-- Numbers are read.
use Rattle.std.proofs.Common.{◌≡◌, ℕ, ◌<◌, ◌≤◌, ◌+◌, ◌-◌, Bool, true, false, if◌then◌else◌, ◌==◌, ◌&&◌, ◌||◌, nat_lt, nat_le, ◌⊎◌, inl, inr, List, [], ◌∷◌, ◌++◌, length, take, drop, All, None, option_map, Err, pos, refl, sym, ap, ◌∙◌, arith}
use Rattle.std.proofs.lemmas.Bool.{leb-true}
use Rattle.std.proofs.lemmas.List.{length-append, drop_at}
use Rattle.std.proofs.lemmas.List.Elements.{All-head, All-tail}
use Rattle.vv_base.specs.declared.rules.Rule.{Rule}
use Rattle.vv_base.specs.declared.rules.Rule.TheVariants.{X3}
use Rattle.vv_vlex.specs.declared.class.Class.TheVariants.{Decimal}
use Rattle.vv_vlex.specs.Bytes.{is_letter, is_digit, is_blank, begins, grouped, digit}
use Rattle.vv_vlex.specs.Elements.{int}
use Rattle.vv_vlex.specs.Numbers.{value, number, longest, is_whole, limited, literal_value, are_below}
use Rattle.vv_vlex.specs.Pieces.{Found, found, number_of, piece_at}
use Rattle.vv_vlex_laws.specs.Cut.{IsGrouped, decimal, based, text_of, element_for, code_at}
use Rattle.vv_vlex_laws.proofs.Numbers.{number_piece, number_read, literal_for}
use Rattle.vv_vlex_laws.proofs.Widest.{Verdict, Finds, is_comment, both, sized}
use Rattle.vv_vlex.specs.Numbers.{Literal, is_base, has_extended}
use Rattle.vv_vlex_laws.specs.Cut.{Exponent, exponent_text}
use Rattle.vv_vlex_laws.proofs.Numbers.{IsNumber, number_in, exponent_size, exponent_piece}

abbrev pub goes_on : List ℕ → Bool
goes_on behind = begins (λ c. is_letter c || c == 46) behind

-- a number by the literal that it is
number_is : (bytes behind : List ℕ) (l : Literal) → longest bytes ≡ l → drop l.size bytes ≡ behind
    → number bytes ≡ (if is_whole l behind then option_map (λ n. (n, l.size)) (limited (literal_value l)) else None)
unfolding number
number_is bytes behind l e d = ap (λ (k : Literal). if is_whole k (drop k.size bytes) then option_map (λ n. (n, k.size)) (limited (literal_value k)) else None) e
    ∙ ap (λ (z : List ℕ). if is_whole l z then option_map (λ n. (n, l.size)) (limited (literal_value l)) else None) d

pub record IsDigitFirst (b : ℕ) (more : List ℕ) : Type 0 where
  pub white : is_blank b ≡ false
  pub dash : is_comment b more ≡ false
  pub letter : is_letter b ≡ false
  pub digit : is_digit b ≡ true

-- what is good of a literal
pub record IsGoodLiteral (l : Literal) (behind : List ℕ) : Type 0 where
  pub below : are_below l.base l.digits ≡ true
  pub most : literal_value l ≤ 2147483647
  pub ends : goes_on behind ≡ false

taken_so : (n : Bool) (b : ℕ) (more behind : List ℕ) (l : Literal) → IsDigitFirst b more → longest (b ∷ more) ≡ l → drop l.size (b ∷ more) ≡ behind
    → piece_at n b more ≡ number_of (if is_whole l behind then option_map (λ n. (n, l.size)) (limited (literal_value l)) else None)
unfolding piece_at
taken_so n b more behind l f e d =
    let white = f.white in let dash = f.dash in let letter = f.letter in let digit = f.digit in
    let read = number_is (b ∷ more) behind l e d in
    rw (white, dash, letter, digit, read) refl

code_digit : (b : ℕ) (more : List ℕ) → IsDigitFirst b more → code_at (b ∷ more) ≡ X3
code_digit b more f = let letter = f.letter in let digit = f.digit in rw (letter, digit) refl

abbrev pub LiteralVerdict : Bool → ℕ → List ℕ → Literal → List ℕ → Type 0
LiteralVerdict n b more l behind = (IsGoodLiteral l behind × (piece_at n b more ≡ found (int (pos (literal_value l))) l.size)) ⊎ ((IsGoodLiteral l behind → ⊥) × (piece_at n b more ≡ Err X3))

literal_verdict : (n : Bool) (b : ℕ) (more behind : List ℕ) (l : Literal) (below ends most : Bool) → IsDigitFirst b more → longest (b ∷ more) ≡ l → drop l.size (b ∷ more) ≡ behind
    → are_below l.base l.digits ≡ below → goes_on behind ≡ ends → nat_le (literal_value l) 2147483647 ≡ most → LiteralVerdict n b more l behind
literal_verdict n b more behind l true false true f e d hb he hm =
    inl (record { below = hb; most = leb-true (literal_value l) 2147483647 hm; ends = he }, taken_so n b more behind l f e d ∙ rw (hb, he, hm) refl)
literal_verdict n b more behind l true false false f e d hb he hm =
    inr (λ g. (let h = g.most in let low : nat_le (literal_value l) 2147483647 ≡ true = search (arith, h) in let z : true ≡ false = sym low ∙ hm in cc), taken_so n b more behind l f e d ∙ rw (hb, he, hm) refl)
literal_verdict n b more behind l true true most f e d hb he hm =
    inr (λ g. (let z : false ≡ true = sym g.ends ∙ he in cc), taken_so n b more behind l f e d ∙ rw (hb, he) refl)
literal_verdict n b more behind l false ends most f e d hb he hm =
    inr (λ g. (let z : true ≡ false = sym g.below ∙ hb in cc), taken_so n b more behind l f e d ∙ rw hb refl)

judged : (n : Bool) (b : ℕ) (more behind : List ℕ) (l : Literal) → IsDigitFirst b more → longest (b ∷ more) ≡ l → drop l.size (b ∷ more) ≡ behind → LiteralVerdict n b more l behind
judged n b more behind l f e d = literal_verdict n b more behind l (are_below l.base l.digits) (goes_on behind) (nat_le (literal_value l) 2147483647) f e d refl refl refl

-- decimal digits are below ten
digit_below : (b : ℕ) → is_digit b ≡ true → nat_lt (digit b) 10 ≡ true
digit_below b h =
    let parts = both (nat_le 48 b) (nat_le b 57) h in
    let high : b ≤ 57 = leb-true b 57 parts.1 in
    let less : b - 48 < 10 = omega arith in
    let t : nat_lt (b - 48) 10 ≡ true = search (arith, less) in
    rw h t

each_below : (digits : List ℕ) → All (λ b. (is_digit b || b == 95) ≡ true) digits → are_below 10 digits ≡ true
each_below [] a = refl
each_below (b ∷ digits) a =
    let rest : are_below 10 digits ≡ true = each_below digits (All-tail (λ (b : ℕ). (is_digit b || b == 95) ≡ true) b digits a) in
    go (is_digit b) refl (b == 95) refl (All-head (λ (b : ℕ). (is_digit b || b == 95) ≡ true) b digits a) rest
  where
    go : (t : Bool) → is_digit b ≡ t → (u : Bool) → (b == 95) ≡ u → (t || u) ≡ true → are_below 10 digits ≡ true → ((b == 95 || nat_lt (digit b) 10) && are_below 10 digits) ≡ true
    go true e u k h rest = let low = digit_below b e in rw (low, rest) (either_way (b == 95))
      where
        either_way : (u : Bool) → ((u || true) && true) ≡ true
        either_way true = refl
        either_way false = refl
    go false e true k h rest = rw (k, rest) refl
    go false e false k h rest = let z : false ≡ true = h in cc

decimal_verdict : (n : Bool) (b : ℕ) (more behind d : List ℕ) (x : Exponent) → IsDigitFirst b more → IsGrouped Decimal d → longest (b ∷ more) ≡ literal_for (decimal d x) → b ∷ more ≡ text_of (decimal d x) ++ behind
    → Verdict n b more (decimal d x) behind
decimal_verdict n b more behind d x f g e s =
    let long : length (d ++ exponent_text x) ≡ length d + exponent_size x = length-append d (exponent_text x) in
    let after : drop (length d + exponent_size x) (b ∷ more) ≡ behind = rw s (drop_at (d ++ exponent_text x) behind (length d + exponent_size x) long) in
    elim (judged n b more behind (literal_for (decimal d x)) f e after) [
      | inl j ↦ inl (record { most = j.0.most; ends = j.0.ends }, j.1 ∙ sized (element_for (decimal d x)) (length d + exponent_size x) (length (d ++ exponent_text x)) (sym long))
      | inr j ↦ inr (λ k. j.0 (record { below = each_below d g.each; most = k.most; ends = k.ends }), j.1 ∙ sym (let c = code_digit b more f in ap (λ (r : Rule). let z : Found = Err r in z) c))
    ]

based_verdict : (n : Bool) (b : ℕ) (more behind base d : List ℕ) (x : Exponent) → IsDigitFirst b more → longest (b ∷ more) ≡ literal_for (based base d x) → b ∷ more ≡ text_of (based base d x) ++ behind
    → Verdict n b more (based base d x) behind
based_verdict n b more behind base d x f e s =
    let size = length base + length d + exponent_size x + 2 in
    let text = base ++ (35 ∷ (d ++ (35 ∷ exponent_text x))) in
    let long : length text ≡ size = length-append base (35 ∷ (d ++ (35 ∷ exponent_text x))) ∙ (let inner = length-append d (35 ∷ exponent_text x) in omega arith) in
    let after : drop size (b ∷ more) ≡ behind = rw s (drop_at text behind size long) in
    elim (judged n b more behind (literal_for (based base d x)) f e after) [
      | inl j ↦ inl ((j.0.below, record { most = j.0.most; ends = j.0.ends }), j.1 ∙ sized (element_for (based base d x)) size (length text) (sym long))
      | inr j ↦ inr (λ k. j.0 (record { below = k.0; most = k.1.most; ends = k.1.ends }), j.1 ∙ sym (let c = code_digit b more f in ap (λ (r : Rule). let z : Found = Err r in z) c))
    ]

digits_in : (n : Bool) (b : ℕ) (more : List ℕ) (t s : Bool) (front behind inner : List ℕ) (k : ℕ) → IsDigitFirst b more → IsNumber (b ∷ more) (number_in t s front behind k inner) → Finds n b more (number_in t s front behind k inner)
digits_in n b more true true front behind inner k f r = record { kind = r.kind n; behind = r.rest; split = r.split; verdict = based_verdict n b more r.rest front (take k inner) (exponent_piece (drop (k + 1) inner)) f r.read r.split }
digits_in n b more true false front behind inner k f r = record { kind = r.kind n; behind = r.rest; split = r.split; verdict = (let kind = r.kind n in decimal_verdict n b more r.rest front (exponent_piece behind) f kind.0 r.read r.split) }
digits_in n b more false s front behind inner k f r = record { kind = r.kind n; behind = r.rest; split = r.split; verdict = (let kind = r.kind n in decimal_verdict n b more r.rest front (exponent_piece behind) f kind.0 r.read r.split) }

pub digits_read : (n : Bool) (b : ℕ) (more : List ℕ) → IsDigitFirst b more → Finds n b more (number_piece (b ∷ more))
unfolding number_piece
digits_read n b more f =
    let bytes = b ∷ more in
    let m = grouped is_digit bytes in
    let inner = drop (m + 1) bytes in
    let k = grouped has_extended inner in
    let front = take m bytes in
    let behind = drop m bytes in
    digits_in n b more (is_base (value 10 front) && begins (λ c. c == 35) behind) (nat_lt 0 k && begins (λ c. c == 35) (drop k inner)) front behind inner k f (number_read bytes f.digit)
