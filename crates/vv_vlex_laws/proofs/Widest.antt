-- The longest piece in front, and that the lexer reads it.
use Rattle.std.proofs.Common.{◌≡◌, ◌≢◌, ℕ, suc, ◌≤◌, ◌-◌, Bool, true, false, not, if◌then◌else◌, ◌==◌, ◌&&◌, ◌⊎◌, inl, List, [], ◌∷◌, ◌++◌, length, take, drop, All, Option, Some, None, option_map, Ok, Err, refl, sym, ap, ◌∙◌, take-append-drop, arith}
use Rattle.std.proofs.lemmas.Bool.{eqb-true}
use Rattle.std.proofs.lemmas.List.{length-take-le}
use Rattle.std.proofs.lemmas.List.Elements.{All-nil, All-cons}
use Rattle.vv_vlex.specs.declared.class.Class.{Class}
use Rattle.vv_vlex.specs.declared.class.Class.TheVariants.{Alphanumeric}
use Rattle.vv_vlex.specs.declared.sign.Sign.{Sign}
use Rattle.vv_vlex.specs.Bytes.{is_letter, is_digit, is_blank, is_printable, begins, has, tail}
use Rattle.vv_vlex.specs.Elements.{Element, undoubled}
use Rattle.vv_vlex.specs.Quoted.{closed, class_of}
use Rattle.vv_vlex.specs.Pieces.{Found, blanks, line, double_sign, single_sign, piece_at}
use Rattle.vv_vlex_laws.specs.Cut.{Piece, space, comment, name, character, string, bits, mark, text_of, IsPiece, IsGood, element_for, code_at}
use Rattle.vv_vlex_laws.proofs.Numbers.{number_piece}

-- how the lexer takes the longest piece: as it should be taken if it is good, and else it refuses
abbrev pub Verdict : Bool → ℕ → List ℕ → Piece → List ℕ → Type 0
Verdict n b more w behind = (IsGood w behind × (piece_at n b more ≡ Ok (element_for w, length (text_of w)))) ⊎ ((IsGood w behind → ⊥) × (piece_at n b more ≡ Err (code_at (b ∷ more))))

pub record Finds (n : Bool) (b : ℕ) (more : List ℕ) (w : Piece) : Type 0 where
  pub kind : IsPiece n w
  pub behind : List ℕ
  pub split : b ∷ more ≡ text_of w ++ behind
  pub verdict : Verdict n b more w behind

abbrev pub Reads : Bool → ℕ → List ℕ → Option Piece → Type 0
Reads n b more None = piece_at n b more ≡ Err (code_at (b ∷ more))
Reads n b more (Some w) = Finds n b more w

abbrev pub pick : Option Sign → Option Piece → Option Piece
pick None o = o
pick (Some s) o = Some (mark s)

abbrev pub sign_piece : ℕ → List ℕ → Option Piece
sign_piece b [] = option_map mark (single_sign b)
sign_piece b (c ∷ more) = pick (double_sign b c) (option_map mark (single_sign b))

abbrev pub string_in : Option ℕ → List ℕ → Option Piece
string_in None more = None
string_in (Some n) more = Some (string (undoubled (take (n - 1) more)))

abbrev pub bits_in : Option ℕ → ℕ → List ℕ → Piece → Piece
bits_in None b inner w = w
bits_in (Some n) b inner w = bits b (undoubled (take (n - 1) inner))

abbrev pub bits_quote : Bool → ℕ → List ℕ → Piece → Piece
bits_quote true b inner w = bits_in (closed inner) b inner w
bits_quote false b inner w = w

abbrev pub bits_class : Option Class → ℕ → List ℕ → Piece → Piece
bits_class None b more w = w
bits_class (Some c) b [] w = w
bits_class (Some c) b (q ∷ inner) w = bits_quote (q == 34) b inner w

abbrev pub word_piece : ℕ → List ℕ → Piece
word_piece b more = name (b ∷ take (tail (has Alphanumeric) more) more)

abbrev pub character_in : Bool → ℕ → Option Piece → Option Piece
character_in true b o = Some (character b)
character_in false b o = o

abbrev pub character_piece : List ℕ → Option Piece → Option Piece
character_piece [] o = o
character_piece (b ∷ []) o = o
character_piece (b ∷ c ∷ more) o = character_in (is_printable b && c == 39) b o

-- by what the first byte is: white space, the first dash of a comment, a letter, a digit, a quote, a backslash, or the apostrophe of a character
abbrev pub widest_in : Bool → Bool → Bool → Bool → Bool → Bool → Bool → ℕ → List ℕ → Option Piece
widest_in true dash letter num quote back tick b more = Some (space (b ∷ take (blanks more) more))
widest_in false true letter num quote back tick b more = Some (comment (take (line (drop 1 more)) (drop 1 more)))
widest_in false false true num quote back tick b more = Some (bits_class (class_of b) b more (word_piece b more))
widest_in false false false true quote back tick b more = Some (number_piece (b ∷ more))
widest_in false false false false true back tick b more = string_in (closed more) more
widest_in false false false false false true tick b more = None
widest_in false false false false false false true b more = character_piece more (sign_piece b more)
widest_in false false false false false false false b more = sign_piece b more

abbrev pub is_comment : ℕ → List ℕ → Bool
is_comment b more = b == 45 && begins (λ c. c == 45) more

unfoldable pub widest : Bool → ℕ → List ℕ → Option Piece
widest n b more = widest_in (is_blank b) (is_comment b more) (is_letter b) (is_digit b) (b == 34) (b == 92) (b == 39 && not n) b more

blank_test : (t : Bool) (n k : ℕ) → n ≤ k → (if t then suc n else 0) ≤ suc k
blank_test true n k h = omega arith
blank_test false n k h = omega arith

pub blanks-within : (bytes : List ℕ) → blanks bytes ≤ length bytes
blanks-within [] = omega arith
blanks-within (b ∷ more) = blank_test (is_blank b) (blanks more) (length more) (blanks-within more)

blanks_taken : (bytes : List ℕ) → All (λ b. is_blank b ≡ true) (take (blanks bytes) bytes)
blanks_taken [] = All-nil (λ (b : ℕ). is_blank b ≡ true)
blanks_taken (b ∷ more) = go (is_blank b) refl (blanks_taken more)
  where
    go : (t : Bool) → is_blank b ≡ t → All (λ b. is_blank b ≡ true) (take (blanks more) more) → All (λ b. is_blank b ≡ true) (take (if t then suc (blanks more) else 0) (b ∷ more))
    go true e h = All-cons (λ (b : ℕ). is_blank b ≡ true) b (take (blanks more) more) e h
    go false e h = All-nil (λ (b : ℕ). is_blank b ≡ true)

line_test : (t : Bool) (n k : ℕ) → n ≤ k → (if t then 0 else suc n) ≤ suc k
line_test true n k h = omega arith
line_test false n k h = omega arith

pub line-within : (bytes : List ℕ) → line bytes ≤ length bytes
line-within [] = omega arith
line-within (b ∷ more) = line_test (b == 10) (line more) (length more) (line-within more)

line_taken : (bytes : List ℕ) → All (λ b. b ≢ 10) (take (line bytes) bytes)
line_taken [] = All-nil (λ (b : ℕ). b ≢ 10)
line_taken (b ∷ more) = go (b == 10) refl (line_taken more)
  where
    go : (t : Bool) → (b == 10) ≡ t → All (λ b. b ≢ 10) (take (line more) more) → All (λ b. b ≢ 10) (take (if t then 0 else suc (line more)) (b ∷ more))
    go true e h = All-nil (λ (b : ℕ). b ≢ 10)
    go false e h = All-cons (λ (b : ℕ). b ≢ 10) b (take (line more) more) (λ k. let f : (b == 10) ≡ true = rw k refl in cc) h

pub both : (a b : Bool) → (a && b) ≡ true → (a ≡ true) × (b ≡ true)
both true b h = (refl, h)
both false b h = let z : false ≡ true = h in cc

pub sized : (e : Option Element) (m n : ℕ) → m ≡ n → (let f : Found = Ok (e, m) in f) ≡ Ok (e, n)
sized e m n h = ap (λ (k : ℕ). let f : Found = Ok (e, k) in f) h

pub space_read : (n : Bool) (b : ℕ) (more : List ℕ) → is_blank b ≡ true → Finds n b more (space (b ∷ take (blanks more) more))
unfolding piece_at
space_read n b more h = record {
  kind = (h, All-cons (λ (b : ℕ). is_blank b ≡ true) b (take (blanks more) more) h (blanks_taken more));
  behind = drop (blanks more) more;
  split = ap (λ (z : List ℕ). b ∷ z) (sym (take-append-drop (blanks more) more));
  verdict = inl (tt, rw h (sized None (suc (blanks more)) (suc (length (take (blanks more) more))) (ap suc (sym (length-take-le (blanks more) more (blanks-within more))))));
}

pub dashes : (b : ℕ) (more : List ℕ) → is_comment b more ≡ true → (b ≡ 45) × (more ≡ 45 ∷ drop 1 more)
dashes b [] h = let p = both (b == 45) false h in (let z : false ≡ true = p.1 in cc)
dashes b (c ∷ more) h = let p = both (b == 45) (c == 45) h in (eqb-true b 45 p.0, ap (λ (z : ℕ). z ∷ more) (eqb-true c 45 p.1))

pub comment_read : (n : Bool) (b : ℕ) (more : List ℕ) → is_blank b ≡ false → is_comment b more ≡ true → Finds n b more (comment (take (line (drop 1 more)) (drop 1 more)))
unfolding piece_at
comment_read n b more w h =
    let first = dashes b more h in
    let rest = drop 1 more in
    let behind : more ≡ 45 ∷ rest = first.1 in
    let far : line more ≡ suc (line rest) = ap line behind in
    record {
      kind = line_taken rest;
      behind = drop (line rest) rest;
      split = ap (λ (z : ℕ). z ∷ more) first.0 ∙ ap (λ (z : List ℕ). 45 ∷ z) (behind ∙ ap (λ (z : List ℕ). 45 ∷ z) (sym (take-append-drop (line rest) rest)));
      verdict = inl (tt, rw (w, h) (sized None (suc (line more)) (suc (suc (length (take (line rest) rest)))) (ap suc (far ∙ ap suc (sym (length-take-le (line rest) rest (line-within rest)))))));
    }
