-- Strings, characters and signs are read, and so the longest piece is.
use Rattle.std.proofs.Common.{◌≡◌, ℕ, suc, ◌-◌, Bool, true, false, not, if◌then◌else◌, ◌==◌, ◌&&◌, inl, List, [], ◌∷◌, ◌++◌, length, take, Option, Some, None, option_map, Err, refl, sym, ap, ◌∙◌, subst, append_assoc, arith}
use Rattle.std.proofs.lemmas.Bool.{eqb-true}
use Rattle.std.proofs.lemmas.List.{length-append, take_at}
use Rattle.vv_base.specs.declared.rules.Rule.{Rule}
use Rattle.vv_base.specs.declared.rules.Rule.TheVariants.{X1}
use Rattle.vv_vlex.specs.declared.sign.Sign.{Sign}
use Rattle.vv_vlex.specs.declared.sign.Sign.TheVariants as sn
use Rattle.vv_vlex.specs.Bytes.{is_letter, is_digit, is_blank, is_printable, digit}
use Rattle.vv_vlex.specs.Elements.{undoubled}
use Rattle.vv_vlex.specs.Quoted.{closed, is_open}
use Rattle.vv_vlex.specs.Pieces.{Found, double_sign, single_sign, single_found, sign_found, sign_at, string_at, character_at, piece_at}
use Rattle.vv_vlex_laws.specs.Cut.{string, mark, sign_text, doubled, element_for, code_at}
use Rattle.vv_vlex_laws.proofs.Strings.{Closed, closed-found, taken}
use Rattle.vv_vlex_laws.proofs.Widest.{Verdict, Finds, Reads, pick, sign_piece, string_in, character_in, character_piece, widest_in, is_comment, widest, space_read, comment_read, both, sized}
use Rattle.vv_vlex_laws.proofs.Letters.{letter_read}
use Rattle.vv_vlex_laws.proofs.Digits.{digits_read}

-- the first byte starts no white space, comment, word and number
pub record IsOtherFirst (b : ℕ) (more : List ℕ) : Type 0 where
  pub white : is_blank b ≡ false
  pub dash : is_comment b more ≡ false
  pub letter : is_letter b ≡ false
  pub digit : is_digit b ≡ false

string_verdict : (n : Bool) (b : ℕ) (more : List ℕ) (k : ℕ) (f : Closed more k) → IsOtherFirst b more → (b == 34) ≡ true → closed more ≡ Some k → Verdict n b more (string f.content) f.rest
unfolding piece_at string_at
string_verdict n b more k f o q e =
    let white = o.white in let dash = o.dash in let letter = o.letter in let digit = o.digit in
    let size = f.size in
    let again : more ≡ (doubled f.content ++ (34 ∷ [])) ++ f.rest = f.split ∙ sym (append_assoc (doubled f.content) (34 ∷ []) f.rest) in
    let long : length (doubled f.content ++ (34 ∷ [])) ≡ k = length-append (doubled f.content) (34 ∷ []) ∙ (omega arith) in
    let all : take k more ≡ doubled f.content ++ (34 ∷ []) = ap (take k) again ∙ take_at (doubled f.content ++ (34 ∷ [])) f.rest k long in
    let inner : undoubled (take (k - 1) more) ≡ f.content = taken more k f in
    inl (tt, rw (white, dash, letter, digit, q, e, all, inner) (sized (element_for (string f.content)) (suc k) (suc (length (doubled f.content ++ (34 ∷ [])))) (ap suc (sym long))))

string_found : (n : Bool) (b : ℕ) (more : List ℕ) (k : ℕ) → IsOtherFirst b more → (b == 34) ≡ true → closed more ≡ Some k → Finds n b more (string (undoubled (take (k - 1) more)))
string_found n b more k o q e =
    let f = closed-found more k e in
    subst (λ (z : List ℕ). Finds n b more (string z)) (sym (taken more k f)) (record {
      kind = f.each;
      behind = f.rest;
      split = ap (λ (z : ℕ). z ∷ more) (eqb-true b 34 q) ∙ ap (λ (z : List ℕ). 34 ∷ z) (f.split ∙ sym (append_assoc (doubled f.content) (34 ∷ []) f.rest));
      verdict = string_verdict n b more k f o q e;
    })

string_lost : (n : Bool) (b : ℕ) (more : List ℕ) → IsOtherFirst b more → (b == 34) ≡ true → closed more ≡ None → piece_at n b more ≡ Err (code_at (b ∷ more))
unfolding piece_at string_at
string_lost n b more o q e = go (is_open more) refl
  where
    go : (t : Bool) → is_open more ≡ t → piece_at n b more ≡ Err (code_at (b ∷ more))
    go true h = let white = o.white in let dash = o.dash in let letter = o.letter in let digit = o.digit in rw (white, dash, letter, digit, q, e, h) refl
    go false h = let white = o.white in let dash = o.dash in let letter = o.letter in let digit = o.digit in rw (white, dash, letter, digit, q, e, h) refl

string_read : (n : Bool) (b : ℕ) (more : List ℕ) (o : Option ℕ) → IsOtherFirst b more → (b == 34) ≡ true → closed more ≡ o → Reads n b more (string_in o more)
string_read n b more None o q e = string_lost n b more o q e
string_read n b more (Some k) o q e = string_found n b more k o q e

slash_read : (n : Bool) (b : ℕ) (more : List ℕ) → IsOtherFirst b more → (b == 34) ≡ false → (b == 92) ≡ true → piece_at n b more ≡ Err (code_at (b ∷ more))
unfolding piece_at
slash_read n b more o q s = let white = o.white in let dash = o.dash in let letter = o.letter in let digit = o.digit in rw (white, dash, letter, digit, q, s) refl

pick_sign : (t : Bool) (x s : Sign) (o : Option Sign) (P : Type 0) → (if t then Some x else o) ≡ Some s → (t ≡ true → x ≡ s → P) → (o ≡ Some s → P) → P
pick_sign true x s o P e h k = h refl cc
pick_sign false x s o P e h k = k e

two_bytes : (b c m k : ℕ) (x s : Sign) → sign_text x ≡ m ∷ k ∷ [] → (b == m && c == k) ≡ true → x ≡ s → b ∷ c ∷ [] ≡ sign_text s
two_bytes b c m k x s t h e =
    let parts = both (b == m) (c == k) h in
    let first : b ≡ m = eqb-true b m parts.0 in
    let second : c ≡ k = eqb-true c k parts.1 in
    let same : b ∷ c ∷ [] ≡ m ∷ k ∷ [] = cc in
    same ∙ sym t ∙ ap sign_text e

one_byte : (b m : ℕ) (x s : Sign) → sign_text x ≡ m ∷ [] → (b == m) ≡ true → x ≡ s → b ∷ [] ≡ sign_text s
one_byte b m x s t h e = ap (λ (z : ℕ). z ∷ []) (eqb-true b m h) ∙ sym t ∙ ap sign_text e

pub double_text : (b c : ℕ) (s : Sign) → double_sign b c ≡ Some s → b ∷ c ∷ [] ≡ sign_text s
double_text b c s e =
    let P : Type 0 = b ∷ c ∷ [] ≡ sign_text s in
    let none : Option Sign = None in
    let star = if b == 42 && c == 42 then Some sn.StarStar else none in
    let greater = if b == 62 && c == 61 then Some sn.GreaterEqual else star in
    let different = if b == 47 && c == 61 then Some sn.NotEqual else greater in
    let arrow = if b == 61 && c == 62 then Some sn.Arrow else different in
    let less = if b == 60 && c == 61 then Some sn.LessEqual else arrow in
    let box = if b == 60 && c == 62 then Some sn.Unconstrained else less in
    pick_sign (b == 58 && c == 61) sn.Becomes s box P e (two_bytes b c 58 61 sn.Becomes s refl)
    (λ e. pick_sign (b == 60 && c == 62) sn.Unconstrained s less P e (two_bytes b c 60 62 sn.Unconstrained s refl)
    (λ e. pick_sign (b == 60 && c == 61) sn.LessEqual s arrow P e (two_bytes b c 60 61 sn.LessEqual s refl)
    (λ e. pick_sign (b == 61 && c == 62) sn.Arrow s different P e (two_bytes b c 61 62 sn.Arrow s refl)
    (λ e. pick_sign (b == 47 && c == 61) sn.NotEqual s greater P e (two_bytes b c 47 61 sn.NotEqual s refl)
    (λ e. pick_sign (b == 62 && c == 61) sn.GreaterEqual s star P e (two_bytes b c 62 61 sn.GreaterEqual s refl)
    (λ e. pick_sign (b == 42 && c == 42) sn.StarStar s none P e (two_bytes b c 42 42 sn.StarStar s refl)
    (λ e. cc)))))))

single_text : (b : ℕ) (s : Sign) → single_sign b ≡ Some s → b ∷ [] ≡ sign_text s
single_text b s e =
    let P : Type 0 = b ∷ [] ≡ sign_text s in
    let none : Option Sign = None in
    let from15 = if b == 39 then Some sn.Tick else none in
    let from14 = if b == 47 then Some sn.Slash else from15 in
    let from13 = if b == 42 then Some sn.Star else from14 in
    let from12 = if b == 38 then Some sn.Ampersand else from13 in
    let from11 = if b == 45 then Some sn.Minus else from12 in
    let from10 = if b == 43 then Some sn.Plus else from11 in
    let from9 = if b == 62 then Some sn.Greater else from10 in
    let from8 = if b == 60 then Some sn.Less else from9 in
    let from7 = if b == 61 then Some sn.Equal else from8 in
    let from6 = if b == 124 then Some sn.Bar else from7 in
    let from5 = if b == 58 then Some sn.Colon else from6 in
    let from4 = if b == 41 then Some sn.Close else from5 in
    let from3 = if b == 40 then Some sn.Open else from4 in
    let from2 = if b == 46 then Some sn.Dot else from3 in
    let from1 = if b == 44 then Some sn.Comma else from2 in
    let from0 = if b == 59 then Some sn.Semicolon else from1 in
    pick_sign (b == 59) sn.Semicolon s from1 P e (one_byte b 59 sn.Semicolon s refl)
    (λ e. pick_sign (b == 44) sn.Comma s from2 P e (one_byte b 44 sn.Comma s refl)
    (λ e. pick_sign (b == 46) sn.Dot s from3 P e (one_byte b 46 sn.Dot s refl)
    (λ e. pick_sign (b == 40) sn.Open s from4 P e (one_byte b 40 sn.Open s refl)
    (λ e. pick_sign (b == 41) sn.Close s from5 P e (one_byte b 41 sn.Close s refl)
    (λ e. pick_sign (b == 58) sn.Colon s from6 P e (one_byte b 58 sn.Colon s refl)
    (λ e. pick_sign (b == 124) sn.Bar s from7 P e (one_byte b 124 sn.Bar s refl)
    (λ e. pick_sign (b == 61) sn.Equal s from8 P e (one_byte b 61 sn.Equal s refl)
    (λ e. pick_sign (b == 60) sn.Less s from9 P e (one_byte b 60 sn.Less s refl)
    (λ e. pick_sign (b == 62) sn.Greater s from10 P e (one_byte b 62 sn.Greater s refl)
    (λ e. pick_sign (b == 43) sn.Plus s from11 P e (one_byte b 43 sn.Plus s refl)
    (λ e. pick_sign (b == 45) sn.Minus s from12 P e (one_byte b 45 sn.Minus s refl)
    (λ e. pick_sign (b == 38) sn.Ampersand s from13 P e (one_byte b 38 sn.Ampersand s refl)
    (λ e. pick_sign (b == 42) sn.Star s from14 P e (one_byte b 42 sn.Star s refl)
    (λ e. pick_sign (b == 47) sn.Slash s from15 P e (one_byte b 47 sn.Slash s refl)
    (λ e. pick_sign (b == 39) sn.Tick s none P e (one_byte b 39 sn.Tick s refl)
    (λ e. cc))))))))))))))))

-- behind the other forms
pub record IsSignFirst (n : Bool) (b : ℕ) (more : List ℕ) : Type 0 where
  pub read : piece_at n b more ≡ sign_at b more
  pub code : code_at (b ∷ more) ≡ X1

single_read : (n : Bool) (b : ℕ) (more : List ℕ) (o : Option Sign) → single_sign b ≡ o → piece_at n b more ≡ single_found o → code_at (b ∷ more) ≡ X1 → Reads n b more (option_map mark o)
single_read n b more None e read code = read ∙ ap (λ (r : Rule). let z : Found = Err r in z) (sym code)
single_read n b more (Some s) e read code =
    let text : b ∷ [] ≡ sign_text s = single_text b s e in
    record { kind = tt; behind = more; split = ap (λ (z : List ℕ). z ++ more) text; verdict = inl (tt, read ∙ sized (element_for (mark s)) 1 (length (sign_text s)) (ap length text)) }

double_read : (n : Bool) (b c : ℕ) (more : List ℕ) (o : Option Sign) → double_sign b c ≡ o → piece_at n b (c ∷ more) ≡ sign_found o (single_found (single_sign b)) → code_at (b ∷ c ∷ more) ≡ X1
    → Reads n b (c ∷ more) (pick o (option_map mark (single_sign b)))
double_read n b c more None e read code = single_read n b (c ∷ more) (single_sign b) refl read code
double_read n b c more (Some s) e read code =
    let text : b ∷ c ∷ [] ≡ sign_text s = double_text b c s e in
    record { kind = tt; behind = more; split = ap (λ (z : List ℕ). z ++ more) text; verdict = inl (tt, read ∙ sized (element_for (mark s)) 2 (length (sign_text s)) (ap length text)) }

sign_read : (n : Bool) (b : ℕ) (more : List ℕ) → IsSignFirst n b more → Reads n b more (sign_piece b more)
unfolding sign_at
sign_read n b [] f = single_read n b [] (single_sign b) refl f.read f.code
sign_read n b (c ∷ more) f = double_read n b c more (double_sign b c) refl f.read f.code

character_read : (n : Bool) (b : ℕ) (more : List ℕ) → IsOtherFirst b more → (b == 34) ≡ false → (b == 92) ≡ false → (b == 39 && not n) ≡ true → Reads n b more (character_piece more (sign_piece b more))
unfolding piece_at character_at
character_read n b [] o q s t =
    let white = o.white in let dash = o.dash in let letter = o.letter in let digit = o.digit in
    sign_read n b [] (record { read = rw (white, dash, letter, digit, q, s, t) refl; code = rw (letter, digit, q, s) refl })
character_read n b (c ∷ []) o q s t =
    let white = o.white in let dash = o.dash in let letter = o.letter in let digit = o.digit in
    sign_read n b (c ∷ []) (record { read = rw (white, dash, letter, digit, q, s, t) refl; code = rw (letter, digit, q, s) refl })
character_read n b (c ∷ d ∷ more) o q s t = go (is_printable c && d == 39) refl
  where
    go : (u : Bool) → (is_printable c && d == 39) ≡ u → Reads n b (c ∷ d ∷ more) (character_in u c (sign_piece b (c ∷ d ∷ more)))
    go true h =
        let white = o.white in let dash = o.dash in let letter = o.letter in let digit = o.digit in
        let parts = both (is_printable c) (d == 39) h in
        let tick = both (b == 39) (not n) t in
        let first : b ≡ 39 = eqb-true b 39 tick.0 in
        let last : d ≡ 39 = eqb-true d 39 parts.1 in
        let plain : n ≡ false = not_true n tick.1 in
        record { kind = (parts.0, plain); behind = more; split = (let same : b ∷ c ∷ d ∷ more ≡ 39 ∷ c ∷ 39 ∷ more = cc in same); verdict = inl (tt, rw (white, dash, letter, digit, q, s, t, h) refl) }
      where
        not_true : (n : Bool) → not n ≡ true → n ≡ false
        not_true true h = let z : false ≡ true = h in cc
        not_true false h = refl
    go false h =
        let white = o.white in let dash = o.dash in let letter = o.letter in let digit = o.digit in
        sign_read n b (c ∷ d ∷ more) (record { read = rw (white, dash, letter, digit, q, s, t, h) refl; code = rw (letter, digit, q, s) refl })

last_read : (n : Bool) (b : ℕ) (more : List ℕ) → IsOtherFirst b more → (b == 34) ≡ false → (b == 92) ≡ false → (b == 39 && not n) ≡ false → Reads n b more (sign_piece b more)
unfolding piece_at
last_read n b more o q s t =
    let white = o.white in let dash = o.dash in let letter = o.letter in let digit = o.digit in
    sign_read n b more (record { read = rw (white, dash, letter, digit, q, s, t) refl; code = rw (letter, digit, q, s) refl })

read_in : (n : Bool) (b : ℕ) (more : List ℕ) (white dash letter digit quote slash tick : Bool) → is_blank b ≡ white → is_comment b more ≡ dash → is_letter b ≡ letter → is_digit b ≡ digit
    → (b == 34) ≡ quote → (b == 92) ≡ slash → (b == 39 && not n) ≡ tick → Reads n b more (widest_in white dash letter digit quote slash tick b more)
read_in n b more true dash letter digit quote slash tick h1 h2 h3 h4 h5 h6 h7 = space_read n b more h1
read_in n b more false true letter digit quote slash tick h1 h2 h3 h4 h5 h6 h7 = comment_read n b more h1 h2
read_in n b more false false true digit quote slash tick h1 h2 h3 h4 h5 h6 h7 = letter_read n b more (record { white = h1; dash = h2; letter = h3 })
read_in n b more false false false true quote slash tick h1 h2 h3 h4 h5 h6 h7 = digits_read n b more (record { white = h1; dash = h2; letter = h3; digit = h4 })
read_in n b more false false false false true slash tick h1 h2 h3 h4 h5 h6 h7 = string_read n b more (closed more) (record { white = h1; dash = h2; letter = h3; digit = h4 }) h5 refl
read_in n b more false false false false false true tick h1 h2 h3 h4 h5 h6 h7 = slash_read n b more (record { white = h1; dash = h2; letter = h3; digit = h4 }) h5 h6
read_in n b more false false false false false false true h1 h2 h3 h4 h5 h6 h7 = character_read n b more (record { white = h1; dash = h2; letter = h3; digit = h4 }) h5 h6 h7
read_in n b more false false false false false false false h1 h2 h3 h4 h5 h6 h7 = last_read n b more (record { white = h1; dash = h2; letter = h3; digit = h4 }) h5 h6 h7

-- the lexer reads the longest piece
pub widest_read : (n : Bool) (b : ℕ) (more : List ℕ) → Reads n b more (widest n b more)
unfolding widest
widest_read n b more = read_in n b more (is_blank b) (is_comment b more) (is_letter b) (is_digit b) (b == 34) (b == 92) (b == 39 && not n) refl refl refl refl refl refl refl
