-- How a text is cut, from its end on: white space, a sign, or a word in front of what is cut already.
use Rattle.std.proofs.Common.{◌≡◌, ℕ, ◌<◌, Bool, true, false, List, [], ◌∷◌, ◌++◌, length, refl, sym, ap, ◌∙◌, subst, arith}
use Rattle.std.proofs.lemmas.List.Folds.{list_all-append}
use Rattle.std.proofs.lemmas.Slice.Eq.{bytes_eq-Decides}
use Rattle.std.specs.List.{list_any, list_all}
use Rattle.std.specs.Prelude.{not, ◌&&◌, ◌||◌, ◌==◌}
use Rattle.std.specs.Str.{bytes_eq}
use Rattle.vv_vast.specs.Tokens.{is_space, is_digit, is_letter, is_run_byte, signs, is_sign, IsToken, run, sized, sign, IsCut}

pub and-left : (a b : Bool) → (a && b) ≡ true → a ≡ true
and-left true b e = refl
and-left false b e = cc

pub and-right : (a b : Bool) → (a && b) ≡ true → b ≡ true
and-right true b e = e
and-right false b e = cc

pub or-cases : (a b : Bool) (P : Type 0) → (a || b) ≡ true → (a ≡ true → P) → (b ≡ true → P) → P
or-cases true b P e f g = f refl
or-cases false b P e f g = g e

-- what holds of each word holds of one of them
pub of_one : (p : List ℕ → Bool) (t : List ℕ) (words : List (List ℕ)) → list_any (bytes_eq t) words ≡ true → list_all p words ≡ true → p t ≡ true
of_one p t [] h all = cc
of_one p t (w ∷ ws) h all =
    or-cases (bytes_eq t w) (list_any (bytes_eq t) ws) (p t ≡ true) h
    (λ e. ap p ((bytes_eq-Decides t w).0 e) ∙ and-left (p w) (list_all p ws) all)
    (λ e. of_one p t ws e (and-right (p w) (list_all p ws) all))

-- a byte of a word or a number, or `'`
abbrev pub is_part : ℕ → Bool
is_part b = is_run_byte b || b == 39

-- no word goes on into this text
abbrev pub breaks : List ℕ → Bool
breaks [] = true
breaks (b ∷ more) = not (is_part b)

abbrev pub begins_word : List ℕ → Bool
begins_word [] = false
begins_word (b ∷ more) = is_run_byte b

part-of_run : (b : ℕ) → is_run_byte b ≡ true → is_part b ≡ true
part-of_run b e = ap (λ r. r || b == 39) e

pub digit-is_run : (b : ℕ) → is_digit b ≡ true → is_run_byte b ≡ true
digit-is_run b e = either (is_letter b) (is_digit b) _ e
  where
    either : (l d o : Bool) → d ≡ true → (l || (d || o)) ≡ true
    either true d o e = refl
    either false d o e = ap (λ r. r || o) e

all_weaker : (p q : ℕ → Bool) → ((b : ℕ) → p b ≡ true → q b ≡ true) → (xs : List ℕ) → list_all p xs ≡ true → list_all q xs ≡ true
all_weaker p q f [] h = refl
all_weaker p q f (x ∷ xs) h =
    ap (λ r. r && list_all q xs) (f x (and-left (p x) (list_all p xs) h)) ∙ all_weaker p q f xs (and-right (p x) (list_all p xs) h)

all_both : (p : ℕ → Bool) (xs ys : List ℕ) → list_all p xs ≡ true → list_all p ys ≡ true → list_all p (xs ++ ys) ≡ true
all_both p xs ys h k = list_all-append p xs ys ∙ (ap (λ r. r && list_all p ys) h ∙ k)

-- a longer token than the word has a byte that is no part
no_part : (t more : List ℕ) (c : ℕ) → is_part c ≡ false → list_all is_part (t ++ c ∷ more) ≡ true → ⊥
no_part t more c e h =
    let k : list_all is_part (c ∷ more) ≡ true = and-right (list_all is_part t) _ (sym (list_all-append is_part t (c ∷ more)) ∙ h) in
    let l : is_part c ≡ true = and-left (is_part c) (list_all is_part more) k in
    let z : false ≡ true = sym e ∙ l in cc

sized_parts : (digits digit : List ℕ) → list_all is_digit digits ≡ true → list_all is_run_byte digit ≡ true → list_all is_part (digits ++ (39 ∷ 98 ∷ []) ++ digit) ≡ true
sized_parts digits digit d r =
    all_both is_part (digits ++ (39 ∷ 98 ∷ [])) digit
    (all_both is_part digits (39 ∷ 98 ∷ []) (all_weaker is_digit is_part (λ b e. part-of_run b (digit-is_run b e)) digits d) refl)
    (all_weaker is_run_byte is_part part-of_run digit r)

abbrev begins_sign : List ℕ → Bool
begins_sign t = not (begins_word t)

not_both : (b : Bool) → b ≡ true → not b ≡ true → ⊥
not_both true e f = let z : false ≡ true = f in cc
not_both false e f = let z : false ≡ true = e in cc

no_sign : (t : List ℕ) → begins_word t ≡ true → is_sign t ≡ true → ⊥
no_sign t w s = not_both (begins_word t) w (of_one begins_sign t signs s refl)

begins-append : (t more : List ℕ) → begins_word t ≡ true → begins_word (t ++ more) ≡ true
begins-append [] more e = cc
begins-append (b ∷ t) more e = e

no_longer : (t more : List ℕ) (c : ℕ) → begins_word t ≡ true → is_part c ≡ false → IsToken (t ++ c ∷ more) → ⊥
no_longer t more c w e (run some h) = no_part t more c e (all_weaker is_run_byte is_part part-of_run (t ++ c ∷ more) h)
no_longer t more c w e (sized digits digit some d r is) = no_part t more c e (ap (list_all is_part) is ∙ sized_parts digits digit d r)
no_longer t more c w e (sign s) = no_sign (t ++ c ∷ more) (begins-append t (c ∷ more) w) s

false_of_not : (b : Bool) → not b ≡ true → b ≡ false
false_of_not true e = let z : false ≡ true = e in cc
false_of_not false e = refl

longest_word : (t rest more after : List ℕ) → begins_word t ≡ true → breaks rest ≡ true → rest ≡ more ++ after → IsToken (t ++ more) → more ≡ []
longest_word t rest [] after w b e h = refl
longest_word t rest (c ∷ more) after w b e h = absurd (no_longer t more c w (false_of_not (is_part c) (sym (ap breaks e) ∙ b)) h)

first_digit : (digits one two : List ℕ) (b : ℕ) (xs : List ℕ) → 0 < length digits → list_all is_digit digits ≡ true → b ∷ xs ≡ digits ++ one ++ two → is_digit b ≡ true
first_digit [] one two b xs some d e = absurd (omega arith)
first_digit (x ∷ digits) one two b xs some d e = let same : b ≡ x = cc in ap is_digit same ∙ and-left (is_digit x) (list_all is_digit digits) d

longest_sign : (b : ℕ) (rest more after : List ℕ) → is_run_byte b ≡ false → ((c : ℕ) (xs ys : List ℕ) → rest ≡ c ∷ xs ++ ys → is_sign (b ∷ c ∷ xs) ≡ false)
    → rest ≡ more ++ after → IsToken (b ∷ more) → more ≡ []
longest_sign b rest [] after r s e h = refl
longest_sign b rest (c ∷ more) after r s e (run some h) =
    let z : false ≡ true = sym r ∙ and-left (is_run_byte b) (list_all is_run_byte (c ∷ more)) h in cc
longest_sign b rest (c ∷ more) after r s e (sized digits digit some d k is) =
    let z : false ≡ true = sym r ∙ digit-is_run b (first_digit digits (39 ∷ 98 ∷ []) digit b (c ∷ more) some d is) in cc
longest_sign b rest (c ∷ more) after r s e (sign h) = let z : false ≡ true = sym (s c more after e) ∙ h in cc

-- `IsCut`, as a record whose arguments are found
pub record Cut (text : List ℕ) (tokens : List (List ℕ)) : Type 0 where
  pub cut : IsCut text tokens

-- a word or a number in front of what is cut, where it ends
pub cut_word : (t : List ℕ) {rest : List ℕ} {tokens : List (List ℕ)} → IsToken t → begins_word t ≡ true → breaks rest ≡ true → Cut rest tokens → Cut (t ++ rest) (t ∷ tokens)
cut_word t {rest = rest} h w b k =
    record { cut = ([], rest, refl, refl, record { token = h; longest = λ more after e m. longest_word t rest more after w b e m }, k.cut) }

-- a sign of one byte in front of what is cut, where no longer sign stands
pub cut_sign : (b : ℕ) {rest : List ℕ} {tokens : List (List ℕ)} → is_sign (b ∷ []) ≡ true → is_run_byte b ≡ false
    → ((c : ℕ) (xs ys : List ℕ) → rest ≡ c ∷ xs ++ ys → is_sign (b ∷ c ∷ xs) ≡ false) → Cut rest tokens → Cut (b ∷ rest) ((b ∷ []) ∷ tokens)
cut_sign b {rest = rest} h r s k =
    record { cut = ([], rest, refl, refl, record { token = sign h; longest = λ more after e m. longest_sign b rest more after r s e m }, k.cut) }

space_cut : (b : ℕ) (rest : List ℕ) (tokens : List (List ℕ)) → is_space b ≡ true → IsCut rest tokens → IsCut (b ∷ rest) tokens
space_cut b rest [] e k = ap (λ r. r && list_all is_space rest) e ∙ k
space_cut b rest (t ∷ tokens) e k =
    (b ∷ k.0, k.1, ap (λ r. r && list_all is_space k.0) e ∙ k.2, ap (λ l. b ∷ l) k.3, k.4, k.5)

-- white space in front of what is cut
pub cut_space : (b : ℕ) {rest : List ℕ} {tokens : List (List ℕ)} → is_space b ≡ true → Cut rest tokens → Cut (b ∷ rest) tokens
cut_space b {rest = rest} {tokens = tokens} e k = record { cut = space_cut b rest tokens e k.cut }

pub cut_same : {text text' : List ℕ} {tokens tokens' : List (List ℕ)} → text ≡ text' → tokens ≡ tokens' → Cut text' tokens' → Cut text tokens
cut_same {text' = text'} {tokens = tokens} e f k =
    subst (λ (l : List ℕ). Cut l tokens) (sym e) (subst (λ (l : List (List ℕ)). Cut text' l) (sym f) k)
