-- The table of reserved words has each of them, and no other text.
use Rattle.std.proofs.Common.{◌≡◌, ℕ, Bool, true, false, if◌then◌else◌, List, [], ◌∷◌, map, All, Contains, Option, Some, bytes_eq, refl, sym, ap, ◌∙◌, subst}
use Rattle.std.specs.Set.{is_member}
use Rattle.std.proofs.lemmas.Slice.Eq.{bytes_eq-Decides}
use Rattle.std.proofs.lemmas.Str.Ascii.{lowercase-lowercase}
use Rattle.std.proofs.lemmas.Map.Made.{is_member-Decides}
use Rattle.std.proofs.lemmas.List.Elements.{All-nil, All-cons, All-head, All-tail}
use Rattle.vv_vlex.specs.declared.word.Word.{Word}
use Rattle.vv_vlex.specs.declared.word.TheConstants.{WORDS}
use Rattle.vv_vlex.specs.Elements.{folded}
use Rattle.vv_vlex.specs.Words.{is_spelled, lookup, word_of}
use Rattle.vv_vlex_laws.specs.Reserved.{reserved_words, AreReserved}

each : {A B : Type 0} (f g : A → B) (xs : List A) → map f xs ≡ map g xs → All (λ x. f x ≡ g x) xs
each f g [] e = All-nil (λ x. f x ≡ g x)
each f g (x ∷ xs) e =
    let here : f x ≡ g x = cc in
    let behind : map f xs ≡ map g xs = cc in
    All-cons (λ x. f x ≡ g x) x xs here (each f g xs behind)

found_words : map (λ (w : List ℕ × Word). word_of w.0) reserved_words ≡ map (λ (w : List ℕ × Word). Some w.1) reserved_words
unfolding word_of is_spelled
found_words = refl

folded-folded : (text : List ℕ) → folded (folded text) ≡ folded text
folded-folded [] = refl
folded-folded (b ∷ text) = let here = lowercase-lowercase b in let behind = folded-folded text in cc

spelled_folded : (word_text text : List ℕ) → is_spelled word_text text ≡ is_spelled word_text (folded text)
unfolding is_spelled
spelled_folded word_text text = ap (bytes_eq (folded word_text)) (sym (folded-folded text))

lookup_folded : (ks : List (List ℕ × Word)) (text : List ℕ) → lookup ks text ≡ lookup ks (folded text)
lookup_folded [] text = refl
lookup_folded (k ∷ ks) text =
    ap (λ (t : Bool). if t then Some k.1 else lookup ks text) (spelled_folded k.0 text)
    ∙ ap (λ (o : Option Word). if is_spelled k.0 (folded text) then Some k.1 else o) (lookup_folded ks text)

any_case : (text : List ℕ) → word_of text ≡ word_of (folded text)
unfolding word_of
any_case text = lookup_folded (map (λ k. (k.0.now, k.1)) WORDS) text

abbrev pub words : List (List ℕ)
words = map (λ (w : List ℕ × Word). w.0) reserved_words

abbrev pub table : List (List ℕ × Word)
table = map (λ k. (k.0.now, k.1)) WORDS

abbrev pub is_listed : List ℕ × Word → Bool
is_listed k = is_member bytes_eq words (folded k.0)

table_words : map is_listed table ≡ map (λ (k : List ℕ × Word). true) table
table_words = refl

spelled_same : (a b : List ℕ) → is_spelled a b ≡ true → folded a ≡ folded b
unfolding is_spelled
spelled_same a b h = (bytes_eq-Decides (folded a) (folded b)).0 h

found : (ks : List (List ℕ × Word)) (text : List ℕ) (w : Word) → lookup ks text ≡ Some w → All (λ k. is_listed k ≡ true) ks → is_member bytes_eq words (folded text) ≡ true
found [] text w e h = cc
found (k ∷ more) text w e h = go (is_spelled k.0 text) refl e (λ g. found more text w g (All-tail (λ (k : List ℕ × Word). is_listed k ≡ true) k more h))
  where
    go : (t : Bool) → is_spelled k.0 text ≡ t → (if t then Some k.1 else lookup more text) ≡ Some w → (lookup more text ≡ Some w → is_member bytes_eq words (folded text) ≡ true) → is_member bytes_eq words (folded text) ≡ true
    go true f g behind = subst (λ (z : List ℕ). is_member bytes_eq words z ≡ true) (spelled_same k.0 text f) (All-head (λ (k : List ℕ × Word). is_listed k ≡ true) k more h)
    go false f g behind = behind g

only : (text : List ℕ) (w : Word) → word_of text ≡ Some w → Contains words (folded text)
unfolding word_of
only text w e = (is_member-Decides bytes_eq-Decides words (folded text)).0 (found table text w e (each is_listed (λ (k : List ℕ × Word). true) table table_words))

pub all_reserved : AreReserved
all_reserved = record {
  each = each (λ (w : List ℕ × Word). word_of w.0) (λ (w : List ℕ × Word). Some w.1) reserved_words found_words;
  any_case = any_case;
  only = only;
}
