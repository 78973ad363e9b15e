-- A text is looked up among the words of its length.
use Rattle.std.proofs.Common.{◌≡◌, ℕ, ◌==◌, Bool, true, false, not, ◌&&◌, if◌then◌else◌, List, [], ◌∷◌, ◌++◌, length, map, Option, Some, None, refl, sym, ap, ◌∙◌}
use Rattle.std.specs.Char.{to_ascii_lowercase}
use Rattle.std.proofs.lemmas.List.{length-map}
use Rattle.std.proofs.lemmas.Slice.Eq.{bytes_eq-Decides}
use Rattle.std.proofs.lemmas.Bool.{eq-eqb, false_from_ne_true, and_parts}
use Rattle.vv_vlex.specs.declared.word.Word.{Word}
use Rattle.vv_vlex.specs.Words.{is_spelled, lookup}

abbrev pub Table : Type 0
Table = List (List ℕ × Word)

-- no word of the table has this length
abbrev pub none_of : ℕ → Table → Bool
none_of n [] = true
none_of n (k ∷ more) = not (length k.0 == n) && none_of n more

not_here : (word text : List ℕ) (n : ℕ) → length text ≡ n → not (length word == n) ≡ true → is_spelled word text ≡ false
unfolding is_spelled
not_here word text n e h = false_from_ne_true (is_spelled word text) (λ t.
    let folded = ap length ((bytes_eq-Decides (map to_ascii_lowercase word) (map to_ascii_lowercase text)).0 t) in
    let same : length word ≡ n = sym (length-map word to_ascii_lowercase) ∙ (folded ∙ (length-map text to_ascii_lowercase ∙ e)) in
    let found : (length word == n) ≡ true = eq-eqb (length word) n same in
    let z : false ≡ true = ap not (sym found) ∙ h in cc)

-- words of other lengths in front are passed over
pub lookup-front : (a b : Table) (text : List ℕ) (n : ℕ) → length text ≡ n → none_of n a ≡ true → lookup (a ++ b) text ≡ lookup b text
lookup-front [] b text n e h = refl
lookup-front (k ∷ a) b text n e h =
    let p = and_parts (not (length k.0 == n)) (none_of n a) h in
    ap (λ (t : Bool). if t then Some k.1 else lookup (a ++ b) text) (not_here k.0 text n e p.0) ∙ lookup-front a b text n e p.1

lookup-none : (c : Table) (text : List ℕ) (n : ℕ) → length text ≡ n → none_of n c ≡ true → lookup c text ≡ None
lookup-none [] text n e h = refl
lookup-none (k ∷ c) text n e h =
    let p = and_parts (not (length k.0 == n)) (none_of n c) h in
    ap (λ (t : Bool). if t then Some k.1 else lookup c text) (not_here k.0 text n e p.0) ∙ lookup-none c text n e p.1

-- and so are those behind
pub lookup-back : (b c : Table) (text : List ℕ) (n : ℕ) → length text ≡ n → none_of n c ≡ true → lookup (b ++ c) text ≡ lookup b text
lookup-back [] c text n e h = lookup-none c text n e h
lookup-back (k ∷ b) c text n e h = ap (λ (o : Option Word). if is_spelled k.0 text then Some k.1 else o) (lookup-back b c text n e h)

-- a text is found in a table exactly as among the words of its length
pub among : (a b c : Table) (text : List ℕ) (n : ℕ) → length text ≡ n → none_of n a ≡ true → none_of n c ≡ true → lookup b text ≡ lookup (a ++ (b ++ c)) text
among a b c text n e front back = sym (lookup-front a (b ++ c) text n e front ∙ lookup-back b c text n e back)
