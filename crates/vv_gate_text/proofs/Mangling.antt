-- The Verilog name of a VHDL name is an identifier, and two names have two.
use Rattle.std.proofs.Common.{◌≡◌, ℕ, Bool, true, false, cond, List, [], ◌∷◌, ◌++◌, refl, sym, ap, ◌∙◌}
use Rattle.std.proofs.lemmas.Bool.{false_from_ne_true}
use Rattle.std.proofs.lemmas.Bool.Decides.{Decides-eqb}
use Rattle.std.proofs.lemmas.List.{append_cancel_right}
use Rattle.std.proofs.lemmas.List.Elements.{recursion_from_All}
use Rattle.std.proofs.lemmas.List.Folds.{list_all-append}
use Rattle.std.specs.List.{list_all, AllByRecursion}
use Rattle.std.specs.Prelude.{codes, not, ◌&&◌, ◌||◌, ◌==◌, nat_le}
use Rattle.vv_gate.specs.Whole as gates
use Rattle.vv_gate_text.specs.Names.{mangled}
use Rattle.vv_vast.proofs.Cutting.{of_one}
use Rattle.vv_vast.specs.Tokens.{is_letter, is_digit, is_run_byte}
use Rattle.vv_vast.specs.Words.{reserved, is_reserved, begins_identifier, IsIdentifier}

no_true : false ≡ true → ⊥
no_true e = cc

-- a letter of a VHDL name, and a byte of one
letter : (b : ℕ) → gates.is_letter b ≡ true → is_letter b ≡ true
letter b e = ap (λ l. l || (nat_le 65 b && nat_le b 90)) e

run_byte : (b : ℕ) → gates.is_name_byte b ≡ true → is_run_byte b ≡ true
run_byte b e = weaker (gates.is_letter b) (nat_le 65 b && nat_le b 90) (is_digit b) (b == 95) (b == 36) e
  where
    weaker : (l u d s m : Bool) → (l || (d || s)) ≡ true → ((l || u) || (d || (s || m))) ≡ true
    weaker true u d s m e = refl
    weaker false true d s m e = refl
    weaker false false true s m e = refl
    weaker false false false true m e = refl
    weaker false false false false m e = absurd (no_true e)

abbrev is_other : ℕ → Bool
is_other b = not (b == 36)

not_true : (b : Bool) → (b ≡ true → ⊥) → not b ≡ true
not_true true h = absurd (h refl)
not_true false h = refl

no_dollar : (b : ℕ) → gates.is_name_byte b ≡ true → is_other b ≡ true
no_dollar b e =
    not_true (b == 36) (λ t. no_true (at36 ((Decides-eqb b 36).0 t)))
  where
    at36 : b ≡ 36 → false ≡ true
    at36 s = sym (ap gates.is_name_byte s) ∙ e

letter_is_byte : (b : ℕ) → gates.is_letter b ≡ true → gates.is_name_byte b ≡ true
letter_is_byte b e = ap (λ l. l || (gates.is_digit b || gates.is_underscore b)) e

all_bytes : (p : ℕ → Bool) → ((b : ℕ) → gates.is_name_byte b ≡ true → p b ≡ true) → (bs : List ℕ) → AllByRecursion (λ c. gates.is_name_byte c ≡ true) bs → list_all p bs ≡ true
all_bytes p f [] h = refl
all_bytes p f (b ∷ bs) h = ap (λ r. r && list_all p bs) (f b h.0) ∙ all_bytes p f bs h.1

all_of_name : (p : ℕ → Bool) → ((b : ℕ) → gates.is_name_byte b ≡ true → p b ≡ true) → (t : List ℕ) → gates.IsName t → list_all p t ≡ true
all_of_name p f [] h = absurd h
all_of_name p f (b ∷ bs) h =
    ap (λ r. r && list_all p bs) (f b (letter_is_byte b h.0)) ∙ all_bytes p f bs (recursion_from_All (λ c. gates.is_name_byte c ≡ true) bs h.1)

abbrev lacks_dollar : List ℕ → Bool
lacks_dollar = list_all is_other

reserved_lack_dollar : list_all lacks_dollar reserved ≡ true
unfolding reserved
reserved_lack_dollar = refl

ends_false : (a : Bool) → (a && false) ≡ false
ends_false true = refl
ends_false false = refl

dollar_at_end : (t : List ℕ) → lacks_dollar (t ++ codes "$") ≡ false
dollar_at_end t = list_all-append is_other t (codes "$") ∙ ends_false (lacks_dollar t)

free_with_dollar : (t : List ℕ) → is_reserved (t ++ codes "$") ≡ false
free_with_dollar t =
    false_from_ne_true (is_reserved (t ++ codes "$")) (λ e. no_true (sym (dollar_at_end t) ∙ of_one lacks_dollar (t ++ codes "$") reserved e reserved_lack_dollar))

begins : (t more : List ℕ) → gates.IsName t → begins_identifier (t ++ more) ≡ true
begins [] more h = absurd h
begins (b ∷ bs) more h = ap (λ l. l || b == 95) (letter b h.0)

begins_alone : (t : List ℕ) → gates.IsName t → begins_identifier t ≡ true
begins_alone [] h = absurd h
begins_alone (b ∷ bs) h = ap (λ l. l || b == 95) (letter b h.0)

identifier_at : (t : List ℕ) (b : Bool) → is_reserved t ≡ b → gates.IsName t → IsIdentifier (cond b (t ++ codes "$") t)
identifier_at t true e h = record {
  begins = begins t (codes "$") h;
  run = list_all-append is_run_byte t (codes "$") ∙ ap (λ r. r && true) (all_of_name is_run_byte run_byte t h);
  free = free_with_dollar t;
}
identifier_at t false e h = record {
  begins = begins_alone t h;
  run = all_of_name is_run_byte run_byte t h;
  free = e;
}

pub IsIdentifier-mangled : (t : List ℕ) → gates.IsName t → IsIdentifier (mangled t)
IsIdentifier-mangled t h = identifier_at t (is_reserved t) refl h

same_at : (s t : List ℕ) (b d : Bool) → lacks_dollar s ≡ true → lacks_dollar t ≡ true → cond b (s ++ codes "$") s ≡ cond d (t ++ codes "$") t → s ≡ t
same_at s t true true h k e = append_cancel_right s t (codes "$") e
same_at s t true false h k e = absurd (no_true (sym (dollar_at_end s) ∙ (ap lacks_dollar e ∙ k)))
same_at s t false true h k e = absurd (no_true (sym (dollar_at_end t) ∙ (ap lacks_dollar (sym e) ∙ h)))
same_at s t false false h k e = e

pub mangled_injective : (s t : List ℕ) → gates.IsName s → gates.IsName t → mangled s ≡ mangled t → s ≡ t
mangled_injective s t h k e = same_at s t (is_reserved s) (is_reserved t) (all_of_name is_other no_dollar s h) (all_of_name is_other no_dollar t k) e
