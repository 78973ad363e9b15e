-- A text is cut into tokens in at most one way: white space ends where a token begins, and each token is the longest one there.
use Rattle.std.proofs.Common.{◌≡◌, ℕ, ◌<◌, Bool, true, false, not, ◌==◌, ◌⊎◌, inl, inr, ⊎_elim, List, [], ◌∷◌, ◌++◌, length, refl, sym, ap, ap₂, ◌∙◌, arith, eqb-true, append-nil, append_assoc}
use Rattle.std.specs.List.{list_all}
use Rattle.vv_vast.proofs.Cutting.{and-left, and-right, or-cases, of_one, digit-is_run}
use Rattle.vv_vast.proofs.Splits.{first_same, rest_same}
use Rattle.vv_vast.specs.Tokens.{is_space, is_digit, is_run_byte, signs, IsToken, run, sized, sign, IsLongestToken, IsCut}

-- the text begins with a byte that is no white space
abbrev begins_ink : List ℕ → Bool
begins_ink [] = false
begins_ink (b ∷ more) = not (is_space b)

ink-append : (t more : List ℕ) → begins_ink t ≡ true → begins_ink (t ++ more) ≡ true
ink-append [] more e = cc
ink-append (b ∷ t) more e = e

space-is_no_run : (b : ℕ) → is_space b ≡ true → is_run_byte b ≡ false
space-is_no_run b h =
    or-cases (b == 32) _ (is_run_byte b ≡ false) h (λ e. ap is_run_byte (eqb-true b 32 e))
    (λ h. or-cases (b == 9) _ (is_run_byte b ≡ false) h (λ e. ap is_run_byte (eqb-true b 9 e))
    (λ h. or-cases (b == 10) _ (is_run_byte b ≡ false) h (λ e. ap is_run_byte (eqb-true b 10 e)) (λ e. ap is_run_byte (eqb-true b 13 e))))

run-is_ink : (b : ℕ) → is_run_byte b ≡ true → not (is_space b) ≡ true
run-is_ink b r = either (is_space b) (λ s. let z : true ≡ false = sym r ∙ space-is_no_run b s in cc)
  where
    either : (s : Bool) → (s ≡ true → ⊥) → not s ≡ true
    either true never = absurd (never refl)
    either false never = refl

run_begins : (t : List ℕ) → 0 < length t → list_all is_run_byte t ≡ true → begins_ink t ≡ true
run_begins [] some h = absurd (omega arith)
run_begins (b ∷ t) some h = run-is_ink b (and-left (is_run_byte b) (list_all is_run_byte t) h)

digits_begin : (digits more : List ℕ) → 0 < length digits → list_all is_digit digits ≡ true → begins_ink (digits ++ more) ≡ true
digits_begin [] more some h = absurd (omega arith)
digits_begin (b ∷ digits) more some h = run-is_ink b (digit-is_run b (and-left (is_digit b) (list_all is_digit digits) h))

-- a token begins with a byte that is no white space
token_begins : (t : List ℕ) → IsToken t → begins_ink t ≡ true
token_begins t (run some h) = run_begins t some h
token_begins t (sized digits digit some d r is) = ap begins_ink is ∙ ink-append (digits ++ (39 ∷ 98 ∷ [])) digit (digits_begin digits (39 ∷ 98 ∷ []) some d)
token_begins t (sign s) = of_one begins_ink t signs s refl

space_no_ink : (b : ℕ) → is_space b ≡ true → not (is_space b) ≡ true → ⊥
space_no_ink b s n = let z : false ≡ true = sym (ap not s) ∙ n in cc

-- white space ends where ink begins
one_space : (s z t u : List ℕ) → list_all is_space s ≡ true → list_all is_space z ≡ true → begins_ink t ≡ true → begins_ink u ≡ true → s ++ t ≡ z ++ u → t ≡ u
one_space [] [] t u hs hz ht hu e = e
one_space [] (b ∷ z) t u hs hz ht hu e =
    absurd (space_no_ink b (and-left (is_space b) (list_all is_space z) hz) (sym (ap begins_ink e) ∙ ht))
one_space (b ∷ s) [] t u hs hz ht hu e =
    absurd (space_no_ink b (and-left (is_space b) (list_all is_space s) hs) (ap begins_ink e ∙ hu))
one_space (b ∷ s) (c ∷ z) t u hs hz ht hu e =
    one_space s z t u (and-right (is_space b) (list_all is_space s) hs) (and-right (is_space c) (list_all is_space z) hz) ht hu (rest_same e)

-- a text of white space has no token
no_token : (text s t : List ℕ) → list_all is_space text ≡ true → text ≡ s ++ t → begins_ink t ≡ true → ⊥
no_token text [] [] h e b = cc
no_token text [] (c ∷ t) h e b = space_no_ink c (and-left (is_space c) (list_all is_space t) (sym (ap (list_all is_space) e) ∙ h)) b
no_token text (c ∷ s) t h e b =
    no_token (s ++ t) s t (and-right (is_space c) (list_all is_space (s ++ t)) (sym (ap (list_all is_space) e) ∙ h)) refl b

-- t goes on by more to u
abbrev GoesOn : List ℕ → List ℕ → List ℕ → List ℕ → Type 0
GoesOn t rest u after = (more : List ℕ) × (u ≡ t ++ more) × (rest ≡ more ++ after)

-- of two beginnings of a text one goes on to the other
one_goes_on : (t rest u after : List ℕ) → t ++ rest ≡ u ++ after → GoesOn t rest u after ⊎ GoesOn u after t rest
one_goes_on [] rest u after e = inl (u, refl, e)
one_goes_on (b ∷ t) rest [] after e = inr (b ∷ t, refl, sym e)
one_goes_on (b ∷ t) rest (c ∷ u) after e =
    ⊎_elim (λ g. inl (g.0, ap₂ (λ h l. h ∷ l) (sym (first_same e)) g.1, g.2))
    (λ g. inr (g.0, ap₂ (λ h l. h ∷ l) (first_same e) g.1, g.2))
    (one_goes_on t rest u after (rest_same e))

-- the longest token does not go on
goes_nowhere : (t rest u after : List ℕ) → IsLongestToken t rest → IsToken u → GoesOn t rest u after → (t ≡ u) × (rest ≡ after)
goes_nowhere t rest u after l h g =
    let none : g.0 ≡ [] = l.longest g.0 after g.2 (rw (← g.1) h) in
    (sym (g.1 ∙ ap (λ m. t ++ m) none ∙ append-nil t), g.2 ∙ ap (λ m. m ++ after) none)

one_token : (t rest u after : List ℕ) → IsLongestToken t rest → IsLongestToken u after → t ++ rest ≡ u ++ after → (t ≡ u) × (rest ≡ after)
one_token t rest u after l m e =
    ⊎_elim (λ g. goes_nowhere t rest u after l m.token g)
    (λ g. let back = goes_nowhere u after t rest m l.token g in (sym back.0, sym back.1))
    (one_goes_on t rest u after e)

one_cut_same : (text text' : List ℕ) (tokens others : List (List ℕ)) → text ≡ text' → IsCut text tokens → IsCut text' others → tokens ≡ others
one_cut_same text text' [] [] e h k = refl
one_cut_same text text' [] (u ∷ others) e h k =
    absurd (no_token text k.0 (u ++ k.1) h (e ∙ k.3 ∙ append_assoc k.0 u k.1) (ink-append u k.1 (token_begins u k.4.token)))
one_cut_same text text' (t ∷ tokens) [] e h k =
    absurd (no_token text' h.0 (t ++ h.1) k (sym e ∙ h.3 ∙ append_assoc h.0 t h.1) (ink-append t h.1 (token_begins t h.4.token)))
one_cut_same text text' (t ∷ tokens) (u ∷ others) e h k =
    let begin = one_space h.0 k.0 (t ++ h.1) (u ++ k.1) h.2 k.2 (ink-append t h.1 (token_begins t h.4.token)) (ink-append u k.1 (token_begins u k.4.token)) (sym (h.3 ∙ append_assoc h.0 t h.1) ∙ e ∙ k.3 ∙ append_assoc k.0 u k.1) in
    let same = one_token t h.1 u k.1 h.4 k.4 begin in
    ap₂ (λ x xs. x ∷ xs) same.0 (one_cut_same h.1 k.1 tokens others same.1 h.5 k.5)

pub one_cut : (text : List ℕ) (tokens others : List (List ℕ)) → IsCut text tokens → IsCut text others → tokens ≡ others
one_cut text tokens others h k = one_cut_same text text tokens others refl h k
