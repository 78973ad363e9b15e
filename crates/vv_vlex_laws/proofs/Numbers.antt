-- The longest number in front, as a piece.
use Rattle.std.proofs.Common.{◌≡◌, ℕ, zero, suc, ◌<◌, ◌≤◌, ◌+◌, Bool, true, false, ◌==◌, ◌&&◌, ◌||◌, nat_lt, ◌⊎◌, inl, inr, Some, None, add-one, List, [], ◌∷◌, ◌++◌, length, take, drop, refl, sym, ap, ◌∙◌, subst, append_assoc, take-append-drop, arith}
use Rattle.std.proofs.Math.Bool.{and-false}
use Rattle.std.proofs.lemmas.Bool.{eqb-true}
use Rattle.std.proofs.lemmas.List.{length-take-le, length-append, take_at, drop_at, append-nil}
use Rattle.vv_vlex.specs.declared.class.Class.TheVariants.{Decimal, Extended}
use Rattle.vv_vlex.specs.Bytes.{is_digit, begins, grouped}
use Rattle.vv_vlex.specs.Numbers.{value, is_base, exponent, Literal, longest, based, based_of, decimal_of, has_extended}
use Rattle.vv_vlex_laws.specs.Cut.{IsGrouped, Exponent, absent, plain, signed, exponent_text, power_digits, IsExponent, Piece, decimal, based as based_piece, text_of, IsPiece}
use Rattle.vv_vlex_laws.proofs.Grouped.{Group, grouped_text, group_of, group_within, group_exact, grouped-within, group_taken}

-- this one or a longer one
abbrev pub OrLonger : {A : Type 0} → (A → ℕ) → A → A → Type 0
OrLonger size found wanted = (found ≡ wanted) ⊎ (size wanted < size found)

abbrev pub exponent_size : Exponent → ℕ
exponent_size x = length (exponent_text x)

abbrev pub exponent_in : Bool → Bool → Bool → ℕ → List ℕ → Exponent
exponent_in true true s e more = plain e (take (grouped is_digit more) more)
exponent_in true false true e more = signed e (take (grouped is_digit (drop 1 more)) (drop 1 more))
exponent_in true false false e more = absent
exponent_in false d s e more = absent

-- the longest exponent in front
abbrev pub exponent_piece : List ℕ → Exponent
exponent_piece [] = absent
exponent_piece (e ∷ more) = exponent_in (e == 101 || e == 69) (begins is_digit more) (begins (λ c. c == 43) more && begins is_digit (drop 1 more)) e more

-- what the exponent in front is, by the way that it is read
pub record IsRead (bytes : List ℕ) (x : Exponent) : Type 0 where
  pub kind : IsExponent x
  pub rest : List ℕ
  pub split : bytes ≡ exponent_text x ++ rest
  pub read : exponent bytes ≡ (power_digits x, exponent_size x)

begun : (more : List ℕ) → begins is_digit more ≡ true → 0 < grouped is_digit more
begun [] h = let e : false ≡ true = h in cc
begun (b ∷ more) h = rw h (omega arith)

digits_taken : (more : List ℕ) → begins is_digit more ≡ true → IsGrouped Decimal (take (grouped is_digit more) more)
digits_taken more h = grouped_text Decimal (take (grouped is_digit more) more) (group_taken is_digit more (begun more h))

taken_long : (more : List ℕ) → length (take (grouped is_digit more) more) ≡ grouped is_digit more
taken_long more = length-take-le (grouped is_digit more) more (grouped-within is_digit more)

second : (more : List ℕ) → (begins (λ c. c == 43) more && begins is_digit (drop 1 more)) ≡ true → (more ≡ 43 ∷ drop 1 more) × (begins is_digit (drop 1 more) ≡ true)
second [] h = let e : false ≡ true = h in cc
second (b ∷ more) h = go (b == 43) refl h
  where
    go : (t : Bool) → (b == 43) ≡ t → (t && begins is_digit more) ≡ true → (b ∷ more ≡ 43 ∷ more) × (begins is_digit more ≡ true)
    go true e k = (ap (λ (x : ℕ). x ∷ more) (eqb-true b 43 e), k)
    go false e k = let z : false ≡ true = k in cc

pairs : (digits : List ℕ) (m n : ℕ) → m ≡ n → (let p : List ℕ × ℕ = (digits, m) in p) ≡ (digits, n)
pairs digits m n e = ap (λ (k : ℕ). let p : List ℕ × ℕ = (digits, k) in p) e

exponent_step : (e : ℕ) (more : List ℕ) (l d s : Bool) → (e == 101 || e == 69) ≡ l → begins is_digit more ≡ d → (begins (λ c. c == 43) more && begins is_digit (drop 1 more)) ≡ s
    → IsRead (e ∷ more) (exponent_in l d s e more)
unfolding exponent
exponent_step e more true true s hl hd hs = record {
  kind = (hl, digits_taken more hd);
  rest = drop (grouped is_digit more) more;
  split = ap (λ (x : List ℕ). e ∷ x) (sym (take-append-drop (grouped is_digit more) more));
  read = rw (hl, hd, taken_long more) (pairs (take (grouped is_digit more) more) (1 + grouped is_digit more) (suc (grouped is_digit more)) (omega arith));
}
exponent_step e more true false true hl hd hs =
    let next = second more hs in
    let digits = drop 1 more in
    record {
      kind = (hl, digits_taken digits next.1);
      rest = drop (grouped is_digit digits) digits;
      split = ap (λ (x : List ℕ). e ∷ x) (next.0 ∙ ap (λ (x : List ℕ). 43 ∷ x) (sym (take-append-drop (grouped is_digit digits) digits)));
      read = rw (hl, hd, hs, taken_long digits) (pairs (take (grouped is_digit digits) digits) (2 + grouped is_digit digits) (suc (suc (grouped is_digit digits))) (omega arith));
    }
exponent_step e more true false false hl hd hs = record { kind = tt; rest = e ∷ more; split = refl; read = rw (hl, hd, hs) refl }
exponent_step e more false d s hl hd hs = record { kind = tt; rest = e ∷ more; split = refl; read = rw hl refl }

pub exponent_read : (bytes : List ℕ) → IsRead bytes (exponent_piece bytes)
unfolding exponent
exponent_read [] = record { kind = tt; rest = []; split = refl; read = refl }
exponent_read (e ∷ more) = exponent_step e more (e == 101 || e == 69) (begins is_digit more) (begins (λ c. c == 43) more && begins is_digit (drop 1 more)) refl refl refl

digits_begin : (digits more : List ℕ) → Group is_digit digits → begins is_digit (digits ++ more) ≡ true
digits_begin [] more h = absurd h
digits_begin (b ∷ digits) more h = h.0

-- digits that go on, or end where they are taken to end
taken_or_longer : (digits more : List ℕ) → Group is_digit digits → (take (grouped is_digit (digits ++ more)) (digits ++ more) ≡ digits) ⊎ (length digits < length (take (grouped is_digit (digits ++ more)) (digits ++ more)))
taken_or_longer digits more h =
    let n = grouped is_digit (digits ++ more) in
    let least : length digits ≤ n = group_within is_digit digits more h in
    let long : length (take n (digits ++ more)) ≡ n = taken_long (digits ++ more) in
    elim (nat_lt (length digits) n) as (λ (t : Bool). nat_lt (length digits) n ≡ t → (take n (digits ++ more) ≡ digits) ⊎ (length digits < length (take n (digits ++ more)))) [
      | true ↦ λ e. let less : length digits < n = search (arith, e) in inr (omega arith)
      | false ↦ λ e. let same : length digits ≡ n = (let no : n ≤ length digits = search (arith, e) in omega arith) in inl (take_at digits more n same)
    ] refl

pub exponent_wide : (x : Exponent) (more : List ℕ) → IsExponent x → OrLonger exponent_size (exponent_piece (exponent_text x ++ more)) x
exponent_wide absent more h = go (exponent_piece more)
  where
    go : (w : Exponent) → OrLonger exponent_size w absent
    go absent = inl refl
    go (plain e d) = inr (omega arith)
    go (signed e d) = inr (omega arith)
exponent_wide (plain e d) more h =
    let group : Group is_digit d = group_of Decimal d h.1 in
    let letter : (e == 101 || e == 69) ≡ true = h.0 in
    let digit : begins is_digit (d ++ more) ≡ true = digits_begin d more group in
    rw (letter, digit) (elim (taken_or_longer d more group) [ inl same ↦ inl (ap (plain e) same) | inr less ↦ inr (omega arith) ])
exponent_wide (signed e d) more h =
    let group : Group is_digit d = group_of Decimal d h.1 in
    let letter : (e == 101 || e == 69) ≡ true = h.0 in
    let digit : begins is_digit (d ++ more) ≡ true = digits_begin d more group in
    rw (letter, digit) (elim (taken_or_longer d more group) [ inl same ↦ inl (ap (signed e) same) | inr less ↦ inr (omega arith) ])

abbrev pub is_ended : ℕ → List ℕ → Bool
is_ended k inner = nat_lt 0 k && begins (λ c. c == 35) (drop k inner)

-- the longest number in front, by its digits or those of its base, what stands behind these, and what stands one byte further, where k bytes are digits
abbrev pub number_in : Bool → Bool → List ℕ → List ℕ → ℕ → List ℕ → Piece
number_in true true b behind k inner = based_piece b (take k inner) (exponent_piece (drop (k + 1) inner))
number_in true false b behind k inner = decimal b (exponent_piece behind)
number_in false s b behind k inner = decimal b (exponent_piece behind)

abbrev pub number_by : List ℕ → List ℕ → ℕ → List ℕ → Piece
number_by b behind k inner = number_in (is_base (value 10 b) && begins (λ c. c == 35) behind) (is_ended k inner) b behind k inner

abbrev pub is_based : ℕ → List ℕ → Bool
is_based n bytes = is_base (value 10 (take n bytes)) && begins (λ c. c == 35) (drop n bytes)

abbrev pub number_with : ℕ → List ℕ → Piece
number_with n bytes = number_by (take n bytes) (drop n bytes) (grouped has_extended (drop (n + 1) bytes)) (drop (n + 1) bytes)

unfoldable pub number_piece : List ℕ → Piece
number_piece bytes = number_with (grouped is_digit bytes) bytes

abbrev pub literal_for : Piece → Literal
literal_for (decimal d x) = record { base = 10; digits = d; power = power_digits x; size = length d + exponent_size x }
literal_for (based_piece b d x) = record { base = value 10 b; digits = d; power = power_digits x; size = length b + length d + exponent_size x + 2 }
literal_for p = record { base = 0; digits = []; power = []; size = 0 }

pub record IsNumber (bytes : List ℕ) (p : Piece) : Type 0 where
  pub kind : (m : Bool) → IsPiece m p
  pub rest : List ℕ
  pub split : bytes ≡ text_of p ++ rest
  pub read : longest bytes ≡ literal_for p
  pub least : grouped is_digit bytes ≤ length (text_of p)

both : (a b : Bool) → (a && b) ≡ true → (a ≡ true) × (b ≡ true)
both true b h = (refl, h)
both false b h = let z : false ≡ true = h in cc

sign_next : (n : ℕ) (bytes : List ℕ) → begins (λ c. c == 35) (drop n bytes) ≡ true → drop n bytes ≡ 35 ∷ drop (suc n) bytes
sign_next zero [] h = let z : false ≡ true = h in cc
sign_next zero (b ∷ bytes) h = ap (λ (x : ℕ). x ∷ bytes) (eqb-true b 35 h)
sign_next (suc n) [] h = let z : false ≡ true = h in cc
sign_next (suc n) (b ∷ bytes) h = sign_next n bytes h

sign_behind : (n : ℕ) (bytes : List ℕ) → begins (λ c. c == 35) (drop n bytes) ≡ true → drop n bytes ≡ 35 ∷ drop (n + 1) bytes
sign_behind n bytes h = rw add-one (sign_next n bytes h)

no_base : (bytes : List ℕ) → based (grouped is_digit bytes) bytes ≡ None → longest bytes ≡ decimal_of (grouped is_digit bytes) bytes
unfolding longest
no_base bytes h = rw h refl

literals : (base n m : ℕ) (digits power : List ℕ) → n ≡ m → (let l : Literal = record { base = base; digits = digits; power = power; size = n } in l) ≡ record { base = base; digits = digits; power = power; size = m }
literals base n m digits power e = ap (λ (k : ℕ). let l : Literal = record { base = base; digits = digits; power = power; size = k } in l) e

decimal_read : (bytes : List ℕ) → begins is_digit bytes ≡ true → based (grouped is_digit bytes) bytes ≡ None → IsNumber bytes (decimal (take (grouped is_digit bytes) bytes) (exponent_piece (drop (grouped is_digit bytes) bytes)))
decimal_read bytes h none =
    let n = grouped is_digit bytes in
    let x = exponent_piece (drop n bytes) in
    let e = exponent_read (drop n bytes) in
    let long : length (take n bytes) ≡ n = taken_long bytes in
    let power : exponent (drop n bytes) ≡ (power_digits x, exponent_size x) = e.read in
    record {
      kind = λ m. (digits_taken bytes h, e.kind);
      rest = e.rest;
      split = sym (take-append-drop n bytes) ∙ ap (λ (z : List ℕ). take n bytes ++ z) e.split ∙ sym (append_assoc (take n bytes) (exponent_text x) e.rest);
      read = no_base bytes none ∙ ap (λ (p : List ℕ × ℕ). let l : Literal = record { base = 10; digits = take n bytes; power = p.0; size = n + p.1 } in l) power
          ∙ literals 10 (n + exponent_size x) (length (take n bytes) + exponent_size x) (take n bytes) (power_digits x) (omega arith);
      least = omega (arith, length-append (take n bytes) (exponent_text x));
    }

regroup : (b d e r : List ℕ) → b ++ (35 ∷ (d ++ (35 ∷ (e ++ r)))) ≡ (b ++ (35 ∷ (d ++ (35 ∷ e)))) ++ r
regroup b d e r = sym (append_assoc b (35 ∷ (d ++ (35 ∷ e))) r ∙ ap (λ (z : List ℕ). b ++ (35 ∷ z)) (append_assoc d (35 ∷ e) r))

is_some : (bytes : List ℕ) (l : Literal) → based (grouped is_digit bytes) bytes ≡ Some l → longest bytes ≡ l
unfolding longest
is_some bytes l h = rw h refl

based_text : (bytes b d e r : List ℕ) (n k : ℕ) → b ≡ take n bytes → d ≡ take k (drop (n + 1) bytes)
    → drop n bytes ≡ 35 ∷ drop (n + 1) bytes → drop k (drop (n + 1) bytes) ≡ 35 ∷ drop (k + 1) (drop (n + 1) bytes) → drop (k + 1) (drop (n + 1) bytes) ≡ e ++ r
    → bytes ≡ (b ++ (35 ∷ (d ++ (35 ∷ e)))) ++ r
based_text bytes b d e r n k hb hd h i j =
    let inner = drop (n + 1) bytes in
    let last : inner ≡ take k inner ++ (35 ∷ (e ++ r)) = sym (take-append-drop k inner) ∙ ap (λ (z : List ℕ). take k inner ++ z) (i ∙ ap (λ (z : List ℕ). 35 ∷ z) j) in
    let first : bytes ≡ take n bytes ++ (35 ∷ inner) = sym (take-append-drop n bytes) ∙ ap (λ (z : List ℕ). take n bytes ++ z) h in
    let whole : bytes ≡ take n bytes ++ (35 ∷ (take k inner ++ (35 ∷ (e ++ r)))) = first ∙ ap (λ (z : List ℕ). take n bytes ++ (35 ∷ z)) last in
    rw (hb, hd) (whole ∙ regroup (take n bytes) (take k inner) e r)

based_read : (bytes : List ℕ) → begins is_digit bytes ≡ true → is_based (grouped is_digit bytes) bytes ≡ true
    → is_ended (grouped has_extended (drop (grouped is_digit bytes + 1) bytes)) (drop (grouped is_digit bytes + 1) bytes) ≡ true
    → IsNumber bytes (based_piece (take (grouped is_digit bytes) bytes) (take (grouped has_extended (drop (grouped is_digit bytes + 1) bytes)) (drop (grouped is_digit bytes + 1) bytes))
    (exponent_piece (drop (grouped has_extended (drop (grouped is_digit bytes + 1) bytes) + 1) (drop (grouped is_digit bytes + 1) bytes))))
unfolding based
based_read bytes h ht hs =
    let n = grouped is_digit bytes in
    let inner = drop (n + 1) bytes in
    let k = grouped has_extended inner in
    let x = exponent_piece (drop (k + 1) inner) in
    let e = exponent_read (drop (k + 1) inner) in
    let base = both (is_base (value 10 (take n bytes))) (begins (λ c. c == 35) (drop n bytes)) ht in
    let ends = both (nat_lt 0 k) (begins (λ c. c == 35) (drop k inner)) hs in
    let some : 0 < k = search (arith, ends.0) in
    let long : length (take n bytes) ≡ n = taken_long bytes in
    let digits : length (take k inner) ≡ k = length-take-le k inner (grouped-within has_extended inner) in
    let power : exponent (drop (k + 1) inner) ≡ (power_digits x, exponent_size x) = e.read in
    let found : based n bytes ≡ Some (based_of n (value 10 (take n bytes)) k inner) = rw (ht, hs) refl in
    record {
      kind = λ m. (digits_taken bytes h, base.0, grouped_text Extended (take k inner) (group_taken has_extended inner some), e.kind);
      rest = e.rest;
      split = based_text bytes (take n bytes) (take k inner) (exponent_text x) e.rest n k refl refl (sign_behind n bytes base.1) (sign_behind k inner ends.1) e.split;
      read = is_some bytes (based_of n (value 10 (take n bytes)) k inner) found
          ∙ ap (λ (p : List ℕ × ℕ). let l : Literal = record { base = value 10 (take n bytes); digits = take k inner; power = p.0; size = n + k + p.1 + 2 } in l) power
          ∙ literals (value 10 (take n bytes)) (n + k + exponent_size x + 2) (length (take n bytes) + length (take k inner) + exponent_size x + 2) (take k inner) (power_digits x) (omega arith);
      least = omega (arith, length-append (take n bytes) (35 ∷ (take k inner ++ (35 ∷ exponent_text x))));
    }

number_step : (bytes : List ℕ) (t s : Bool) → begins is_digit bytes ≡ true → is_based (grouped is_digit bytes) bytes ≡ t
    → is_ended (grouped has_extended (drop (grouped is_digit bytes + 1) bytes)) (drop (grouped is_digit bytes + 1) bytes) ≡ s
    → IsNumber bytes (number_in t s (take (grouped is_digit bytes) bytes) (drop (grouped is_digit bytes) bytes) (grouped has_extended (drop (grouped is_digit bytes + 1) bytes)) (drop (grouped is_digit bytes + 1) bytes))
unfolding based
number_step bytes true true h ht hs = based_read bytes h ht hs
number_step bytes true false h ht hs = decimal_read bytes h (rw (ht, hs) refl)
number_step bytes false s h ht hs = decimal_read bytes h (rw ht refl)

pub number_read : (bytes : List ℕ) → begins is_digit bytes ≡ true → IsNumber bytes (number_piece bytes)
unfolding number_piece
number_read bytes h = number_step bytes (is_based (grouped is_digit bytes) bytes)
    (is_ended (grouped has_extended (drop (grouped is_digit bytes + 1) bytes)) (drop (grouped is_digit bytes + 1) bytes)) h refl refl

-- a letter of an exponent is no digit, no underscore and no number sign
pub record IsLetterOfExponent (e : ℕ) : Type 0 where
  pub digit : is_digit e ≡ false
  pub underscore : (e == 95) ≡ false
  pub sign : (e == 35) ≡ false

letter_of : (e : ℕ) → (e == 101 || e == 69) ≡ true → IsLetterOfExponent e
letter_of e h = go (e == 101) refl h
  where
    go : (t : Bool) → (e == 101) ≡ t → (t || e == 69) ≡ true → IsLetterOfExponent e
    go true k g = let same : 101 ≡ e = sym (eqb-true e 101 k) in subst IsLetterOfExponent same (record { digit = refl; underscore = refl; sign = refl })
    go false k g = let same : 69 ≡ e = sym (eqb-true e 69 g) in subst IsLetterOfExponent same (record { digit = refl; underscore = refl; sign = refl })

number_before : (d rest : List ℕ) (e : ℕ) → Group is_digit d → IsLetterOfExponent e → number_piece (d ++ (e ∷ rest)) ≡ decimal d (exponent_piece (e ∷ rest))
unfolding number_piece
number_before d rest e h l =
    let bytes = d ++ (e ∷ rest) in
    let n : grouped is_digit bytes ≡ length d = group_exact is_digit d e rest h l.digit l.underscore in
    let front : take (length d) bytes ≡ d = take_at d (e ∷ rest) (length d) refl in
    let behind : drop (length d) bytes ≡ e ∷ rest = drop_at d (e ∷ rest) (length d) refl in
    let no_sign : (e == 35) ≡ false = l.sign in
    let inner = drop (length d + 1) bytes in
    let k = grouped has_extended inner in
    ap (λ (n : ℕ). number_with n bytes) n
    ∙ ap (λ (b : List ℕ). number_by b (drop (length d) bytes) k inner) front
    ∙ ap (λ (r : List ℕ). number_by d r k inner) behind
    ∙ ap (λ (t : Bool). number_in (is_base (value 10 d) && t) (is_ended k inner) d (e ∷ rest) k inner) no_sign
    ∙ ap (λ (t : Bool). number_in t (is_ended k inner) d (e ∷ rest) k inner) (and-false (is_base (value 10 d)))

sign_in : (bytes b rest : List ℕ) → bytes ≡ b ++ (35 ∷ rest) → (take (length b) bytes ≡ b) × (drop (length b) bytes ≡ 35 ∷ rest) × (drop (length b + 1) bytes ≡ rest)
sign_in bytes b rest e =
    let again : b ++ (35 ∷ rest) ≡ (b ++ (35 ∷ [])) ++ rest = sym (append_assoc b (35 ∷ []) rest) in
    let long : length (b ++ (35 ∷ [])) ≡ length b + 1 = length-append b (35 ∷ []) in
    (rw e (take_at b (35 ∷ rest) (length b) refl), rw e (drop_at b (35 ∷ rest) (length b) refl), rw (e, again) (drop_at (b ++ (35 ∷ [])) rest (length b + 1) long))

number_behind : (b d rest : List ℕ) → Group is_digit b → is_base (value 10 b) ≡ true → Group has_extended d
    → number_piece (b ++ (35 ∷ (d ++ (35 ∷ rest)))) ≡ based_piece b d (exponent_piece rest)
unfolding number_piece
number_behind b d rest hb base hd =
    let inner = d ++ (35 ∷ rest) in
    let bytes = b ++ (35 ∷ inner) in
    let n : grouped is_digit bytes ≡ length b = group_exact is_digit b 35 inner hb refl refl in
    let k : grouped has_extended inner ≡ length d = group_exact has_extended d 35 rest hd refl refl in
    let outside = sign_in bytes b inner refl in
    let inside = sign_in inner d rest refl in
    let some : nat_lt 0 (length d) ≡ true = not_empty d hd in
    ap (λ (n : ℕ). number_with n bytes) n
    ∙ ap (λ (i : List ℕ). number_by (take (length b) bytes) (drop (length b) bytes) (grouped has_extended i) i) outside.2
    ∙ ap (λ (k : ℕ). number_by (take (length b) bytes) (drop (length b) bytes) k inner) k
    ∙ ap (λ (z : List ℕ). number_by z (drop (length b) bytes) (length d) inner) outside.0
    ∙ ap (λ (r : List ℕ). number_by b r (length d) inner) outside.1
    ∙ ap (λ (t : Bool). number_in (t && true) (is_ended (length d) inner) b (35 ∷ inner) (length d) inner) base
    ∙ ap (λ (t : Bool). number_in true (t && begins (λ c. c == 35) (drop (length d) inner)) b (35 ∷ inner) (length d) inner) some
    ∙ ap (λ (z : List ℕ). number_in true (begins (λ c. c == 35) z) b (35 ∷ inner) (length d) inner) inside.1
    ∙ ap (λ (z : List ℕ). based_piece b z (exponent_piece (drop (length d + 1) inner))) inside.0
    ∙ ap (λ (z : List ℕ). based_piece b d (exponent_piece z)) inside.2
  where
    not_empty : (d : List ℕ) → Group has_extended d → nat_lt 0 (length d) ≡ true
    not_empty [] h = absurd h
    not_empty (b ∷ d) h = let less : 0 < suc (length d) = omega arith in search (arith, less)

abbrev pub text_size : Piece → ℕ
text_size p = length (text_of p)

decimal_lift : (d : List ℕ) (w x : Exponent) → OrLonger exponent_size w x → OrLonger text_size (decimal d w) (decimal d x)
decimal_lift d w x (inl e) = inl (ap (decimal d) e)
decimal_lift d w x (inr h) = inr (omega (arith, length-append d (exponent_text w), length-append d (exponent_text x)))

based_lift : (b d : List ℕ) (w x : Exponent) → OrLonger exponent_size w x → OrLonger text_size (based_piece b d w) (based_piece b d x)
based_lift b d w x (inl e) = inl (ap (based_piece b d) e)
based_lift b d w x (inr h) = inr (omega (
  arith,
  length-append b (35 ∷ (d ++ (35 ∷ exponent_text w))),
  length-append b (35 ∷ (d ++ (35 ∷ exponent_text x))),
  length-append d (35 ∷ exponent_text w),
  length-append d (35 ∷ exponent_text x),
))

bare_decimal : (d more : List ℕ) → OrLonger text_size (decimal (take (length d) (d ++ more)) (exponent_piece (drop (length d) (d ++ more)))) (decimal d absent)
bare_decimal d more =
    let front : take (length d) (d ++ more) ≡ d = take_at d more (length d) refl in
    let behind : drop (length d) (d ++ more) ≡ more = drop_at d more (length d) refl in
    rw (front, behind) (decimal_lift d (exponent_piece more) absent (exponent_wide absent more tt))

-- a number that is written without an exponent: it is read, or a longer one
bare_in : (d more inner : List ℕ) (t s : Bool) (k : ℕ) → OrLonger text_size (number_in t s (take (length d) (d ++ more)) (drop (length d) (d ++ more)) k inner) (decimal d absent)
bare_in d more inner true true k =
    let front : take (length d) (d ++ more) ≡ d = take_at d more (length d) refl in
    inr (rw front (omega (arith, length-append d [], length-append d (35 ∷ (take k inner ++ (35 ∷ exponent_text (exponent_piece (drop (k + 1) inner))))))))
bare_in d more inner true false k = bare_decimal d more
bare_in d more inner false s k = bare_decimal d more

bare : (d more : List ℕ) → Group is_digit d → OrLonger text_size (number_piece (d ++ more)) (decimal d absent)
unfolding number_piece
bare d more h =
    let bytes = d ++ more in
    let n = grouped is_digit bytes in
    let least : length d ≤ n = group_within is_digit d more h in
    let far : n ≤ length (text_of (number_piece bytes)) = (let r = number_read bytes (digits_begin d more h) in r.least) in
    elim (nat_lt (length d) n) as (λ (t : Bool). nat_lt (length d) n ≡ t → OrLonger text_size (number_with n bytes) (decimal d absent)) [
      | true ↦ λ e. let less : length d < n = search (arith, e) in inr (omega (arith, length-append d []))
      | false ↦ λ e. let same : n ≡ length d = (let no : n ≤ length d = search (arith, e) in omega arith) in
          rw same (bare_in d more (drop (length d + 1) bytes) (is_based (length d) bytes) (is_ended (grouped has_extended (drop (length d + 1) bytes)) (drop (length d + 1) bytes)) (grouped has_extended (drop (length d + 1) bytes)))
    ] refl

pub decimal_wide : (d : List ℕ) (x : Exponent) (more : List ℕ) → IsGrouped Decimal d → IsExponent x → OrLonger text_size (number_piece ((d ++ exponent_text x) ++ more)) (decimal d x)
decimal_wide d absent more h k =
    let e : d ++ more ≡ (d ++ []) ++ more = ap (λ (z : List ℕ). z ++ more) (sym (append-nil d)) in
    subst (λ (z : List ℕ). OrLonger text_size (number_piece z) (decimal d absent)) e (bare d more (group_of Decimal d h))
decimal_wide d (plain e digits) more h k =
    let first : number_piece ((d ++ (e ∷ digits)) ++ more) ≡ decimal d (exponent_piece (e ∷ (digits ++ more))) =
    ap number_piece (append_assoc d (e ∷ digits) more) ∙ number_before d (digits ++ more) e (group_of Decimal d h) (letter_of e k.0) in
    rw first (decimal_lift d (exponent_piece (e ∷ (digits ++ more))) (plain e digits) (exponent_wide (plain e digits) more k))
decimal_wide d (signed e digits) more h k =
    let first : number_piece ((d ++ (e ∷ 43 ∷ digits)) ++ more) ≡ decimal d (exponent_piece (e ∷ 43 ∷ (digits ++ more))) =
    ap number_piece (append_assoc d (e ∷ 43 ∷ digits) more) ∙ number_before d (43 ∷ (digits ++ more)) e (group_of Decimal d h) (letter_of e k.0) in
    rw first (decimal_lift d (exponent_piece (e ∷ 43 ∷ (digits ++ more))) (signed e digits) (exponent_wide (signed e digits) more k))

pub based_wide : (b d : List ℕ) (x : Exponent) (more : List ℕ) → IsGrouped Decimal b → is_base (value 10 b) ≡ true → IsGrouped Extended d → IsExponent x
    → OrLonger text_size (number_piece ((b ++ (35 ∷ (d ++ (35 ∷ exponent_text x)))) ++ more)) (based_piece b d x)
based_wide b d x more h base k l =
    let first : number_piece ((b ++ (35 ∷ (d ++ (35 ∷ exponent_text x)))) ++ more) ≡ based_piece b d (exponent_piece (exponent_text x ++ more)) =
    ap number_piece (sym (regroup b d (exponent_text x) more)) ∙ number_behind b d (exponent_text x ++ more) (group_of Decimal b h) base (group_of Extended d k) in
    rw first (based_lift b d (exponent_piece (exponent_text x ++ more)) x (exponent_wide x more l))
