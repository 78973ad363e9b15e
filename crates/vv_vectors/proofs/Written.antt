-- Lists that are written from one place on, one element at a time.
use Rattle.std.proofs.Common.{◌≡◌, ℕ, suc, ◌+◌, ◌-◌, ◌<◌, ◌≤◌, List, [], ◌∷◌, ◌++◌, length, take, drop, get_or, set, add-one, ap, sym, ◌∙◌, ℤ, arith, append_assoc, length-append, length-drop}
use Rattle.std.proofs.Math.Seq.{take-suc, drop-cons, set-append_seam, take-length}
use Rattle.std.proofs.lemmas.List.{append-nil, take-append-drop, length-take, get_or_append_left, get_or-append_right, get_or-take, get_or-drop}

-- a list whose elements from f on are the first k of zs
abbrev pub written : List ℤ → ℕ → List ℤ → ℕ → List ℤ
written old f zs k = (take f old ++ take k zs) ++ drop (f + k) old

pub written_start : (old : List ℤ) (f : ℕ) (zs : List ℤ) → written old f zs 0 ≡ old
written_start old f zs =
    let e : f + 0 ≡ f = omega arith in
    ap (λ n. (take f old ++ []) ++ drop n old) e ∙ ap (λ xs. xs ++ drop f old) (append-nil (take f old)) ∙ take-append-drop f old

pub written_all : (old : List ℤ) (f k : ℕ) (zs : List ℤ) → k ≡ length zs → written old f zs k ≡ (take f old ++ zs) ++ drop (f + k) old
written_all old f k zs e = ap (λ ys. (take f old ++ ys) ++ drop (f + k) old) (ap (λ n. take n zs) e ∙ take-length zs)

length_front : (old : List ℤ) (f : ℕ) (zs : List ℤ) (k : ℕ) → f ≤ length old → k ≤ length zs →
    length (take f old ++ take k zs) ≡ f + k
length_front old f zs k hf hk = omega (arith, length-append (take f old) (take k zs), length-take f old, length-take k zs, hf, hk)

seam : (front : List ℤ) (x y : ℤ) (n : ℕ) (rest : List ℤ) → n ≡ length front → set (front ++ x ∷ rest) n y ≡ front ++ y ∷ rest
seam front x y n rest e = ap (λ i. set (front ++ x ∷ rest) i y) e ∙ set-append_seam front x rest y

-- one more element
pub written_more : (old : List ℤ) (f : ℕ) (zs : List ℤ) (k : ℕ) (v d : ℤ) → k < length zs → f + length zs ≤ length old →
    get_or zs k d ≡ v → set (written old f zs k) (f + k) v ≡ written old f zs (k + 1)
written_more old f zs k v d lt fits is =
    let front : List ℤ = take f old ++ take k zs in
    let rest : List ℤ = drop (f + (k + 1)) old in
    let next : suc (f + k) ≡ f + (k + 1) = omega arith in
    let here : drop (f + k) old ≡ get_or old (f + k) d ∷ drop (f + (k + 1)) old
    = drop-cons old (f + k) d (omega (arith, lt, fits)) ∙ ap (λ n. get_or old (f + k) d ∷ drop n old) next in
    let grown : take (k + 1) zs ≡ take k zs ++ (v ∷ []) = ap (λ n. take n zs) (add-one k) ∙ take-suc zs k d lt ∙ ap (λ x. take k zs ++ (x ∷ [])) is in
    let all : front ++ (v ∷ rest) ≡ (take f old ++ take (k + 1) zs) ++ rest
    = sym (append_assoc front (v ∷ []) rest) ∙ ap (λ ys. ys ++ rest) (append_assoc (take f old) (take k zs) (v ∷ []) ∙ ap (λ ys. take f old ++ ys) (sym grown)) in
    ap (λ ys. set (front ++ ys) (f + k) v) here
    ∙ seam front (get_or old (f + k) d) v (f + k) rest (sym (length_front old f zs k (omega (arith, lt, fits)) (omega (arith, lt))))
    ∙ all

-- as many elements stay
pub length_written : (old : List ℤ) (f : ℕ) (zs : List ℤ) (k : ℕ) → k ≤ length zs → f + k ≤ length old →
    length (written old f zs k) ≡ length old
length_written old f zs k hk hf =
    let whole : length (written old f zs k) ≡ length (take f old ++ take k zs) + length (drop (f + k) old)
    = length-append (take f old ++ take k zs) (drop (f + k) old) in
    whole ∙ omega (arith, length_front old f zs k (omega (arith, hf)) hk, length-drop (f + k) old, hf)

-- what lies before and behind stays
pub written_before : (old : List ℤ) (f : ℕ) (zs : List ℤ) (k i : ℕ) (d : ℤ) → i < f → f ≤ length old →
    get_or (written old f zs k) i d ≡ get_or old i d
written_before old f zs k i d lt le =
    ap (λ ys. get_or ys i d) (append_assoc (take f old) (take k zs) (drop (f + k) old))
    ∙ get_or_append_left (take f old) (take k zs ++ drop (f + k) old) d i (omega (arith, length-take f old, lt, le))
    ∙ get_or-take f old i d lt

pub written_behind : (old : List ℤ) (f : ℕ) (zs : List ℤ) (k i : ℕ) (d : ℤ) → f + k ≤ i → k ≤ length zs → f ≤ length old →
    get_or (written old f zs k) i d ≡ get_or old i d
written_behind old f zs k i d le hk hf =
    let back : (f + k) + (i - (f + k)) ≡ i = omega (arith, le) in
    get_or-append_right (take f old ++ take k zs) (drop (f + k) old) (f + k) i d (length_front old f zs k hf hk) le
    ∙ get_or-drop (f + k) old (i - (f + k)) d
    ∙ ap (λ n. get_or old n d) back
