-- Laws of the operators on lists of bits.
use Rattle.std.proofs.Common.{◌≡◌, ◌≢◌, ℕ, zero, suc, ◌+◌, ◌*◌, ◌-◌, ◌/◌, ◌%◌, ◌<◌, ◌≤◌, ◌^◌, ◌==◌, nat_lt, nat_eq, not, Option, Some, None, slice_get, eq-eqb, Bool, true, false, ◌||◌, ◌&&◌, if◌then◌else◌, List, [], ◌∷◌, length, map, slice_index_or, ◌⊎◌, inl, inr, ⊎_elim, refl, sym, ap, ap₂, subst, ◌∙◌, arith, true≢false, pow-suc}
use Rattle.std.proofs.Math.Nat.{mod-one, add-mod_right, mod-add-mod}
use Rattle.std.proofs.lemmas.Nat.{mod_below, mod-pow-add}
use Rattle.std.proofs.lemmas.Bool.{or_parts, and_parts, cases_Bool, lt-ltb, le-ltb}
use Rattle.vv_bits.specs.declared.four.V4.{V4}
use Rattle.vv_bits.specs.declared.four.V4.TheVariants.{Zero, One, X, Z}
use Rattle.vv_bits.specs.Four.{is4, known, z_as_x, and4_rule, or4_rule, xor4_rule, not4_rule}
use Rattle.vv_events.specs.Values.{bitwise, and_bits, or_bits, xor_bits, not_bits, and_all, or_all, xor_all, all_known, digit_of, number, bit_of, bits_of, unknown, both_known, wrapped, add, subtract, of_bool, compared, less, opposed, some_opposed, equal, same_bits, case_equal, merged, choose, less_or_equal, part, bits_from, write_at, writes_from, part_writes}
use Rattle.vv_events.specs.Items.{has, AllTo}
use Rattle.vv_events.proofs.Descent.{or_true}
use Rattle.vv_events.proofs.Settled.{is4_same}

-- ---- z counts as x

and_left : (a b : V4) → and4_rule (z_as_x a) b ≡ and4_rule a b
and_left Zero b = refl
and_left One b = refl
and_left X b = refl
and_left Z b = refl

and_right : (a b : V4) → and4_rule a (z_as_x b) ≡ and4_rule a b
and_right a Zero = refl
and_right a One = refl
and_right a X = refl
and_right a Z = refl

or_left : (a b : V4) → or4_rule (z_as_x a) b ≡ or4_rule a b
or_left Zero b = refl
or_left One b = refl
or_left X b = refl
or_left Z b = refl

or_right : (a b : V4) → or4_rule a (z_as_x b) ≡ or4_rule a b
or_right a Zero = refl
or_right a One = refl
or_right a X = refl
or_right a Z = refl

xor_left : (a b : V4) → xor4_rule (z_as_x a) b ≡ xor4_rule a b
xor_left Zero b = refl
xor_left One b = refl
xor_left X b = refl
xor_left Z b = refl

xor_right : (a b : V4) → xor4_rule a (z_as_x b) ≡ xor4_rule a b
xor_right a Zero = refl
xor_right a One = refl
xor_right a X = refl
xor_right Zero Z = refl
xor_right One Z = refl
xor_right X Z = refl
xor_right Z Z = refl

not_z : (a : V4) → not4_rule (z_as_x a) ≡ not4_rule a
not_z Zero = refl
not_z One = refl
not_z X = refl
not_z Z = refl

bitwise_z : (rule : V4 → V4 → V4) → ((a b : V4) → rule (z_as_x a) b ≡ rule a b) → ((a b : V4) → rule a (z_as_x b) ≡ rule a b) → (xs ys : List V4) → bitwise rule (map z_as_x xs) (map z_as_x ys) ≡ bitwise rule xs ys
bitwise_z rule l r [] ys = refl
bitwise_z rule l r (x ∷ xs) [] = refl
bitwise_z rule l r (x ∷ xs) (y ∷ ys) = ap₂ (λ v vs. v ∷ vs) (l x (z_as_x y) ∙ r x y) (bitwise_z rule l r xs ys)

pub and_bits_z : (xs ys : List V4) → and_bits (map z_as_x xs) (map z_as_x ys) ≡ and_bits xs ys
and_bits_z xs ys = bitwise_z and4_rule and_left and_right xs ys

pub or_bits_z : (xs ys : List V4) → or_bits (map z_as_x xs) (map z_as_x ys) ≡ or_bits xs ys
or_bits_z xs ys = bitwise_z or4_rule or_left or_right xs ys

pub xor_bits_z : (xs ys : List V4) → xor_bits (map z_as_x xs) (map z_as_x ys) ≡ xor_bits xs ys
xor_bits_z xs ys = bitwise_z xor4_rule xor_left xor_right xs ys

pub not_bits_z : (xs : List V4) → not_bits (map z_as_x xs) ≡ not_bits xs
not_bits_z [] = refl
not_bits_z (x ∷ xs) = ap₂ (λ v vs. v ∷ vs) (not_z x) (not_bits_z xs)

pub and_all_z : (xs : List V4) → and_all (map z_as_x xs) ≡ and_all xs
and_all_z [] = refl
and_all_z (x ∷ xs) = and_left x (and_all (map z_as_x xs)) ∙ ap (and4_rule x) (and_all_z xs)

pub or_all_z : (xs : List V4) → or_all (map z_as_x xs) ≡ or_all xs
or_all_z [] = refl
or_all_z (x ∷ xs) = or_left x (or_all (map z_as_x xs)) ∙ ap (or4_rule x) (or_all_z xs)

pub xor_all_z : (xs : List V4) → xor_all (map z_as_x xs) ≡ xor_all xs
xor_all_z [] = refl
xor_all_z (x ∷ xs) = xor_left x (xor_all (map z_as_x xs)) ∙ ap (xor4_rule x) (xor_all_z xs)

-- ---- numbers

digit_bit : (n : ℕ) → n < 2 → digit_of (bit_of n) ≡ n
digit_bit zero l = refl
digit_bit (suc zero) l = refl
digit_bit (suc (suc n)) l = absurd (omega arith)

pub number_of_bits : (size n : ℕ) → number (bits_of size n) ≡ n % 2 ^ size
number_of_bits zero n = sym (mod-one n)
number_of_bits (suc size) n =
    let a : digit_of (bit_of (n % 2)) ≡ n % 2 = digit_bit (n % 2) (mod_below n 2 (omega arith)) in
    let b : number (bits_of size (n / 2)) ≡ (n / 2) % 2 ^ size = number_of_bits size (n / 2) in
    let c : n % 2 ^ (size + 1) ≡ (n / 2 % 2 ^ size) * 2 + n % 2 = mod-pow-add n size 1 in
    let e : size + 1 ≡ suc size = omega arith in
    ap₂ (λ x y. x + 2 * y) a b ∙ (turn (n % 2) ((n / 2) % 2 ^ size) ∙ (sym c ∙ ap (λ k. n % 2 ^ k) e))
  where
    turn : (x y : ℕ) → x + 2 * y ≡ y * 2 + x
    turn x y = omega arith

pub bits_length : (size n : ℕ) → length (bits_of size n) ≡ size
bits_length zero n = refl
bits_length (suc size) n = ap suc (bits_length size (n / 2))

known_digit : (b : Bool) → known (if b then Zero else One) ≡ true
known_digit true = refl
known_digit false = refl

known_bit : (n : ℕ) → known (bit_of n) ≡ true
known_bit n = known_digit (n == 0)

pub bits_known : (size n : ℕ) → all_known (bits_of size n) ≡ true
bits_known zero n = refl
bits_known (suc size) n = ap₂ (λ x y. x && y) (known_bit (n % 2)) (bits_known size (n / 2))

digit_small : (x : V4) → digit_of x < 2
digit_small Zero = omega arith
digit_small One = omega arith
digit_small X = omega arith
digit_small Z = omega arith

bit_digit : (x : V4) → known x ≡ true → bit_of (digit_of x) ≡ x
bit_digit Zero h = refl
bit_digit One h = refl
bit_digit X h = absurd (true≢false (sym h))
bit_digit Z h = absurd (true≢false (sym h))

pub bits_of_number : (xs : List V4) → all_known xs ≡ true → bits_of (length xs) (number xs) ≡ xs
bits_of_number [] h = refl
bits_of_number (x ∷ xs) h =
    let p = and_parts (known x) (all_known xs) h in
    ap₂ (λ v vs. v ∷ vs)
    (ap bit_of (low (digit_of x) (number xs) (digit_small x)) ∙ bit_digit x p.0)
    (ap (bits_of (length xs)) (high (digit_of x) (number xs) (digit_small x)) ∙ bits_of_number xs p.1)
  where
    low : (a m : ℕ) → a < 2 → (a + 2 * m) % 2 ≡ a
    low a m l = omega arith

    high : (a m : ℕ) → a < 2 → (a + 2 * m) / 2 ≡ m
    high a m l = omega arith

pub number_below : (xs : List V4) → number xs < 2 ^ length xs
number_below [] = omega arith
number_below (x ∷ xs) =
    let a : digit_of x < 2 = digit_small x in
    let b : number xs < 2 ^ length xs = number_below xs in
    rw pow-suc (omega arith)

pub wrapped_number : (xs ys : List V4) (n : ℕ) → both_known xs ys ≡ true → number (wrapped xs ys n) ≡ n % 2 ^ length xs
wrapped_number xs ys n h = ap (λ c. number (if c then bits_of (length xs) n else unknown (length xs))) h ∙ number_of_bits (length xs) n

pub wrapped_bits : (xs ys : List V4) (n : ℕ) → both_known xs ys ≡ true → wrapped xs ys n ≡ bits_of (length xs) n
wrapped_bits xs ys n h = ap (λ c. if c then bits_of (length xs) n else unknown (length xs)) h

pub wrapped_unknown : (xs ys : List V4) (n : ℕ) → both_known xs ys ≡ false → wrapped xs ys n ≡ unknown (length xs)
wrapped_unknown xs ys n h = ap (λ c. if c then bits_of (length xs) n else unknown (length xs)) h

-- the bits rest on the remainder alone
bits_rest : (size n m : ℕ) → n % 2 ^ size ≡ m % 2 ^ size → bits_of size n ≡ bits_of size m
bits_rest size n m h =
    let at : (k : ℕ) → bits_of size (k % 2 ^ size) ≡ bits_of size k = λ k. again k in
    sym (at n) ∙ (ap (bits_of size) h ∙ at m)
  where
    again : (k : ℕ) → bits_of size (k % 2 ^ size) ≡ bits_of size k
    again k =
        ap (bits_of size) (sym (number_of_bits size k)) ∙ (ap (λ s. bits_of s (number (bits_of size k))) (sym (bits_length size k)) ∙ bits_of_number (bits_of size k) (bits_known size k))

-- what is taken away can be given back
pub subtract_add : (xs ys : List V4) → length xs ≡ length ys → both_known xs ys ≡ true → add (subtract xs ys) ys ≡ xs
subtract_add xs ys len h =
    let p = and_parts (all_known xs) (all_known ys) h in
    let d = (number xs + 2 ^ length xs) - number ys in
    let is : subtract xs ys ≡ bits_of (length xs) d = wrapped_bits xs ys d h in
    ap (λ v. add v ys) is
    ∙ (wrapped_bits (bits_of (length xs) d) ys (number (bits_of (length xs) d) + number ys) (ap₂ (λ a b. a && b) (bits_known (length xs) d) p.1)
    ∙ (ap (λ s. bits_of s (number (bits_of (length xs) d) + number ys)) (bits_length (length xs) d)
    ∙ (bits_rest (length xs) (number (bits_of (length xs) d) + number ys) (number xs) (sum d refl)
    ∙ bits_of_number xs p.0)))
  where
    below : number ys < 2 ^ length xs
    below = subst (λ n. number ys < 2 ^ n) (sym len) (number_below ys)

    back : (a b c : ℕ) → b < c → ((a + c) - b) + b ≡ a + c
    back a b c l = omega arith

    sum : (d : ℕ) → d ≡ (number xs + 2 ^ length xs) - number ys → (number (bits_of (length xs) d) + number ys) % 2 ^ length xs ≡ number xs % 2 ^ length xs
    sum d q =
        ap (λ m. (m + number ys) % 2 ^ length xs) (number_of_bits (length xs) d)
        ∙ (mod-add-mod d (2 ^ length xs) (number ys)
        ∙ (ap (λ m. (m + number ys) % 2 ^ length xs) q
        ∙ (ap (λ m. m % 2 ^ length xs) (back (number xs) (number ys) (2 ^ length xs) below) ∙ add-mod_right (number xs) (2 ^ length xs))))

-- ---- comparisons

pub compared_known : (xs ys : List V4) (holds : Bool) → both_known xs ys ≡ true → compared xs ys holds ≡ of_bool holds
compared_known xs ys holds h = ap (λ c. if c then of_bool holds else X) h

pub compared_unknown : (xs ys : List V4) (holds : Bool) → both_known xs ys ≡ false → compared xs ys holds ≡ X
compared_unknown xs ys holds h = ap (λ c. if c then of_bool holds else X) h

pub less_one : (xs ys : List V4) → both_known xs ys ≡ true → number xs < number ys → less xs ys ≡ One
less_one xs ys h l = compared_known xs ys (nat_lt (number xs) (number ys)) h ∙ ap of_bool (lt-ltb (number xs) (number ys) l)

pub less_zero : (xs ys : List V4) → both_known xs ys ≡ true → number ys ≤ number xs → less xs ys ≡ Zero
less_zero xs ys h l = compared_known xs ys (nat_lt (number xs) (number ys)) h ∙ ap of_bool (le-ltb (number xs) (number ys) l)

pub same_bits_same : (xs ys : List V4) → same_bits xs ys ≡ true → xs ≡ ys
same_bits_same [] [] h = refl
same_bits_same [] (y ∷ ys) h = absurd (true≢false (sym h))
same_bits_same (x ∷ xs) [] h = absurd (true≢false (sym h))
same_bits_same (x ∷ xs) (y ∷ ys) h =
    let p = and_parts (is4 x y) (same_bits xs ys) h in
    ap₂ (λ v vs. v ∷ vs) (is4_same x y p.0) (same_bits_same xs ys p.1)

is4_self : (x : V4) → is4 x x ≡ true
is4_self Zero = refl
is4_self One = refl
is4_self X = refl
is4_self Z = refl

pub same_bits_self : (xs : List V4) → same_bits xs xs ≡ true
same_bits_self [] = refl
same_bits_self (x ∷ xs) = ap₂ (λ a b. a && b) (is4_self x) (same_bits_self xs)

opposed_self : (x : V4) → opposed x x ≡ false
opposed_self Zero = refl
opposed_self One = refl
opposed_self X = refl
opposed_self Z = refl

none_opposed_self : (xs : List V4) → some_opposed xs xs ≡ false
none_opposed_self [] = refl
none_opposed_self (x ∷ xs) = ap₂ (λ a b. a || b) (opposed_self x) (none_opposed_self xs)

-- known bits that aren't opposed are equal
not_opposed : (x y : V4) → known x ≡ true → known y ≡ true → opposed x y ≡ false → x ≡ y
not_opposed Zero Zero h k o = refl
not_opposed One One h k o = refl
not_opposed Zero One h k o = absurd (true≢false o)
not_opposed One Zero h k o = absurd (true≢false o)
not_opposed X y h k o = absurd (true≢false (sym h))
not_opposed Z y h k o = absurd (true≢false (sym h))
not_opposed Zero X h k o = absurd (true≢false (sym k))
not_opposed Zero Z h k o = absurd (true≢false (sym k))
not_opposed One X h k o = absurd (true≢false (sym k))
not_opposed One Z h k o = absurd (true≢false (sym k))

all_same : (xs ys : List V4) → length xs ≡ length ys → all_known xs ≡ true → all_known ys ≡ true → some_opposed xs ys ≡ false → xs ≡ ys
all_same [] [] len h k o = refl
all_same [] (y ∷ ys) len h k o = absurd (omega arith)
all_same (x ∷ xs) [] len h k o = absurd (omega arith)
all_same (x ∷ xs) (y ∷ ys) len h k o =
    let p = and_parts (known x) (all_known xs) h in
    let q = and_parts (known y) (all_known ys) k in
    let r = or_parts (opposed x y) (some_opposed xs ys) o in
    ap₂ (λ v vs. v ∷ vs) (not_opposed x y p.0 q.0 r.0) (all_same xs ys (omega arith) p.1 q.1 r.1)

zero_one : Zero ≡ One → ⊥
zero_one q = cc

x_one : X ≡ One → ⊥
x_one q = cc

x_zero : X ≡ Zero → ⊥
x_zero q = cc

one_zero : One ≡ Zero → ⊥
one_zero q = cc

pub equal_one : (xs ys : List V4) → length xs ≡ length ys → equal xs ys ≡ One → xs ≡ ys
equal_one xs ys len h = ⊎_elim (λ o. absurd (zero_one (sym (ap (pick_of (both_known xs ys)) o) ∙ h))) (λ o. known_then o (cases_Bool (both_known xs ys))) (cases_Bool (some_opposed xs ys))
  where
    pick_of : Bool → Bool → V4
    pick_of k o = if o then Zero else if k then One else X

    known_then : some_opposed xs ys ≡ false → (both_known xs ys ≡ true) ⊎ (both_known xs ys ≡ false) → xs ≡ ys
    known_then o (inl k) = let p = and_parts (all_known xs) (all_known ys) k in all_same xs ys len p.0 p.1 o
    known_then o (inr k) = absurd (x_one (sym (ap₂ (λ a b. if a then Zero else if b then One else X) o k) ∙ h))

pub equal_self : (xs : List V4) → all_known xs ≡ true → equal xs xs ≡ One
equal_self xs h = ap₂ (λ a b. if a then Zero else if b && b then One else X) (none_opposed_self xs) h

pub equal_zero : (xs ys : List V4) → equal xs ys ≡ Zero → xs ≢ ys
equal_zero xs ys h q = clash (cases_Bool (both_known xs ys))
  where
    none : some_opposed xs ys ≡ false
    none = subst (λ v. some_opposed xs v ≡ false) q (none_opposed_self xs)

    clash : (both_known xs ys ≡ true) ⊎ (both_known xs ys ≡ false) → ⊥
    clash (inl k) = one_zero (sym (ap₂ (λ a b. if a then Zero else if b then One else X) none k) ∙ h)
    clash (inr k) = x_zero (sym (ap₂ (λ a b. if a then Zero else if b then One else X) none k) ∙ h)

-- ---- parts

pub bits_from_at : (xs : List V4) (i size k : ℕ) → k < size → slice_index_or (bits_from xs i size) k X ≡ slice_index_or xs (i + k) X
bits_from_at xs i zero k l = absurd (omega arith)
bits_from_at xs i (suc size) zero l = ap (λ n. slice_index_or xs n X) same
  where
    same : i ≡ i + 0
    same = omega arith
bits_from_at xs i (suc size) (suc k) l = bits_from_at xs (suc i) size k (omega arith) ∙ ap (λ n. slice_index_or xs n X) same
  where
    same : suc i + k ≡ i + suc k
    same = omega arith

has_get : (xs : List ℕ) (i b : ℕ) → slice_get xs i ≡ Some b → has xs b ≡ true
has_get [] i b h = absurd (none_some h)
  where
    none_some : None ≡ Some b → ⊥
    none_some q = cc
has_get (x ∷ xs) zero b h = ap (λ c. c || has xs b) (eq-eqb x b (some_same h))
  where
    some_same : Some x ≡ Some b → x ≡ b
    some_same q = cc
has_get (x ∷ xs) (suc i) b h = or_true (nat_eq x b) (has xs b) (has_get xs i b h)

write_at_to : (cs : List ℕ) (o : Option ℕ) (v : V4) (ws : List (ℕ × V4)) → ((b : ℕ) → o ≡ Some b → has cs b ≡ true) → AllTo cs ws → AllTo cs (write_at o v ws)
write_at_to cs None v ws h all = all
write_at_to cs (Some b) v ws h all = (h b refl, all)

writes_from_to : (vector : List ℕ) (i : ℕ) (vs : List V4) → AllTo vector (writes_from vector i vs)
writes_from_to vector i [] = tt
writes_from_to vector i (v ∷ vs) =
    write_at_to vector (slice_get vector i) v (writes_from vector (suc i) vs) (λ b h. has_get vector i b h) (writes_from_to vector (suc i) vs)

pub part_writes_to : (vector : List ℕ) (index vs : List V4) → AllTo vector (part_writes vector index vs)
part_writes_to vector index vs =
    ⊎_elim
    (λ t. subst (λ c. AllTo vector (if c then writes_from vector (number index) vs else [])) (sym t) (writes_from_to vector (number index) vs))
    (λ f. subst (λ c. AllTo vector (if c then writes_from vector (number index) vs else [])) (sym f) tt)
    (cases_Bool (all_known index))

-- ---- clauses of the laws

pub le_one : (xs ys : List V4) → both_known xs ys ≡ true → number xs ≤ number ys → less_or_equal xs ys ≡ One
le_one xs ys h l = compared_known xs ys (not (nat_lt (number ys) (number xs))) h ∙ ap (λ b. of_bool (not b)) (le-ltb (number ys) (number xs) l)

pub le_zero : (xs ys : List V4) → both_known xs ys ≡ true → number ys < number xs → less_or_equal xs ys ≡ Zero
le_zero xs ys h l = compared_known xs ys (not (nat_lt (number ys) (number xs))) h ∙ ap (λ b. of_bool (not b)) (lt-ltb (number ys) (number xs) l)

of_bool_one : (b : Bool) → of_bool b ≡ One → b ≡ true
of_bool_one true h = refl
of_bool_one false h = absurd (zero_one h)

pub case_equal_one : (xs ys : List V4) → case_equal xs ys ≡ One → xs ≡ ys
case_equal_one xs ys h = same_bits_same xs ys (of_bool_one (same_bits xs ys) h)

pub case_equal_self : (xs : List V4) → case_equal xs xs ≡ One
case_equal_self xs = ap of_bool (same_bits_self xs)

merged_self : (x : V4) → known x ≡ true → merged x x ≡ x
merged_self Zero h = refl
merged_self One h = refl
merged_self X h = absurd (true≢false (sym h))
merged_self Z h = absurd (true≢false (sym h))

merge_self : (xs : List V4) → all_known xs ≡ true → bitwise merged xs xs ≡ xs
merge_self [] h = refl
merge_self (x ∷ xs) h =
    let p = and_parts (known x) (all_known xs) h in
    ap₂ (λ v vs. v ∷ vs) (merged_self x p.0) (merge_self xs p.1)

pub choose_self : (c : V4) (xs : List V4) → all_known xs ≡ true → choose c xs xs ≡ xs
choose_self One xs h = refl
choose_self Zero xs h = refl
choose_self X xs h = merge_self xs h
choose_self Z xs h = merge_self xs h

pub part_known : (xs index : List V4) (size k : ℕ) → all_known index ≡ true → k < size → slice_index_or (part xs index size) k X ≡ slice_index_or xs (number index + k) X
part_known xs index size k h l = ap (λ c. slice_index_or (if c then bits_from xs (number index) size else unknown size) k X) h ∙ bits_from_at xs (number index) size k l

pub part_unknown : (xs index : List V4) (size : ℕ) → all_known index ≡ false → part xs index size ≡ unknown size
part_unknown xs index size h = ap (λ c. if c then bits_from xs (number index) size else unknown size) h

unknown_length : (size : ℕ) → length (unknown size) ≡ size
unknown_length zero = refl
unknown_length (suc size) = ap suc (unknown_length size)

bits_from_length : (xs : List V4) (i size : ℕ) → length (bits_from xs i size) ≡ size
bits_from_length xs i zero = refl
bits_from_length xs i (suc size) = ap suc (bits_from_length xs (suc i) size)

either_length : (b : Bool) (xs ys : List V4) (size : ℕ) → length xs ≡ size → length ys ≡ size → length (if b then xs else ys) ≡ size
either_length true xs ys size p q = p
either_length false xs ys size p q = q

pub wrapped_length : (xs ys : List V4) (n : ℕ) → length (wrapped xs ys n) ≡ length xs
wrapped_length xs ys n = either_length (both_known xs ys) (bits_of (length xs) n) (unknown (length xs)) (length xs) (bits_length (length xs) n) (unknown_length (length xs))

pub part_length : (xs index : List V4) (size : ℕ) → length (part xs index size) ≡ size
part_length xs index size = either_length (all_known index) (bits_from xs (number index) size) (unknown size) size (bits_from_length xs (number index) size) (unknown_length size)

pub bitwise_length : (rule : V4 → V4 → V4) (xs ys : List V4) → length xs ≡ length ys → length (bitwise rule xs ys) ≡ length xs
bitwise_length rule [] ys h = refl
bitwise_length rule (x ∷ xs) [] h = absurd (omega arith)
bitwise_length rule (x ∷ xs) (y ∷ ys) h = ap suc (bitwise_length rule xs ys (omega arith))

pub not_length : (xs : List V4) → length (not_bits xs) ≡ length xs
not_length [] = refl
not_length (x ∷ xs) = ap suc (not_length xs)

pub choose_length : (c : V4) (xs ys : List V4) → length xs ≡ length ys → length (choose c xs ys) ≡ length xs
choose_length One xs ys h = refl
choose_length Zero xs ys h = sym h
choose_length X xs ys h = bitwise_length merged xs ys h
choose_length Z xs ys h = bitwise_length merged xs ys h
