-- Whether a name is among names.
use Rattle.std.proofs.Common.{◌≡◌, ℕ, Bool, true, false, not, cond, ◌&&◌, ◌||◌, List, [], ◌∷◌, ◌++◌, map, filter, refl, sym, ◌∙◌, ap, Bor}
use Rattle.std.specs.List.{list_any}
use Rattle.std.specs.HashSet.{HashSet, contains}
use Rattle.std.specs.Str.{bytes_eq}
use Rattle.std.proofs.lemmas.Cmp.{nat_list_eq_equiv}
use Rattle.std.proofs.lemmas.List.{map-append}
use Rattle.std.proofs.lemmas.List.Elements.{filter-append}
use Rattle.std.proofs.lemmas.List.Folds.{list_any-append}
use Rattle.vv_gate.specs.Tree.{Port}
use Rattle.vv_gate.specs.Conditions.{name_of}
use Rattle.vv_gate_check.specs.Places.{is_among, inputs_of, outputs_of, without}
use Rattle.vv_gate_check.specs.Names.{AreSame}

-- how a set compares its names
abbrev pub same : Bor (List ℕ) → Bor (List ℕ) → Bool
same a b = bytes_eq a.now b.now

or_move : (a b c : Bool) → (b || (a || c)) ≡ ((a || b) || c)
or_move true true c = refl
or_move true false c = refl
or_move false true c = refl
or_move false false c = refl

pub among_append : (q : List ℕ) (a b : List (List ℕ)) → is_among q (a ++ b) ≡ (is_among q a || is_among q b)
among_append q a b = list_any-append (bytes_eq q) a b

pub name_sym : (a b : List ℕ) → bytes_eq a b ≡ bytes_eq b a
name_sym a b = nat_list_eq_equiv.symm a b

-- a set has a name if it is among the set's names
pub among_keys : (q : List ℕ) (keys : List (Bor (List ℕ))) → is_among q (map (λ k. k.now) keys) ≡ list_any (λ k. bytes_eq q k.now) keys
among_keys q [] = refl
among_keys q (k ∷ more) = ap (λ b. bytes_eq q k.now || b) (among_keys q more)

cond_or : (b x : Bool) → cond b true x ≡ (b || x)
cond_or true x = refl
cond_or false x = refl

cond_and : (b x : Bool) → cond b false x ≡ (not b && x)
cond_and true x = refl
cond_and false x = refl

-- a set after a name went in
pub inserted : {S : Type 0} (k : Bor (List ℕ)) (old new : HashSet (Bor (List ℕ)) S) →
    ((q : Bor (List ℕ)) → contains same new q ≡ cond (same k q) true (contains same old q)) → AreSame (map (λ k. k.now) new.keys) (k.now ∷ map (λ k. k.now) old.keys)
inserted k old new h = λ q.
    let at : Bor (List ℕ) = record { ref_ptr = (0, 0); now = q } in
    among_keys q new.keys ∙ h at
    ∙ cond_or (bytes_eq k.now q) (contains same old at)
    ∙ ap (λ b. b || contains same old at) (name_sym k.now q)
    ∙ ap (λ b. bytes_eq q k.now || b) (sym (among_keys q old.keys))

-- names that come in two steps
pub same_more : (n0 n1 n2 a b : List (List ℕ)) → AreSame n1 (a ++ n0) → AreSame n2 (b ++ n1) → AreSame n2 ((a ++ b) ++ n0)
same_more n0 n1 n2 a b h1 h2 = λ q.
    h2 q ∙ among_append q b n1
    ∙ ap (λ x. is_among q b || x) (h1 q ∙ among_append q a n0)
    ∙ or_move (is_among q a) (is_among q b) (is_among q n0)
    ∙ ap (λ x. x || is_among q n0) (sym (among_append q a b))
    ∙ sym (among_append q (a ++ b) n0)

pub inputs_of-append : (a b : List Port) → inputs_of (a ++ b) ≡ inputs_of a ++ inputs_of b
inputs_of-append a b = ap (map name_of) (filter-append (λ p. p.input) a b) ∙ map-append name_of (filter (λ p. p.input) a) (filter (λ p. p.input) b)

pub outputs_of-append : (a b : List Port) → outputs_of (a ++ b) ≡ outputs_of a ++ outputs_of b
outputs_of-append a b = ap (map name_of) (filter-append (λ p. not p.input) a b) ∙ map-append name_of (filter (λ p. not p.input) a) (filter (λ p. not p.input) b)

-- one more port, of which a filter keeps the name
pub among_kept : (q : List ℕ) (keep : Bool) (p : Port) (more : List Port) →
    is_among q (map name_of (cond keep (p ∷ more) more)) ≡ ((keep && bytes_eq q p.ident.text) || is_among q (map name_of more))
among_kept q true p more = refl
among_kept q false p more = refl

without_step : (q n m : List ℕ) (w : List (List ℕ)) (rest taken same : Bool) → bytes_eq n m ≡ taken → bytes_eq q m ≡ same →
    is_among q w ≡ (not (bytes_eq n q) && rest) → is_among q (cond (not taken) (m ∷ w) w) ≡ (not (bytes_eq n q) && (same || rest))
without_step q n m w rest true true t s h =
    let e : bytes_eq n q ≡ true = name_sym n q ∙ nat_list_eq_equiv.congr q m n s ∙ name_sym m n ∙ t in
    h ∙ ap (λ b. not b && rest) e ∙ sym (ap (λ b. not b && true) e)
without_step q n m w rest true false t s h = h
without_step q n m w rest false true t s h =
    let e : bytes_eq n q ≡ false = name_sym n q ∙ nat_list_eq_equiv.congr q m n s ∙ name_sym m n ∙ t in
    ap (λ b. b || is_among q w) s ∙ sym (ap (λ b. not b && true) e)
without_step q n m w rest false false t s h = ap (λ b. b || is_among q w) s ∙ h

pub among_without : (q n : List ℕ) (names : List (List ℕ)) → is_among q (without n names) ≡ (not (bytes_eq n q) && is_among q names)
among_without q n [] = no_more (bytes_eq n q)
  where
    no_more : (b : Bool) → false ≡ (not b && false)
    no_more true = refl
    no_more false = refl
among_without q n (m ∷ more) =
    without_step q n m (without n more) (is_among q more) (bytes_eq n m) (bytes_eq q m) refl refl (among_without q n more)

pub without_same : (n : List ℕ) (a b : List (List ℕ)) → AreSame a b → AreSame (without n a) (without n b)
without_same n a b h = λ q. among_without q n a ∙ ap (λ x. not (bytes_eq n q) && x) (h q) ∙ sym (among_without q n b)

-- a set after a name was taken out
pub removed : {S : Type 0} (k : Bor (List ℕ)) (old new : HashSet (Bor (List ℕ)) S) →
    ((q : Bor (List ℕ)) → contains same new q ≡ cond (same k q) false (contains same old q)) → AreSame (map (λ k. k.now) new.keys) (without k.now (map (λ k. k.now) old.keys))
removed k old new h = λ q.
    let at : Bor (List ℕ) = record { ref_ptr = (0, 0); now = q } in
    among_keys q new.keys ∙ h at
    ∙ cond_and (bytes_eq k.now q) (contains same old at)
    ∙ ap (λ b. not (bytes_eq k.now q) && b) (sym (among_keys q old.keys))
    ∙ sym (among_without q k.now (map (λ k. k.now) old.keys))
