-- Strings: where they end, and their bytes with each doubled quote once.
use Rattle.std.proofs.Common.{◌≡◌, ℕ, suc, ◌≤◌, ◌-◌, Bool, true, false, if◌then◌else◌, ◌==◌, List, [], ◌∷◌, ◌++◌, length, take, All, Option, Some, None, option_map, refl, ap, ◌∙◌, arith}
use Rattle.std.proofs.lemmas.Bool.{eqb-true}
use Rattle.std.proofs.lemmas.List.{take_at}
use Rattle.std.proofs.lemmas.List.Elements.{All-nil, All-cons, All-head, All-tail}
use Rattle.vv_vlex.specs.Bytes.{is_printable}
use Rattle.vv_vlex.specs.Elements.{undoubled}
use Rattle.vv_vlex.specs.Quoted.{closed, closed_quote, doubled_or_last}
use Rattle.vv_vlex_laws.specs.Cut.{doubled}

pub undoubled-doubled : (bytes : List ℕ) → undoubled (doubled bytes) ≡ bytes
undoubled-doubled [] = refl
undoubled-doubled (b ∷ bytes) = go (b == 34) refl (undoubled-doubled bytes)
  where
    go : (t : Bool) → (b == 34) ≡ t → undoubled (doubled bytes) ≡ bytes → undoubled (if t then 34 ∷ 34 ∷ doubled bytes else b ∷ doubled bytes) ≡ b ∷ bytes
    go true e h = let f : b ≡ 34 = eqb-true b 34 e in rw (f, h) refl
    go false e h = rw (e, h) refl

-- a string that was found: its bytes, its end, and what stands behind
pub record Closed (bytes : List ℕ) (n : ℕ) : Type 0 where
  pub content : List ℕ
  pub rest : List ℕ
  pub each : All (λ b. is_printable b ≡ true) content
  pub split : bytes ≡ doubled content ++ (34 ∷ rest)
  pub size : n ≡ suc (length (doubled content))

pub record ClosedQuote (bytes : List ℕ) (n : ℕ) : Type 0 where
  pub content : List ℕ
  pub rest : List ℕ
  pub each : All (λ b. is_printable b ≡ true) content
  pub split : 34 ∷ bytes ≡ doubled content ++ (34 ∷ rest)
  pub size : n ≡ suc (length (doubled content))

printable : (b : ℕ) → is_printable b ≡ true → (content : List ℕ) → All (λ b. is_printable b ≡ true) content → All (λ b. is_printable b ≡ true) (b ∷ content)
printable b h content a = All-cons (λ (b : ℕ). is_printable b ≡ true) b content h a

nothing : All (λ b. is_printable b ≡ true) []
nothing = All-nil (λ (b : ℕ). is_printable b ≡ true)

found_byte : (b n m : ℕ) (more : List ℕ) → (b == 34) ≡ false → is_printable b ≡ true → Some (suc m) ≡ Some n → Closed more m → Closed (b ∷ more) n
found_byte b n m more k f e found =
    let size : n ≡ suc m = cc in
    record {
      content = b ∷ found.content;
      rest = found.rest;
      each = printable b f found.content found.each;
      split = rw k (ap (λ (x : List ℕ). b ∷ x) found.split);
      size = rw k (size ∙ ap suc found.size);
    }

found_quote : (b n : ℕ) (more : List ℕ) → (b == 34) ≡ true → ClosedQuote more n → Closed (b ∷ more) n
found_quote b n more k found =
    let same : b ≡ 34 = eqb-true b 34 k in
    record { content = found.content; rest = found.rest; each = found.each; split = ap (λ (x : ℕ). x ∷ more) same ∙ found.split; size = found.size }

found_last : (n : ℕ) (more : List ℕ) → Some 1 ≡ Some n → ClosedQuote more n
found_last n more e = let size : n ≡ 1 = cc in record { content = []; rest = more; each = nothing; split = refl; size = size }

found_double : (b n m : ℕ) (more : List ℕ) → (b == 34) ≡ true → Some (suc (suc m)) ≡ Some n → Closed more m → ClosedQuote (b ∷ more) n
found_double b n m more k e found =
    let size : n ≡ suc (suc m) = cc in
    let same : b ≡ 34 = eqb-true b 34 k in
    record {
      content = 34 ∷ found.content;
      rest = found.rest;
      each = printable 34 refl found.content found.each;
      split = ap (λ (x : List ℕ). 34 ∷ x) (ap (λ (x : ℕ). x ∷ more) same ∙ ap (λ (x : List ℕ). 34 ∷ x) found.split);
      size = size ∙ ap (λ (x : ℕ). suc (suc x)) found.size;
    }

byte_step : (b n : ℕ) (more : List ℕ) (q t : Bool) (o : Option ℕ) → (b == 34) ≡ q → is_printable b ≡ t
    → ((m : ℕ) → o ≡ Some m → Closed more m) → (closed_quote more ≡ Some n → ClosedQuote more n)
    → (if q then closed_quote more else if t then option_map suc o else None) ≡ Some n → Closed (b ∷ more) n
byte_step b n more true t o k f here quote e = found_quote b n more k (quote e)
byte_step b n more false true None k f here quote e = cc
byte_step b n more false true (Some m) k f here quote e = found_byte b n m more k f e (here m refl)
byte_step b n more false false o k f here quote e = cc

quote_step : (b n : ℕ) (more : List ℕ) (q : Bool) (o : Option ℕ) → (b == 34) ≡ q → ((m : ℕ) → o ≡ Some m → Closed more m)
    → (if q then doubled_or_last o else Some 1) ≡ Some n → ClosedQuote (b ∷ more) n
quote_step b n more true None k here e = found_last n (b ∷ more) e
quote_step b n more true (Some m) k here e = found_double b n m more k e (here m refl)
quote_step b n more false o k here e = found_last n (b ∷ more) e

mutual
  pub closed-found : (bytes : List ℕ) (n : ℕ) → closed bytes ≡ Some n → Closed bytes n
  closed-found [] n e = cc
  closed-found (b ∷ more) n e = byte_step b n more (b == 34) (is_printable b) (closed more) refl refl (λ m h. closed-found more m h) (λ h. closed-quote more n h) e

  closed-quote : (bytes : List ℕ) (n : ℕ) → closed_quote bytes ≡ Some n → ClosedQuote bytes n
  closed-quote [] n e = found_last n [] e
  closed-quote (b ∷ more) n e = quote_step b n more (b == 34) (closed more) refl (λ m h. closed-found more m h) e

-- the bytes of a string that was found
pub taken : (bytes : List ℕ) (n : ℕ) (f : Closed bytes n) → undoubled (take (n - 1) bytes) ≡ f.content
taken bytes n f =
    let less : n - 1 ≡ length (doubled f.content) = (let s = f.size in omega arith) in
    let front : take (n - 1) bytes ≡ doubled f.content = rw (less, f.split) (take_at (doubled f.content) (34 ∷ f.rest) (length (doubled f.content)) refl) in
    ap undoubled front ∙ undoubled-doubled f.content

-- where a string stands, one is found, and none shorter
pub record Reaches (bytes : List ℕ) (n : ℕ) : Type 0 where
  pub reach : ℕ
  pub found : closed bytes ≡ Some reach
  pub far : n ≤ reach

quote_reaches : (more : List ℕ) → Reaches (34 ∷ more) 1
quote_reaches [] = record { reach = 1; found = refl; far = omega arith }
quote_reaches (b ∷ more) = go (b == 34) refl (closed more) refl
  where
    go : (q : Bool) → (b == 34) ≡ q → (o : Option ℕ) → closed more ≡ o → Reaches (34 ∷ b ∷ more) 1
    go true k None h = record { reach = 1; found = rw (k, h) refl; far = omega arith }
    go true k (Some m) h = record { reach = suc (suc m); found = rw (k, h) refl; far = omega arith }
    go false k o h = record { reach = 1; found = rw k refl; far = omega arith }

pub string_reaches : (bytes more : List ℕ) → All (λ b. is_printable b ≡ true) bytes → Reaches (doubled bytes ++ (34 ∷ more)) (suc (length (doubled bytes)))
string_reaches [] more a = quote_reaches more
string_reaches (b ∷ bytes) more a = go (b == 34) refl (string_reaches bytes more (All-tail (λ (b : ℕ). is_printable b ≡ true) b bytes a))
  where
    go : (q : Bool) → (b == 34) ≡ q → Reaches (doubled bytes ++ (34 ∷ more)) (suc (length (doubled bytes)))
        → Reaches ((if q then 34 ∷ 34 ∷ doubled bytes else b ∷ doubled bytes) ++ (34 ∷ more)) (suc (length (if q then 34 ∷ 34 ∷ doubled bytes else b ∷ doubled bytes)))
    go true k r = let far = r.far in record { reach = suc (suc r.reach); found = rw r.found refl; far = omega arith }
    go false k r =
        let far = r.far in
        let p : is_printable b ≡ true = All-head (λ (b : ℕ). is_printable b ≡ true) b bytes a in
        record { reach = suc r.reach; found = rw (k, p, r.found) refl; far = omega arith }
