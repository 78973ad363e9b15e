-- The tokens stand in order, the last one is the end of the file, and names are names.
use Rattle.std.proofs.Common.{◌≡◌, ℕ, zero, suc, ◌<◌, ◌≤◌, ◌-◌, Bool, true, false, if◌then◌else◌, ◌==◌, ◌&&◌, ◌||◌, List, [], ◌∷◌, ◌++◌, length, take, drop, map, flat_map, Option, Some, None, All, refl, sym, ap, ◌∙◌, subst, append-nil, append_assoc, arith}
use Rattle.std.proofs.lemmas.List.Elements.{All-nil, All-cons, All-head, All-tail, All-map, All-weaker}
use Rattle.vv_gate.specs.Tree.{Ident, Group, Operand, low, high, port, Term, Assignment, GateFile}
use Rattle.vv_gate.specs.Whole.{is_letter, is_underscore, is_name_byte, IsName, idents_of_operand, idents_of_term, idents_of_assignment, idents_of_option, idents_of, Ascends, IsPlaced}
use Rattle.vv_gate.specs.declared.token.Mark.{Mark}
use Rattle.vv_gate.specs.declared.token.Mark.TheVariants as mk
use Rattle.vv_gate_lex.specs.Symbols.{Symbol, name, mark, other, finish, Token}
use Rattle.vv_gate_lex.specs.Lexical.{is_bit, is_alphanumeric, begins, name_tail, symbol_at, sign, named, keyword, skip, size, first_of, tokens_within, tokens}
use Rattle.vv_gate_read.specs.Grammar.{joined, spelled_ident, direction, spelled_group, spelled_term, operator_mark, spelled_assignment, spelled_context, spelled_entity, spelled_architecture, spelled}
use Rattle.vv_gate_lex.proofs.Tokens.{skip-length, behind-less, name_byte}

-- a name has the form and the place of its token
abbrev pub NameAt : Symbol → ℕ → Type 0
NameAt (name i) at = IsName i.text × (i.at ≡ at)
NameAt (mark m) at = Unit {0}
NameAt (other b) at = Unit {0}
NameAt finish at = Unit {0}

abbrev pub HasName : Token → Type 0
HasName t = NameAt t.symbol t.at

-- the last one, and no other, is the end
abbrev pub Closed : List Token → Type 0
Closed [] = ⊥
Closed (t ∷ []) = t.symbol ≡ finish
Closed (t ∷ u ∷ more) = Closed (u ∷ more)

or_left : (a b : Bool) → a ≡ true → (a || b) ≡ true
or_left true b h = refl
or_left false b h = let z : false ≡ true = h in cc

tail_byte : (b : ℕ) (more : List ℕ) (n : ℕ) (c t : Bool) → (is_alphanumeric b || (is_underscore b && c)) ≡ t → All (λ c. is_name_byte c ≡ true) (take n more)
    → All (λ c. is_name_byte c ≡ true) (take (if t then suc n else 0) (b ∷ more))
tail_byte b more n c true h rest = All-cons (λ (c : ℕ). is_name_byte c ≡ true) b (take n more) (name_byte b c h) rest
tail_byte b more n c false h rest = All-nil (λ (c : ℕ). is_name_byte c ≡ true)

tail_bytes : (bytes : List ℕ) → All (λ c. is_name_byte c ≡ true) (take (name_tail bytes) bytes)
tail_bytes [] = All-nil (λ (c : ℕ). is_name_byte c ≡ true)
tail_bytes (b ∷ more) = tail_byte b more (name_tail more) (begins is_alphanumeric more) (is_alphanumeric b || (is_underscore b && begins is_alphanumeric more)) refl (tail_bytes more)

named_at : (o : Option Mark) (text : List ℕ) (at : ℕ) → IsName text → NameAt (named o text at) at
named_at None text at h = (h, refl)
named_at (Some m) text at h = tt

either : (b : Bool) (x y : Symbol) (at : ℕ) → (b ≡ true → NameAt x at) → NameAt y at → NameAt (if b then x else y) at
either true x y at h k = h refl
either false x y at h k = k

sign_at : (b at : ℕ) → NameAt (sign b) at
sign_at b at =
    either (b == 59) (mark mk.Semicolon) (if b == 46 then mark mk.Dot else if b == 40 then mark mk.Open else if b == 41 then mark mk.Close else if b == 58 then mark mk.Colon else if b == 44 then mark mk.Comma else other b) at (λ _. tt)
    (either (b == 46) (mark mk.Dot) (if b == 40 then mark mk.Open else if b == 41 then mark mk.Close else if b == 58 then mark mk.Colon else if b == 44 then mark mk.Comma else other b) at (λ _. tt)
    (either (b == 40) (mark mk.Open) (if b == 41 then mark mk.Close else if b == 58 then mark mk.Colon else if b == 44 then mark mk.Comma else other b) at (λ _. tt)
    (either (b == 41) (mark mk.Close) (if b == 58 then mark mk.Colon else if b == 44 then mark mk.Comma else other b) at (λ _. tt)
    (either (b == 58) (mark mk.Colon) (if b == 44 then mark mk.Comma else other b) at (λ _. tt)
    (either (b == 44) (mark mk.Comma) (other b) at (λ _. tt) tt)))))

symbol_names : (at b : ℕ) (more : List ℕ) → NameAt (symbol_at at b more) at
symbol_names at b more =
    let text = b ∷ take (name_tail more) more in
    let arrow : Symbol = if b == 60 && begins (λ c. c == 61) more then mark mk.Arrow else sign b in
    let bit : Symbol = if begins (λ c. c == 48) more then mark mk.Zero else mark mk.One in
    either (is_letter b) (named (keyword text) text at) (if b == 39 && is_bit more then bit else arrow) at (λ h. named_at (keyword text) text at (h, tail_bytes more))
    (either (b == 39 && is_bit more) bit arrow at (λ _. either (begins (λ c. c == 48) more) (mark mk.Zero) (mark mk.One) at (λ _. tt) tt)
    (either (b == 60 && begins (λ c. c == 61) more) (mark mk.Arrow) (sign b) at (λ _. tt) (sign_at b at)))

-- from an offset on
pub record IsOrdered (floor : ℕ) (ts : List Token) : Type 0 where
  pub from : All (λ t. floor ≤ t.at) ts
  pub ascends : Ascends (map (λ t. t.at) ts)
  pub names : All HasName ts
  pub closed : Closed ts

closed_behind : (t : Token) (ts : List Token) → Closed ts → Closed (t ∷ ts)
closed_behind t [] h = absurd h
closed_behind t (u ∷ more) h = h

one_more : (floor next : ℕ) (t : Token) (ts : List Token) → floor ≤ t.at → t.at < next → HasName t → IsOrdered next ts → IsOrdered floor (t ∷ ts)
one_more floor next t ts h k n r = record {
  from = All-cons (λ (t : Token). floor ≤ t.at) t ts h (All-weaker (λ (u : Token). next ≤ u.at) (λ (u : Token). floor ≤ u.at) (λ u l. omega arith) ts r.from);
  ascends = (All-map (λ (b : ℕ). t.at < b) (λ (u : Token). u.at) ts (All-weaker (λ (u : Token). next ≤ u.at) (λ (u : Token). t.at < u.at) (λ u l. omega arith) ts r.from), r.ascends);
  names = All-cons HasName t ts n r.names;
  closed = closed_behind t ts r.closed;
}

first_ordered : (behind : List ℕ → List Token) (total : ℕ) (rest : List ℕ) → length rest ≤ total
    → ((b : ℕ) (more : List ℕ) → rest ≡ b ∷ more → IsOrdered (total - length (drop (size b more) rest)) (behind (drop (size b more) rest)))
    → IsOrdered (total - length rest) (first_of behind total rest)
first_ordered behind total [] within h = record {
  from = All-cons (λ (t : Token). total - 0 ≤ t.at) (record { symbol = finish; at = total }) [] (omega arith) (All-nil (λ (t : Token). total - 0 ≤ t.at));
  ascends = (All-nil (λ (b : ℕ). total < b), tt);
  names = All-cons HasName (record { symbol = finish; at = total }) [] tt (All-nil HasName);
  closed = refl;
}
first_ordered behind total (b ∷ more) within h =
    let at = total - suc (length more) in
    one_more (total - suc (length more)) (total - length (drop (size b more) (b ∷ more))) (record { symbol = symbol_at at b more; at = at }) (behind (drop (size b more) (b ∷ more)))
    (omega arith) (omega (arith, behind-less b more)) (symbol_names at b more) (h b more refl)

lower : (floor lower_floor : ℕ) (ts : List Token) → lower_floor ≤ floor → IsOrdered floor ts → IsOrdered lower_floor ts
lower floor lower_floor ts h r = record { from = All-weaker (λ (u : Token). floor ≤ u.at) (λ (u : Token). lower_floor ≤ u.at) (λ u l. omega arith) ts r.from; ascends = r.ascends; names = r.names; closed = r.closed }

within_ordered : (n total : ℕ) (bytes : List ℕ) → length bytes < n → length bytes ≤ total → IsOrdered (total - length bytes) (tokens_within n total bytes)
within_ordered zero total bytes h k = absurd (omega arith)
within_ordered (suc n) total bytes h k =
    let less = skip-length bytes in
    lower (total - length (skip bytes)) (total - length bytes) (first_of (tokens_within n total) total (skip bytes)) (omega arith)
    (first_ordered (tokens_within n total) total (skip bytes) (omega arith) (λ b more e.
    let shorter = behind-less b more in
    let same : length (skip bytes) ≡ suc (length more) = ap length e in
    let here : length (drop (size b more) (skip bytes)) ≤ length more = rw e shorter in
    within_ordered n total (drop (size b more) (skip bytes)) (omega arith) (omega arith)))

-- the tokens of a file
pub tokens-ordered : (bytes : List ℕ) → IsOrdered 0 (tokens (length bytes) bytes)
unfolding tokens
tokens-ordered bytes = lower (length bytes - length bytes) 0 (tokens (length bytes) bytes) (omega arith) (within_ordered (suc (length bytes)) (length bytes) bytes (omega arith) (omega arith))

-- the names among some symbols
abbrev pub names_of : List Symbol → List Ident
names_of [] = []
names_of (name i ∷ ts) = i ∷ names_of ts
names_of (mark m ∷ ts) = names_of ts
names_of (other b ∷ ts) = names_of ts
names_of (finish ∷ ts) = names_of ts

names_of-append : (a b : List Symbol) → names_of (a ++ b) ≡ names_of a ++ names_of b
names_of-append [] b = refl
names_of-append (name i ∷ a) b = ap (λ (k : List Ident). i ∷ k) (names_of-append a b)
names_of-append (mark m ∷ a) b = names_of-append a b
names_of-append (other c ∷ a) b = names_of-append a b
names_of-append (finish ∷ a) b = names_of-append a b

above_symbol : (floor : ℕ) (s : Symbol) (at : ℕ) (ss : List Symbol) → NameAt s at → floor < at → All (λ x. floor < x) (map (λ i. i.at) (names_of ss)) → All (λ x. floor < x) (map (λ i. i.at) (names_of (s ∷ ss)))
above_symbol floor (name i) at ss n h k = All-cons (λ (x : ℕ). floor < x) i.at (map (λ i. i.at) (names_of ss)) (omega (arith, n.1)) k
above_symbol floor (mark m) at ss n h k = k
above_symbol floor (other b) at ss n h k = k
above_symbol floor finish at ss n h k = k

ascending_symbol : (s : Symbol) (at : ℕ) (ss : List Symbol) → NameAt s at → All (λ x. at < x) (map (λ i. i.at) (names_of ss)) → Ascends (map (λ i. i.at) (names_of ss)) → Ascends (map (λ i. i.at) (names_of (s ∷ ss)))
ascending_symbol (name i) at ss n h k = (subst (λ (a : ℕ). All (λ x. a < x) (map (λ i. i.at) (names_of ss))) (sym n.1) h, k)
ascending_symbol (mark m) at ss n h k = k
ascending_symbol (other b) at ss n h k = k
ascending_symbol finish at ss n h k = k

texts_symbol : (s : Symbol) (at : ℕ) (ss : List Symbol) → NameAt s at → All (λ i. IsName i.text) (names_of ss) → All (λ i. IsName i.text) (names_of (s ∷ ss))
texts_symbol (name i) at ss n h = All-cons (λ (i : Ident). IsName i.text) i (names_of ss) n.0 h
texts_symbol (mark m) at ss n h = h
texts_symbol (other b) at ss n h = h
texts_symbol finish at ss n h = h

above : (floor : ℕ) (ts : List Token) → All HasName ts → All (λ x. floor < x) (map (λ t. t.at) ts) → All (λ x. floor < x) (map (λ i. i.at) (names_of (map (λ t. t.symbol) ts)))
above floor [] names h = All-nil (λ (x : ℕ). floor < x)
above floor (t ∷ ts) names h = above_symbol floor t.symbol t.at (map (λ t. t.symbol) ts) (All-head HasName t ts names) (All-head (λ (x : ℕ). floor < x) t.at (map (λ t. t.at) ts) h)
    (above floor ts (All-tail HasName t ts names) (All-tail (λ (x : ℕ). floor < x) t.at (map (λ t. t.at) ts) h))

ascending : (ts : List Token) → All HasName ts → Ascends (map (λ t. t.at) ts) → Ascends (map (λ i. i.at) (names_of (map (λ t. t.symbol) ts)))
ascending [] names h = tt
ascending (t ∷ ts) names h = ascending_symbol t.symbol t.at (map (λ t. t.symbol) ts) (All-head HasName t ts names)
    (above t.at ts (All-tail HasName t ts names) h.0) (ascending ts (All-tail HasName t ts names) h.1)

texts : (ts : List Token) → All HasName ts → All (λ i. IsName i.text) (names_of (map (λ t. t.symbol) ts))
texts [] names = All-nil (λ (i : Ident). IsName i.text)
texts (t ∷ ts) names = texts_symbol t.symbol t.at (map (λ t. t.symbol) ts) (All-head HasName t ts names) (texts ts (All-tail HasName t ts names))

-- the names in what a tree spells are its identifiers
names_of-idents : (xs : List Ident) → names_of (joined mk.Comma spelled_ident xs) ≡ xs
names_of-idents [] = refl
names_of-idents (x ∷ []) = refl
names_of-idents (x ∷ y ∷ more) = ap (λ (k : List Ident). x ∷ k) (names_of-idents (y ∷ more))

names_of-group : (g : Group) → names_of (spelled_group g) ≡ g.idents
names_of-group g = names_of-append (joined mk.Comma spelled_ident g.idents) (map mark (mk.Colon ∷ direction g.input ∷ mk.StdLogic ∷ [])) ∙ (append-nil (names_of (joined mk.Comma spelled_ident g.idents)) ∙ names_of-idents g.idents)

names_of-groups : (gs : List Group) → names_of (joined mk.Semicolon spelled_group gs) ≡ flat_map (λ g. g.idents) gs
names_of-groups [] = refl
names_of-groups (g ∷ []) = names_of-group g ∙ sym (append-nil g.idents)
names_of-groups (g ∷ h ∷ more) =
    names_of-append (spelled_group g) (mark mk.Semicolon ∷ joined mk.Semicolon spelled_group (h ∷ more))
    ∙ (ap (λ (k : List Ident). k ++ names_of (joined mk.Semicolon spelled_group (h ∷ more))) (names_of-group g) ∙ ap (λ (k : List Ident). g.idents ++ k) (names_of-groups (h ∷ more)))

names_of-term : (b : Bool) (o : Operand) → names_of (spelled_term (record { negated = b; operand = o })) ≡ idents_of_operand o
names_of-term true low = refl
names_of-term true high = refl
names_of-term true (port i) = refl
names_of-term false low = refl
names_of-term false high = refl
names_of-term false (port i) = refl

names_of-terms : (m : Mark) (ts : List Term) → names_of (joined m spelled_term ts) ≡ flat_map idents_of_term ts
names_of-terms m [] = refl
names_of-terms m (t ∷ []) = names_of-term t.negated t.operand ∙ sym (append-nil (idents_of_operand t.operand))
names_of-terms m (t ∷ u ∷ more) =
    names_of-append (spelled_term t) (mark m ∷ joined m spelled_term (u ∷ more))
    ∙ (ap (λ (k : List Ident). k ++ names_of (joined m spelled_term (u ∷ more))) (names_of-term t.negated t.operand) ∙ ap (λ (k : List Ident). idents_of_operand t.operand ++ k) (names_of-terms m (u ∷ more)))

names_of-assignment : (a : Assignment) → names_of (spelled_assignment a) ≡ idents_of_assignment a
names_of-assignment a = ap (λ (k : List Ident). a.target ∷ k)
    (names_of-append (joined (operator_mark a.operator) spelled_term a.terms) (mark mk.Semicolon ∷ []) ∙ (append-nil (names_of (joined (operator_mark a.operator) spelled_term a.terms)) ∙ names_of-terms (operator_mark a.operator) a.terms))

names_of-assignments : (xs : List Assignment) → names_of (flat_map spelled_assignment xs) ≡ flat_map idents_of_assignment xs
names_of-assignments [] = refl
names_of-assignments (a ∷ more) =
    names_of-append (spelled_assignment a) (flat_map spelled_assignment more)
    ∙ (ap (λ (k : List Ident). k ++ names_of (flat_map spelled_assignment more)) (names_of-assignment a) ∙ ap (λ (k : List Ident). idents_of_assignment a ++ k) (names_of-assignments more))

names_of-context : (l : Ident) (n : Option Ident) → names_of (spelled_context l n) ≡ l ∷ idents_of_option n
names_of-context l None = refl
names_of-context l (Some i) = refl

pub names_of-spelled : (f : GateFile) → names_of (spelled f) ≡ idents_of f
names_of-spelled f =
    let end : List Symbol = mark mk.End ∷ mark mk.Semicolon ∷ finish ∷ [] in
    let statements = flat_map spelled_assignment f.assignments ++ end in
    let body = spelled_architecture f.architecture f.of ++ statements in
    let groups = joined mk.Semicolon spelled_group f.groups in
    let last : names_of statements ≡ flat_map idents_of_assignment f.assignments =
    names_of-append (flat_map spelled_assignment f.assignments) end ∙ (append-nil (names_of (flat_map spelled_assignment f.assignments)) ∙ names_of-assignments f.assignments) in
    let middle : names_of (groups ++ body) ≡ flat_map (λ g. g.idents) f.groups ++ (f.architecture ∷ f.of ∷ flat_map idents_of_assignment f.assignments) =
    names_of-append groups body ∙ (ap (λ (k : List Ident). k ++ names_of body) (names_of-groups f.groups) ∙ ap (λ (k : List Ident). flat_map (λ g. g.idents) f.groups ++ (f.architecture ∷ f.of ∷ k)) last) in
    names_of-append (spelled_context f.logic f.numeric) (spelled_entity f.entity ++ (groups ++ body))
    ∙ (ap (λ (k : List Ident). k ++ (f.entity ∷ names_of (groups ++ body))) (names_of-context f.logic f.numeric)
    ∙ (ap (λ (k : List Ident). (f.logic ∷ idents_of_option f.numeric) ++ (f.entity ∷ k)) middle
    ∙ sym (append_assoc (f.logic ∷ idents_of_option f.numeric) (f.entity ∷ flat_map (λ g. g.idents) f.groups) (f.architecture ∷ f.of ∷ flat_map idents_of_assignment f.assignments))))

-- so they are names and stand in order
pub placed : (f : GateFile) (ts : List Token) → IsOrdered 0 ts → map (λ t. t.symbol) ts ≡ spelled f → IsPlaced f
placed f ts r e =
    let same : names_of (map (λ t. t.symbol) ts) ≡ idents_of f = ap names_of e ∙ names_of-spelled f in
    record {
      names = subst (λ (k : List Ident). All (λ i. IsName i.text) k) same (texts ts r.names);
      order = subst (λ (k : List Ident). Ascends (map (λ i. i.at) k)) same (ascending ts r.names r.ascends);
    }

first_within : (behind : List ℕ → List Token) (total : ℕ) (rest : List ℕ) → ((bytes : List ℕ) → All (λ t. t.at ≤ total) (behind bytes)) → All (λ t. t.at ≤ total) (first_of behind total rest)
first_within behind total [] h = All-cons (λ (t : Token). t.at ≤ total) (record { symbol = finish; at = total }) [] (omega arith) (All-nil (λ (t : Token). t.at ≤ total))
first_within behind total (b ∷ more) h =
    let at = total - suc (length more) in
    All-cons (λ (t : Token). t.at ≤ total) (record { symbol = symbol_at at b more; at = at }) (behind (drop (size b more) (b ∷ more))) (omega arith) (h (drop (size b more) (b ∷ more)))

pub all_within : (n total : ℕ) (bytes : List ℕ) → All (λ t. t.at ≤ total) (tokens_within n total bytes)
all_within zero total bytes = All-nil (λ (t : Token). t.at ≤ total)
all_within (suc n) total bytes = first_within (tokens_within n total) total (skip bytes) (λ rest. all_within n total rest)

middle : (P : Token → Type 0) (front more : List Token) (t : Token) → All P (front ++ (t ∷ more)) → P t
middle P [] more t h = All-head P t more h
middle P (u ∷ front) more t h = middle P front more t (All-tail P u (front ++ (t ∷ more)) h)

-- the place of a token lies in the file or at its end
pub token_within : (bytes : List ℕ) (front more : List Token) (t : Token) → tokens (length bytes) bytes ≡ front ++ (t ∷ more) → t.at ≤ length bytes
unfolding tokens
token_within bytes front more t e = middle (λ (t : Token). t.at ≤ length bytes) front more t
    (subst (All (λ (t : Token). t.at ≤ length bytes)) e (all_within (suc (length bytes)) (length bytes) bytes))
