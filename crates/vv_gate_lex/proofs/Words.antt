-- The table of reserved words has each of them, with its mark, and no other text; the signs likewise.
use Rattle.std.proofs.Common.{◌≡◌, ℕ, Bool, true, false, if◌then◌else◌, ◌==◌, List, [], ◌∷◌, ◌++◌, map, All, Contains, bytes_eq, Some, refl, sym, lit<, subst}
use Rattle.std.specs.Set.{is_member}
use Rattle.std.proofs.lemmas.Bool.{eqb-true}
use Rattle.std.proofs.lemmas.Slice.Eq.{bytes_eq-Decides}
use Rattle.std.proofs.lemmas.Map.Made.{is_member-Decides}
use Rattle.std.proofs.lemmas.List.Elements.{All-nil, All-cons, All-head, All-tail}
use Rattle.vv_gate.specs.declared.token.Mark.{Mark}
use Rattle.vv_gate.specs.declared.token.Mark.TheVariants as mk
use Rattle.vv_gate_lex.specs.declared.keywords.TheConstants.{KEYWORDS}
use Rattle.vv_gate_lex.specs.Symbols.{Symbol, mark, other}
use Rattle.vv_gate_lex.specs.Lexical.{lookup, keyword, sign}
use Rattle.vv_gate_lex.specs.Words.{used_words, unused_words, signs, AreMarks}

each : {A B : Type 0} (f g : A → B) (xs : List A) → map f xs ≡ map g xs → All (λ x. f x ≡ g x) xs
each f g [] e = All-nil (λ x. f x ≡ g x)
each f g (x ∷ xs) e =
    let here : f x ≡ g x = cc in
    let behind : map f xs ≡ map g xs = cc in
    All-cons (λ x. f x ≡ g x) x xs here (each f g xs behind)

used : map (λ (w : List ℕ × Mark). keyword w.0) used_words ≡ map (λ (w : List ℕ × Mark). Some w.1) used_words
unfolding keyword
used = refl

unused : map keyword unused_words ≡ map (λ (w : List ℕ). Some mk.Reserved) unused_words
unfolding keyword
unused = refl

abbrev pub words : List (List ℕ)
words = map (λ (w : List ℕ × Mark). w.0) used_words ++ unused_words

abbrev pub table : List (List ℕ × Mark)
table = map (λ k. (k.0.now, k.1)) KEYWORDS

table_words : map (λ (k : List ℕ × Mark). is_member bytes_eq words k.0) table ≡ map (λ (k : List ℕ × Mark). true) table
table_words = refl

found : (ks : List (List ℕ × Mark)) (text : List ℕ) (m : Mark) → lookup ks text ≡ Some m → All (λ k. is_member bytes_eq words k.0 ≡ true) ks → is_member bytes_eq words text ≡ true
found [] text m e h = cc
found (k ∷ more) text m e h = go (bytes_eq k.0 text) refl e (λ g. found more text m g (All-tail (λ (k : List ℕ × Mark). is_member bytes_eq words k.0 ≡ true) k more h))
  where
    go : (t : Bool) → bytes_eq k.0 text ≡ t → (if t then Some k.1 else lookup more text) ≡ Some m → (lookup more text ≡ Some m → is_member bytes_eq words text ≡ true) → is_member bytes_eq words text ≡ true
    go true f g behind = subst (λ (w : List ℕ). is_member bytes_eq words w ≡ true) ((bytes_eq-Decides k.0 text).0 f) (All-head (λ (k : List ℕ × Mark). is_member bytes_eq words k.0 ≡ true) k more h)
    go false f g behind = behind g

only : (text : List ℕ) (m : Mark) → keyword text ≡ Some m → Contains words text
unfolding keyword
only text m e = (is_member-Decides bytes_eq-Decides words text).0 (found table text m e (each (λ (k : List ℕ × Mark). is_member bytes_eq words k.0) (λ (k : List ℕ × Mark). true) table table_words))

signed : map (λ (s : ℕ × Mark). sign s.0) signs ≡ map (λ (s : ℕ × Mark). mark s.1) signs
signed = refl

sign_test : (t : Bool) (x m : Mark) (y : Symbol) (P : Type 0) → (if t then mark x else y) ≡ mark m → (t ≡ true → P) → (y ≡ mark m → P) → P
sign_test true x m y P e h k = h refl
sign_test false x m y P e h k = k e

abbrev pub Sign : ℕ → Type 0
Sign b = Contains (map (λ (s : ℕ × Mark). s.0) signs) b

only_sign : (b : ℕ) (m : Mark) → sign b ≡ mark m → Sign b
only_sign b m e =
    let comma : Symbol = if b == 44 then mark mk.Comma else other b in
    let colon : Symbol = if b == 58 then mark mk.Colon else comma in
    let close : Symbol = if b == 41 then mark mk.Close else colon in
    let open_sign : Symbol = if b == 40 then mark mk.Open else close in
    let dot : Symbol = if b == 46 then mark mk.Dot else open_sign in
    sign_test (b == 59) mk.Semicolon m dot (Sign b) e (λ h. (0, lit< tt, sym (eqb-true b 59 h)))
    (λ e. sign_test (b == 46) mk.Dot m open_sign (Sign b) e (λ h. (1, lit< tt, sym (eqb-true b 46 h)))
    (λ e. sign_test (b == 40) mk.Open m close (Sign b) e (λ h. (2, lit< tt, sym (eqb-true b 40 h)))
    (λ e. sign_test (b == 41) mk.Close m colon (Sign b) e (λ h. (3, lit< tt, sym (eqb-true b 41 h)))
    (λ e. sign_test (b == 58) mk.Colon m comma (Sign b) e (λ h. (4, lit< tt, sym (eqb-true b 58 h)))
    (λ e. sign_test (b == 44) mk.Comma m (other b) (Sign b) e (λ h. (5, lit< tt, sym (eqb-true b 44 h)))
    (λ e. cc))))))

pub all_marks : AreMarks
all_marks = record {
  used = each (λ (w : List ℕ × Mark). keyword w.0) (λ (w : List ℕ × Mark). Some w.1) used_words used;
  unused = each keyword (λ (w : List ℕ). Some mk.Reserved) unused_words unused;
  only_words = only;
  single = each (λ (s : ℕ × Mark). sign s.0) (λ (s : ℕ × Mark). mark s.1) signs signed;
  only_single = only_sign;
}
