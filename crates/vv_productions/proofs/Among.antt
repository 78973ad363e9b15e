-- What holds of some or of each of a list.
use Rattle.std.proofs.Common.{◌≡◌, inl, inr, Bool, true, false, ◌||◌, ◌&&◌, List, [], ◌∷◌, subst}
use Rattle.std.proofs.lemmas.Bool.{false≢true, and_parts, or_cases}
use Rattle.vv_grammar.specs.declared.terminal.Terminal.{Terminal}
use Rattle.vv_grammar.specs.Table.{Choice}
use Rattle.vv_grammar.specs.Terminals.{same, contains}
use Rattle.vv_grammar_laws.specs.Derivations.{IsAmong, first as here, later}
use Rattle.vv_productions.proofs.Equal.{same-is}
use Rattle.vv_productions.proofs.Items.{Way, eq_all, eq_all-is}

pub data In : Way → List Way → Type 0 where
  at_head : (x : Way) (xs : List Way) → In x (x ∷ xs)
  behind : (x y : Way) (xs : List Way) → In x xs → In x (y ∷ xs)

abbrev pub member : Way → List Way → Bool
member x [] = false
member x (y ∷ ys) = let r = member x ys in eq_all x y || r

pub member-in : (x : Way) (ys : List Way) → member x ys ≡ true → In x ys
member-in x [] h = absurd (false≢true h)
member-in x (y ∷ ys) h = elim (or_cases (eq_all x y) (member x ys) h) [
  | inl a ↦ subst (λ (z : Way). In x (z ∷ ys)) (eq_all-is x y a) (at_head x ys)
  | inr b ↦ behind x y ys (member-in x ys b)
]

abbrev pub some : (Way → Bool) → List Way → Bool
some f [] = false
some f (x ∷ xs) = let r = some f xs in f x || r

abbrev pub every : (Way → Bool) → List Way → Bool
every f [] = true
every f (x ∷ xs) = let r = every f xs in f x && r

pub record One (f : Way → Bool) (xs : List Way) : Type 0 where
  pub way : Way
  pub among : In way xs
  pub holds : f way ≡ true

pub some-one : (f : Way → Bool) (xs : List Way) → some f xs ≡ true → One f xs
some-one f [] h = absurd (false≢true h)
some-one f (x ∷ xs) h = elim (or_cases (f x) (some f xs) h) [
  | inl a ↦ record { way = x; among = at_head x xs; holds = a }
  | inr b ↦ let o = some-one f xs b in record { way = o.way; among = behind o.way x xs o.among; holds = o.holds }
]

pub every-in : (f : Way → Bool) (xs : List Way) (x : Way) → every f xs ≡ true → In x xs → f x ≡ true
every-in f [] x h i = elim i [ ]
every-in f (_ ∷ xs) x h (at_head _ _) = (and_parts (f x) (every f xs) h).0
every-in f (_ ∷ xs) x h (behind _ y _ i) = every-in f xs x (and_parts (f y) (every f xs) h).1 i

-- of the alternatives of a place
abbrev pub some_choice : (Choice → Bool) → List Choice → Bool
some_choice f [] = false
some_choice f (c ∷ cs) = let r = some_choice f cs in f c || r

abbrev pub every_choice : (Choice → Bool) → List Choice → Bool
every_choice f [] = true
every_choice f (c ∷ cs) = let r = every_choice f cs in f c && r

pub record OneChoice (f : Choice → Bool) (cs : List Choice) : Type 0 where
  pub choice : Choice
  pub among : IsAmong choice cs
  pub holds : f choice ≡ true

pub some-choice : (f : Choice → Bool) (cs : List Choice) → some_choice f cs ≡ true → OneChoice f cs
some-choice f [] h = absurd (false≢true h)
some-choice f (c ∷ cs) h = elim (or_cases (f c) (some_choice f cs) h) [
  | inl a ↦ record { choice = c; among = here c cs; holds = a }
  | inr b ↦ let o = some-choice f cs b in record { choice = o.choice; among = later o.choice c cs o.among; holds = o.holds }
]

pub every-choice : (f : Choice → Bool) (cs : List Choice) (c : Choice) → every_choice f cs ≡ true → IsAmong c cs → f c ≡ true
every-choice f [] c h i = elim i [ ]
every-choice f (_ ∷ cs) c h (here _ _) = (and_parts (f c) (every_choice f cs) h).0
every-choice f (_ ∷ cs) c h (later _ d _ i) = every-choice f cs c (and_parts (f d) (every_choice f cs) h).1 i

-- of the terminals of an alternative
abbrev pub every_terminal : (Terminal → Bool) → List Terminal → Bool
every_terminal f [] = true
every_terminal f (t ∷ ts) = let r = every_terminal f ts in f t && r

pub every-terminal : (f : Terminal → Bool) (ts : List Terminal) (t : Terminal) → every_terminal f ts ≡ true → contains ts t ≡ true → f t ≡ true
every-terminal f [] t h c = absurd (false≢true c)
every-terminal f (s ∷ ts) t h c = let both = and_parts (f s) (every_terminal f ts) h in elim (or_cases (same s t) (contains ts t) c) [
  | inl a ↦ subst (λ (z : Terminal). f z ≡ true) (same-is s t a) both.0
  | inr b ↦ every-terminal f ts t both.1 b
]
