-- What the checks of the places say.
use Rattle.std.proofs.Common.{◌≡◌, ℕ, List, subst, sym, Bool, true, [], ◌∷◌, None, refl}
use Rattle.std.proofs.lemmas.Bool.{false≢true}
use Rattle.vv_grammar.specs.declared.edition.Edition.{Edition}
use Rattle.vv_grammar.specs.declared.edition.Edition.TheVariants as edition
use Rattle.vv_grammar.specs.declared.place.Place.{Place}
use Rattle.vv_grammar.specs.declared.place.Place.TheVariants as place
use Rattle.vv_grammar.specs.Table.{Choice, alternatives, otherwise}
use Rattle.vv_machine.specs.Machine.{takes}
use Rattle.vv_grammar_laws.specs.Derivations.{IsAmong}
use Rattle.vv_productions.proofs.Items.{Way, flat, put, at_place}
use Rattle.vv_productions.proofs.Among.{In, at_head, behind, every_choice, every-choice}
use Rattle.vv_productions.proofs.Meanings.{ways}
use Rattle.vv_productions.proofs.Steps.{is_part, part}

-- a place that steps repeat has one way, and admits nothing else
pub single : (e : Edition) (b : ℕ) (p : Place) → is_part p ≡ true → ways e b p ≡ (flat (part p) ∷ [])
single e b place.Unit h = refl
single e b place.Declaration h = refl
single e b place.PackageDeclaration h = refl
single e b place.BodyDeclaration h = refl
single e b place.ProcessDeclaration h = refl
single e b place.Concurrent h = refl
single e b place.Statement h = refl
single e b place.MarkPart h = refl
single e b _ h = absurd (false≢true h)

pub nothing-else : (p : Place) → is_part p ≡ true → otherwise p ≡ None
nothing-else place.Unit h = refl
nothing-else place.Declaration h = refl
nothing-else place.PackageDeclaration h = refl
nothing-else place.BodyDeclaration h = refl
nothing-else place.ProcessDeclaration h = refl
nothing-else place.Concurrent h = refl
nothing-else place.Statement h = refl
nothing-else place.MarkPart h = refl
nothing-else _ h = absurd (false≢true h)

-- each of its alternatives takes a token
abbrev pub each_takes : Edition → Place → Bool
each_takes e p = every_choice (λ c. takes c.take) (alternatives e p)

parts-take : (e : Edition) (p : Place) → is_part p ≡ true → each_takes e p ≡ true
parts-take e place.Unit h = refl
parts-take e place.Declaration h = refl
parts-take e place.PackageDeclaration h = refl
parts-take e place.BodyDeclaration h = refl
parts-take e place.ProcessDeclaration h = refl
parts-take e place.Concurrent h = refl
parts-take e place.Statement h = refl
parts-take e place.MarkPart h = refl
parts-take e _ h = absurd (false≢true h)

pub all-take : (e : Edition) (p : Place) → is_part p ≡ true → (c : Choice) → IsAmong c (alternatives e p) → takes c.take ≡ true
all-take e p h c a = every-choice (λ c. takes c.take) (alternatives e p) c (parts-take e p h) a

-- the ways of a place, put into the tokens
abbrev pub puts : ℕ → ℕ → List Way → List Way
puts h b [] = []
puts h b (x ∷ xs) = put h b x ∷ puts h b xs

ways-put : (e : Edition) (h b c : ℕ) (p : Place) → puts h b (ways e c p) ≡ ways e (at_place h b c) p
ways-put edition.Vhdl93 h b c place.SensitivityNames = refl
ways-put edition.Vhdl08 h b c place.SensitivityNames = refl
ways-put e h b c place.Expression = refl
ways-put e h b c _ = refl

in-puts : (h b : ℕ) (x : Way) (xs : List Way) → In x xs → In (put h b x) (puts h b xs)
in-puts h b x [] i = elim i [ ]
in-puts h b x (_ ∷ xs) (at_head _ _) = at_head (put h b x) (puts h b xs)
in-puts h b x (_ ∷ xs) (behind _ y _ i) = behind (put h b x) (put h b y) (puts h b xs) (in-puts h b x xs i)

of-puts : (h b : ℕ) (x : Way) (xs : List Way) → In x (puts h b xs) → (y : Way) × In y xs × (put h b y ≡ x)
of-puts h b x [] i = elim i [ ]
of-puts h b _ (y ∷ xs) (at_head _ _) = (y, at_head y xs, refl)
of-puts h b x (y ∷ xs) (behind _ _ _ i) = let r = of-puts h b x xs i in (r.0, behind r.0 y xs r.1, r.2)

pub put-way : (e : Edition) (h b c : ℕ) (p : Place) (x : Way) → In x (ways e c p) → In (put h b x) (ways e (at_place h b c) p)
put-way e h b c p x i = subst (In (put h b x)) (ways-put e h b c p) (in-puts h b x (ways e c p) i)

pub way-put : (e : Edition) (h b c : ℕ) (p : Place) (x : Way) → In x (ways e (at_place h b c) p) → (y : Way) × In y (ways e c p) × (put h b y ≡ x)
way-put e h b c p x i = of-puts h b x (ways e c p) (subst (In x) (sym (ways-put e h b c p)) i)
