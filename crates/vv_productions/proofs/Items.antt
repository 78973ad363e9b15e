-- Phrases one behind the other, taken apart as far as no choice is made, with the ends of what is counted. An end tells how many tokens were left where it began.
use Rattle.std.proofs.Common.{◌≡◌, ℕ, zero, suc, Bool, true, false, ◌&&◌, nat_eq, ◌+◌, List, [], ◌∷◌, ◌++◌, Option, Some, None, refl, ap, ◌∙◌, arith}
use Rattle.std.proofs.lemmas.Bool.{false≢true, and_parts, eqb-true}
use denote.Enum.Declared.{tag_of}
use denote.Enum.Bare.{tag_one}
use Rattle.vv_grammar.specs.declared.form.Form.{Form}
use Rattle.vv_grammar.specs.contracts.form.Form as f
use Rattle.vv_grammar.specs.declared.terminal.Terminal.{Terminal}
use Rattle.vv_grammar.specs.Terminals.{same}
use Rattle.vv_productions.specs.Phrases as p
use Rattle.vv_productions.specs.Phrases.{Production, Phrase, ◌▸◌, ◌or◌}
use Rattle.vv_productions.specs.Depths.{Kind, an_expression, a_statement}
use Rattle.vv_productions.proofs.Equal.{eq, eq-is, number, number-is, same-is}

pub data Item : Type 0 where
  skip : Terminal → Item
  keep : Terminal → Item
  make : Form → Item
  rule : Production → Item
  either : Phrase → Phrase → Item
  option : Phrase → Item
  many : Phrase → Item
  close : Kind → ℕ → Item

abbrev pub Way : Type 0
Way = List Item

abbrev pub flat : Phrase → Way
flat (p.skip w) = skip w ∷ []
flat (p.keep w) = keep w ∷ []
flat (p.make f) = make f ∷ []
flat (p.rule q) = rule q ∷ []
flat (a ▸ b) = flat a ++ flat b
flat (a or b) = either a b ∷ []
flat (p.option a) = option a ∷ []
flat (p.many a) = many a ∷ []

abbrev pub closing : Option Kind → ℕ → Way → Way
closing None s K = K
closing (Some k) s K = close k s ∷ K

abbrev pub same_kind : Kind → Kind → Bool
same_kind an_expression an_expression = true
same_kind a_statement a_statement = true
same_kind _ _ = false

same_kind-is : (k j : Kind) → same_kind k j ≡ true → k ≡ j
same_kind-is an_expression an_expression h = refl
same_kind-is a_statement a_statement h = refl
same_kind-is an_expression a_statement h = absurd (false≢true h)
same_kind-is a_statement an_expression h = absurd (false≢true h)

abbrev pub one_if : Bool → ℕ
one_if true = 1
one_if false = 0

abbrev pub more_if : Bool → ℕ → ℕ
more_if true n = n + 1
more_if false n = n

more-sum : (b : Bool) (m n : ℕ) → more_if b (m + n) ≡ more_if b m + n
more-sum true m n = omega arith
more-sum false m n = refl

-- how many of a kind are round what stands in front of these: they end behind it
abbrev pub round : Kind → Way → ℕ
round k [] = 0
round k (close j s ∷ K) = more_if (same_kind k j) (round k K)
round k (a ∷ K) = round k K

pub round-append : (k : Kind) (x y : Way) → round k (x ++ y) ≡ round k x + round k y
round-append k [] y = omega arith
round-append k (skip w ∷ x) y = round-append k x y
round-append k (keep w ∷ x) y = round-append k x y
round-append k (make g ∷ x) y = round-append k x y
round-append k (rule q ∷ x) y = round-append k x y
round-append k (either a b ∷ x) y = round-append k x y
round-append k (option a ∷ x) y = round-append k x y
round-append k (many a ∷ x) y = round-append k x y
round-append k (close j s ∷ x) y = ap (more_if (same_kind k j)) (round-append k x y) ∙ more-sum (same_kind k j) (round k x) (round k y)

abbrev pub eq_item : Item → Item → Bool
eq_item (skip a) (skip b) = same a b
eq_item (keep a) (keep b) = same a b
eq_item (make a) (make b) = nat_eq (tag_of f.the_type a) (tag_of f.the_type b)
eq_item (rule a) (rule b) = nat_eq (number a) (number b)
eq_item (either a b) (either c d) = let r = eq b d in eq a c && r
eq_item (option a) (option b) = eq a b
eq_item (many a) (many b) = eq a b
eq_item (close k s) (close j t) = same_kind k j && nat_eq s t
eq_item _ _ = false

pub eq_item-is : (a b : Item) → eq_item a b ≡ true → a ≡ b
eq_item-is (skip a) (skip b) h = ap skip (same-is a b h)
eq_item-is (keep a) (keep b) h = ap keep (same-is a b h)
eq_item-is (make a) (make b) h = ap make (tag_one f.the_type tt a b (eqb-true (tag_of f.the_type a) (tag_of f.the_type b) h))
eq_item-is (rule a) (rule b) h = ap rule (number-is a b h)
eq_item-is (either a b) (either c d) h = let x = and_parts (eq a c) (eq b d) h in ap (λ (z : Phrase). either z b) (eq-is a c x.0) ∙ ap (λ (z : Phrase). either c z) (eq-is b d x.1)
eq_item-is (option a) (option b) h = ap option (eq-is a b h)
eq_item-is (many a) (many b) h = ap many (eq-is a b h)
eq_item-is (close k s) (close j t) h =
    let x = and_parts (same_kind k j) (nat_eq s t) h in ap (λ (z : Kind). close z s) (same_kind-is k j x.0) ∙ ap (λ (z : ℕ). close j z) (eqb-true s t x.1)
eq_item-is _ _ h = absurd (false≢true h)

abbrev pub eq_all : Way → Way → Bool
eq_all [] [] = true
eq_all (a ∷ x) (b ∷ y) = let r = eq_all x y in eq_item a b && r
eq_all _ _ = false

pub eq_all-is : (x y : Way) → eq_all x y ≡ true → x ≡ y
eq_all-is [] [] h = refl
eq_all-is (a ∷ x) (b ∷ y) h = let z = and_parts (eq_item a b) (eq_all x y) h in ap (λ (c : Item). c ∷ x) (eq_item-is a b z.0) ∙ ap (λ (v : Way). b ∷ v) (eq_all-is x y z.1)
eq_all-is _ _ h = absurd (false≢true h)

-- Ends begin here (0) or where the production round them began (1), as long as places are told by themselves. So they are put into the tokens.
abbrev pub at_place : ℕ → ℕ → ℕ → ℕ
at_place here began zero = here
at_place here began (suc n) = began

abbrev pub put_item : ℕ → ℕ → Item → Item
put_item h b (close k s) = close k (at_place h b s)
put_item h b (skip w) = skip w
put_item h b (keep w) = keep w
put_item h b (make f) = make f
put_item h b (rule q) = rule q
put_item h b (either x y) = either x y
put_item h b (option x) = option x
put_item h b (many x) = many x

abbrev pub put : ℕ → ℕ → Way → Way
put h b [] = []
put h b (a ∷ x) = put_item h b a ∷ put h b x

pub put-append : (h b : ℕ) (x y : Way) → put h b (x ++ y) ≡ put h b x ++ put h b y
put-append h b [] y = refl
put-append h b (a ∷ x) y = ap (λ (z : Way). put_item h b a ∷ z) (put-append h b x y)

-- what is flat has no ends
pub put-flat : (h b : ℕ) (a : Phrase) → put h b (flat a) ≡ flat a
put-flat h b (p.skip w) = refl
put-flat h b (p.keep w) = refl
put-flat h b (p.make f) = refl
put-flat h b (p.rule q) = refl
put-flat h b (x ▸ y) = put-append h b (flat x) (flat y) ∙ ap (λ (z : Way). z ++ put h b (flat y)) (put-flat h b x) ∙ ap (λ (z : Way). flat x ++ z) (put-flat h b y)
put-flat h b (x or y) = refl
put-flat h b (p.option x) = refl
put-flat h b (p.many x) = refl

pub round-put : (h b : ℕ) (k : Kind) (x : Way) → round k (put h b x) ≡ round k x
round-put h b k [] = refl
round-put h b k (skip w ∷ x) = round-put h b k x
round-put h b k (keep w ∷ x) = round-put h b k x
round-put h b k (make g ∷ x) = round-put h b k x
round-put h b k (rule q ∷ x) = round-put h b k x
round-put h b k (either a c ∷ x) = round-put h b k x
round-put h b k (option a ∷ x) = round-put h b k x
round-put h b k (many a ∷ x) = round-put h b k x
round-put h b k (close j s ∷ x) = ap (more_if (same_kind k j)) (round-put h b k x)
