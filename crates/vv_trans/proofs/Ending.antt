-- The end of the file is the last element alone, so what is derived as a file is all of it.
use Rattle.std.proofs.Common.{◌≡◌, ◌⊎◌, inl, inr, ℕ, ◌+◌, Bool, true, false, List, [], ◌∷◌, ◌++◌, length, Option, Some, None, refl, sym, ap, ◌∙◌, subst, append_assoc}
use Rattle.std.proofs.lemmas.Bool.{true≢false}
use Rattle.std.proofs.lemmas.List.{map-append}
use Rattle.vv_vlex.specs.Elements.{Element, Lexeme, finish}
use Rattle.vv_vlex.specs.Lexical.{placed}
use Rattle.vv_vlex.specs.Words.{word_of, named}
use Rattle.vv_vlex.specs.declared.word.Word.{Word}
use Rattle.vv_vlex_laws.specs.Cut.{Piece, space, comment, name, decimal, based, character, string, bits, mark, text_of, element_for, elements_from, IsCutOf}
use Rattle.vv_grammar.specs.declared.edition.Edition.{Edition}
use Rattle.vv_grammar.specs.declared.event.Event.{Event}
use Rattle.vv_grammar.specs.declared.form.Form.TheVariants as form
use Rattle.vv_grammar.specs.declared.step.Step.{Step}
use Rattle.vv_grammar.specs.declared.step.Step.TheVariants as step
use Rattle.vv_grammar.specs.declared.step.Take.{Take}
use Rattle.vv_grammar.specs.declared.step.Take.TheVariants as take
use Rattle.vv_grammar.specs.declared.terminal.Terminal.{Terminal}
use Rattle.vv_grammar.specs.declared.terminal.Terminal.TheVariants as terminal
use Rattle.vv_grammar.specs.Terminals.{same}
use Rattle.vv_grammar_laws.specs.Derivations.{left, Derives, done, make, skip, keep, call, pass, stop, more}
use Rattle.vv_grammar_laws.specs.Starts.{file, steps_for}
use Rattle.vv_grammar.specs.Terminals.{kind_of_element, terminals_of_elements}

abbrev is_end : Terminal → Bool
is_end terminal.End = true
is_end _ = false

abbrev HaveNoEnd : List Terminal → Type 0
HaveNoEnd [] = Unit {0}
HaveNoEnd (t ∷ ts) = (is_end t ≡ false) × HaveNoEnd ts

abbrev IsNoEnd : Option Element → Type 0
IsNoEnd None = Unit {0}
IsNoEnd (Some e) = is_end (kind_of_element e) ≡ false

name-no-end : (o : Option Word) (text : List ℕ) → IsNoEnd (Some (named o text))
name-no-end None text = refl
name-no-end (Some w) text = refl

piece-no-end : (p : Piece) → IsNoEnd (element_for p)
piece-no-end (space text) = tt
piece-no-end (comment line) = tt
piece-no-end (name text) = name-no-end (word_of text) text
piece-no-end (decimal digits x) = refl
piece-no-end (based base digits x) = refl
piece-no-end (character b) = refl
piece-no-end (string bytes) = refl
piece-no-end (bits b bytes) = refl
piece-no-end (mark s) = refl

placed-no-end : (o : Option Element) (at n : ℕ) (ls : List Lexeme) → IsNoEnd o → HaveNoEnd (terminals_of_elements ls) → HaveNoEnd (terminals_of_elements (placed o at n ++ ls))
placed-no-end None at n ls h k = k
placed-no-end (Some e) at n ls h k = (h, k)

pieces-no-end : (at : ℕ) (ps : List Piece) → HaveNoEnd (terminals_of_elements (elements_from at ps))
pieces-no-end at [] = tt
pieces-no-end at (p ∷ ps) =
    placed-no-end (element_for p) at (length (text_of p)) (elements_from (at + length (text_of p)) ps) (piece-no-end p) (pieces-no-end (at + length (text_of p)) ps)

-- what ends in a token has that token last
pub record EndsIn (w : Terminal) (u : List Terminal) : Type 0 where
  pub front : List Terminal
  pub last : Terminal
  pub is : same w last ≡ true
  pub whole : u ≡ front ++ (last ∷ [])

behind-token : (w t : Terminal) (u : List Terminal) → EndsIn w u → EndsIn w (t ∷ u)
behind-token w t u e = record { front = t ∷ e.front; last = e.last; is = e.is; whole = ap (λ (x : List Terminal). t ∷ x) e.whole }

-- the last of these steps passes over this token
abbrev IsLast : Terminal → List Step → Type 0
IsLast w [] = ⊥
IsLast w (s ∷ K) = ((K ≡ []) × (s ≡ step.Skip w)) ⊎ IsLast w K

last-behind : (w : Terminal) (ss K : List Step) → IsLast w K → IsLast w (ss ++ K)
last-behind w [] K h = h
last-behind w (s ∷ ss) K h = inr (last-behind w ss K h)

abbrev IsSkip : Step → Type 0
IsSkip (step.Skip w) = Unit {0}
IsSkip (step.Keep w) = ⊥
IsSkip (step.Call p) = ⊥
IsSkip (step.Many p) = ⊥
IsSkip (step.Make f) = ⊥

abbrev skipped : Terminal → Step → Terminal
skipped w (step.Skip x) = x
skipped w (step.Keep x) = w
skipped w (step.Call p) = w
skipped w (step.Many p) = w
skipped w (step.Make f) = w

abbrev IsNone : List Step → Type 0
IsNone [] = Unit {0}
IsNone (s ∷ K) = ⊥

-- no steps derive nothing
derives-nothing : (e : Edition) (K : List Step) (u : List Terminal) (es : List Event) → Derives e K u es → IsNone K → u ≡ []
derives-nothing e _ _ _ done n = refl
derives-nothing e _ _ _ (make f K u es d) n = absurd n
derives-nothing e _ _ _ (skip w t K u es s d) n = absurd n
derives-nothing e _ _ _ (keep w t K u es s d) n = absurd n
derives-nothing e _ _ _ (call p c t K u es a h d) n = absurd n
derives-nothing e _ _ _ (pass p ss K u es x d) n = absurd n
derives-nothing e _ _ _ (stop p K u es d) n = absurd n
derives-nothing e _ _ _ (more p c t K u es a h k d) n = absurd n

not-last : (w : Terminal) (s : Step) (K : List Step) → (IsSkip s → ⊥) → IsLast w (s ∷ K) → IsLast w K
not-last w s K n h = elim h [
  | inl i ↦ absurd (n (subst IsSkip (sym i.1) tt))
  | inr i ↦ i
]

left-ends : (w : Terminal) (k : Take) (t : Terminal) (u : List Terminal) → EndsIn w (left k t u) → EndsIn w (t ∷ u)
left-ends w take.Keep t u h = behind-token w t u h
left-ends w take.Skip t u h = behind-token w t u h
left-ends w take.Look t u h = h

ends : (e : Edition) (R : List Step) (u : List Terminal) (es : List Event) → Derives e R u es → (w : Terminal) → IsLast w R → EndsIn w u
ends e _ _ _ done w h = absurd h
ends e _ _ _ (make f K u es d) w h = ends e K u es d w (not-last w (step.Make f) K (λ n. n) h)
ends e _ _ _ (skip x t K u es s d) w h = elim h [
  | inl i ↦ record {
    front = [];
    last = t;
    is = ap (λ (y : Terminal). same y t) (sym (ap (skipped w) i.1)) ∙ s;
    whole = ap (λ (v : List Terminal). t ∷ v) (derives-nothing e K u es d (subst IsNone (sym i.0) tt));
  }
  | inr i ↦ behind-token w t u (ends e K u es d w i)
]
ends e _ _ _ (keep x t K u es s d) w h = behind-token w t u (ends e K u es d w (not-last w (step.Keep x) K (λ n. n) h))
ends e _ _ _ (call p c t K u es a y d) w h =
    left-ends w c.take t u (ends e (c.steps ++ K) (left c.take t u) es d w (last-behind w c.steps K (not-last w (step.Call p) K (λ n. n) h)))
ends e _ _ _ (pass p ss K u es x d) w h = ends e (ss ++ K) u es d w (last-behind w ss K (not-last w (step.Call p) K (λ n. n) h))
ends e _ _ _ (stop p K u es d) w h = ends e K u es d w (not-last w (step.Many p) K (λ n. n) h)
ends e _ _ _ (more p c t K u es a y k d) w h =
    left-ends w c.take t u (ends e (c.steps ++ (step.Make form.Add ∷ (step.Many p ∷ K))) (left c.take t u) es d w (last-behind w c.steps (step.Make form.Add ∷ (step.Many p ∷ K)) (inr h)))

end-is : (t : Terminal) → same terminal.End t ≡ true → is_end t ≡ true
end-is terminal.End h = refl
end-is terminal.Id h = absurd (true≢false (sym h))
end-is terminal.Int h = absurd (true≢false (sym h))
end-is terminal.Char h = absurd (true≢false (sym h))
end-is terminal.Str h = absurd (true≢false (sym h))
end-is terminal.BitStr h = absurd (true≢false (sym h))
end-is (terminal.Key w) h = absurd (true≢false (sym h))
end-is (terminal.Mark s) h = absurd (true≢false (sym h))

abbrev HasSome : List Terminal → Type 0
HasSome [] = ⊥
HasSome (t ∷ u) = Unit {0}

abbrev head-of : Terminal → List Terminal → Terminal
head-of t [] = t
head-of t (x ∷ u) = x

abbrev tail-of : List Terminal → List Terminal
tail-of [] = []
tail-of (x ∷ u) = u

nonempty : (v : List Terminal) (t : Terminal) (r : List Terminal) → v ++ (t ∷ r) ≡ [] → ⊥
nonempty [] t r h = subst HasSome h tt
nonempty (x ∷ v) t r h = subst HasSome h tt

-- nothing stands behind an end, where the only end is the last token
nothing-behind : (v front : List Terminal) (t z : Terminal) (r : List Terminal) → is_end t ≡ true → HaveNoEnd front → v ++ (t ∷ r) ≡ front ++ (z ∷ []) → r ≡ []
nothing-behind [] [] t z r i n h = ap tail-of h
nothing-behind [] (x ∷ front) t z r i n h = absurd (true≢false (sym i ∙ ap is_end (ap (head-of t) h) ∙ n.0))
nothing-behind (y ∷ v) [] t z r i n h = absurd (nonempty v t r (ap tail-of h))
nothing-behind (y ∷ v) (x ∷ front) t z r i n h = nothing-behind v front t z r i n.1 (ap tail-of h)

-- What is derived as a file from a file's elements on is all of them.
pub all_derived : (bytes : List ℕ) (ls : List Lexeme) → IsCutOf bytes ls → (e : Edition) (q r : List Terminal) (es : List Event) → Derives e (steps_for file) q es
    → terminals_of_elements ls ≡ q ++ r → r ≡ []
all_derived bytes ls cut e q r es d h =
    let x : EndsIn terminal.End q = ends e (steps_for file) q es d terminal.End (inr (inr (inl (refl, refl)))) in
    let all : terminals_of_elements ls ≡ terminals_of_elements (elements_from 0 cut.pieces) ++ (terminal.End ∷ []) =
    ap terminals_of_elements (sym cut.elements) ∙ map-append (λ (l : Lexeme). kind_of_element l.element) (elements_from 0 cut.pieces) (record { element = finish; at = length bytes; len = 0 } ∷ []) in
    nothing-behind x.front (terminals_of_elements (elements_from 0 cut.pieces)) x.last terminal.End r (end-is x.last x.is) (pieces-no-end 0 cut.pieces)
    (sym (append_assoc x.front (x.last ∷ []) r) ∙ ap (λ (y : List Terminal). y ++ r) (sym x.whole) ∙ sym h ∙ all)
