use Rattle.std.proofs.Common.{◌≡◌, ℕ, ◌+◌, ◌-◌, ◌==◌, List, ◌∷◌, length, take, drop, Ok, false, refl, ap, ◌∙◌, add-one}
use Rattle.std.proofs.lemmas.List.{take_rest}
use Rattle.vv_vlex.specs.Bytes.{tail, has, begins}
use Rattle.vv_vlex.specs.declared.class.Class.TheVariants.{Alphanumeric}
use Rattle.vv_vlex.specs.declared.piece.Piece.{Piece}
use Rattle.vv_vlex.specs.Elements.{Element}
use Rattle.vv_vlex.specs.Words.{word_of, named}
use Rattle.vv_vlex.specs.Pieces.{Found, found, piece_of, word_at}
use Rattle.vv_vlex.proofs.piece.word.Goals as goal

word_is : (b n : ℕ) (more : List ℕ) → n ≡ tail (has Alphanumeric) more → false ≡ begins (λ c. c == 95) (drop n more)
    → found (named (word_of (b ∷ take n more)) (b ∷ take n more)) (n + 1) ≡ word_at b more
unfolding word_at
word_is b n more e h = rw (← e, ← h, add-one) refl

pub returns-clause-value : goal.returns-clause-value
returns-clause-value c =
    let n = c.tail-size.result in
    let bytes = c.args.bytes.now in
    let text : take (n + 1) bytes ≡ c.args.first ∷ take n c.args.more.now = rw (c.requires, add-one) refl in
    let behind : take (length bytes - (n + 1)) (drop (n + 1) bytes) ≡ drop n c.args.more.now = take_rest bytes (n + 1) ∙ rw (c.requires, add-one) refl in
    let no_underscore : false ≡ begins (λ k. k == 95) (drop n c.args.more.now) = c.if-begins_with.ensures ∙ ap (begins (λ k. k == 95)) behind in
    ap (λ (p : Piece). let f : Found = Ok (piece_of p) in f) c.of_element.ensures
    ∙ ap (λ (e : Element). found e (n + 1)) (c.named.ensures ∙ ap (λ (t : List ℕ). named (word_of t) t) text)
    ∙ word_is c.args.first n c.args.more.now c.tail-size.ensures.value no_underscore
