-- Each element adds at most one name, and the end of the file adds none.
use Rattle.std.proofs.Common.{◌≡◌, ℕ, zero, suc, ◌+◌, ◌<◌, ◌≤◌, Bool, true, false, if◌then◌else◌, List, [], ◌∷◌, ◌++◌, length, map, drop, get_or, Option, Some, None, Result, Ok, Err, sym, ap, ◌∙◌, subst, arith}
use Rattle.std.specs.List.{list_any}
use Rattle.std.specs.Str.{bytes_eq}
use Rattle.std.proofs.Math.ListN.{drop_of_length-le}
use Rattle.std.proofs.lemmas.List.{length-append, append-nil}
use Rattle.vv_base.specs.Names.{with_text}
use Rattle.vv_base.specs.declared.fault.Fault.{Fault}
use Rattle.vv_base.specs.declared.fault.Fault.TheVariants.{Refused, Memory}
use Rattle.vv_vlex.specs.declared.element.Lexeme as code
use Rattle.vv_vlex.specs.declared.token.Token.{Token}
use Rattle.vv_vlex.specs.Elements.{Lexeme, lexeme_of, element_of, finish}
use Rattle.vv_vlex.specs.Lexical.{Broken, IsEnded, ForRefused, elements_of}
use Rattle.vv_vlex.specs.Tokens.{Lexed, tokens_of, name_text, seen, names_after, names_behind, with_names, lexed}

with_text-more : (names : List (List ℕ)) (text : List ℕ) → length names ≤ length (with_text names text)
with_text-more names text = go (list_any (bytes_eq text) names)
  where
    go : (t : Bool) → length names ≤ length (if t then names else names ++ text ∷ [])
    go true = omega arith
    go false = omega (arith, length-append names (text ∷ []))

with_text-few : (names : List (List ℕ)) (text : List ℕ) → length (with_text names text) ≤ length names + 1
with_text-few names text = go (list_any (bytes_eq text) names)
  where
    go : (t : Bool) → length (if t then names else names ++ text ∷ []) ≤ length names + 1
    go true = omega arith
    go false = omega (arith, length-append names (text ∷ []))

seen-more : (names : List (List ℕ)) (t : Option (List ℕ)) → length names ≤ length (seen names t)
seen-more names None = omega arith
seen-more names (Some text) = with_text-more names text

seen-few : (names : List (List ℕ)) (t : Option (List ℕ)) → length (seen names t) ≤ length names + 1
seen-few names None = omega arith
seen-few names (Some text) = with_text-few names text

pub behind-more : (names : List (List ℕ)) (ls : List Lexeme) → length names ≤ length (names_behind names ls)
behind-more names [] = omega arith
behind-more names (l ∷ ls) =
    let here = seen-more names (name_text l.element) in
    let behind = behind-more (names_after names l.element) ls in
    omega arith

behind-few : (names : List (List ℕ)) (before : List Lexeme) (at : ℕ) → length (names_behind names (before ++ (record { element = finish; at = at; len = 0 } ∷ []))) ≤ length names + length before
unfolding name_text
behind-few names [] at = omega arith
behind-few names (l ∷ before) at =
    let here = seen-few names (name_text l.element) in
    let behind = behind-few (names_after names l.element) before at in
    omega arith

pub ended-few : (names : List (List ℕ)) (total : ℕ) (ls : List Lexeme) → IsEnded total ls → length (names_behind names ls) ≤ length names + total
ended-few names total ls e =
    let few = e.few in
    let all : length (names_behind names (e.before ++ (record { element = finish; at = total; len = 0 } ∷ []))) ≤ length names + length e.before = behind-few names e.before total in
    let here : length (names_behind names ls) ≤ length names + length e.before = rw e.all all in
    omega arith

-- the names after an element are no more than those in the end
pub now-few : (names new final : List (List ℕ)) (items : List code.Lexeme) (i : ℕ) (d : code.Lexeme) → i < length items
    → new ≡ names_after names (element_of (get_or items i d).element) → names_behind names (map lexeme_of (drop i items)) ≡ final → length new ≤ length final
now-few names new final [] i d h e f = absurd (omega arith)
now-few names new final (x ∷ items) zero d h e f =
    let more = behind-more (names_after names (element_of x.element)) (map lexeme_of items) in
    rw (e, ← f) more
now-few names new final (x ∷ items) (suc i) d h e f = now-few names new final items i d (omega arith) e f

-- a refusal of the elements is one of the tokens
pub refused_too : (fault : Fault) (file : ℕ) (bytes : List ℕ) (names : List (List ℕ)) → ForRefused fault (λ r. elements_of bytes ≡ Err (record { rule = r.rule; at = r.span.at }))
    → ForRefused fault (λ r. lexed file bytes names ≡ Err (record { rule = r.rule; at = r.span.at }))
unfolding lexed
refused_too (Refused r) file bytes names h = ap (with_names file names) h
refused_too Memory file bytes names h = tt

-- all elements have been seen
pub finished : (file : ℕ) (bytes : List ℕ) (first names : List (List ℕ)) (tokens : List Token) (all items : List code.Lexeme) (i : ℕ)
    → elements_of bytes ≡ Ok (map lexeme_of all) → items ≡ all → length items ≤ i
    → tokens ++ tokens_of file names (map lexeme_of (drop i items)) ≡ tokens_of file first (map lexeme_of items)
    → names_behind names (map lexeme_of (drop i items)) ≡ names_behind first (map lexeme_of items)
    → lexed file bytes first ≡ Ok (record { tokens = tokens; names = names })
unfolding lexed
finished file bytes first names tokens all items i found same over ts ns =
    let none : drop i items ≡ [] = drop_of_length-le items over in
    let last_tokens : tokens ++ [] ≡ tokens_of file first (map lexeme_of items) = subst (λ (k : List code.Lexeme). tokens ++ tokens_of file names (map lexeme_of k) ≡ tokens_of file first (map lexeme_of items)) none ts in
    let last_names : names ≡ names_behind first (map lexeme_of items) = subst (λ (k : List code.Lexeme). names_behind names (map lexeme_of k) ≡ names_behind first (map lexeme_of items)) none ns in
    let here : elements_of bytes ≡ Ok (map lexeme_of items) = rw same found in
    let each : tokens ≡ tokens_of file first (map lexeme_of items) = sym (append-nil tokens) ∙ last_tokens in
    ap (with_names file first) here
    ∙ ap (λ (ts : List Token). let r : Result Lexed Broken = Ok (record { tokens = ts; names = names_behind first (map lexeme_of items) }) in r) (sym each)
    ∙ ap (λ (ns : List (List ℕ)). let r : Result Lexed Broken = Ok (record { tokens = tokens; names = ns }) in r) (sym last_names)

-- the names in the end
pub all-few : (first names : List (List ℕ)) (all items : List code.Lexeme) (i total : ℕ) → items ≡ all → length items ≤ i → IsEnded total (map lexeme_of all)
    → names_behind names (map lexeme_of (drop i items)) ≡ names_behind first (map lexeme_of items) → length names ≤ length first + total
all-few first names all items i total same over ended ns =
    let none : drop i items ≡ [] = drop_of_length-le items over in
    let last_names : names ≡ names_behind first (map lexeme_of items) = subst (λ (k : List code.Lexeme). names_behind names (map lexeme_of k) ≡ names_behind first (map lexeme_of items)) none ns in
    let few : length (names_behind first (map lexeme_of all)) ≤ length first + total = ended-few first total (map lexeme_of all) ended in
    rw (last_names, same) few

-- the names after an element
pub one-few : (first names new : List (List ℕ)) (all items : List code.Lexeme) (i total : ℕ) (d : code.Lexeme) → items ≡ all → i < length items → IsEnded total (map lexeme_of all)
    → new ≡ names_after names (element_of (get_or items i d).element)
    → names_behind names (map lexeme_of (drop i items)) ≡ names_behind first (map lexeme_of items) → length new ≤ length first + total
one-few first names new all items i total d same h ended e ns =
    let now : length new ≤ length (names_behind first (map lexeme_of items)) = now-few names new (names_behind first (map lexeme_of items)) items i d h e ns in
    let few : length (names_behind first (map lexeme_of all)) ≤ length first + total = ended-few first total (map lexeme_of all) ended in
    let here : length (names_behind first (map lexeme_of items)) ≤ length first + total = rw same few in
    omega arith
