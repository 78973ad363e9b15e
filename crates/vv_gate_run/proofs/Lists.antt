-- Elements of lists that are mapped twice, and lists that grow in a loop.
use Rattle.std.proofs.Common.{◌≡◌, ℕ, ◌<◌, ◌≤◌, List, [], ◌∷◌, ◌++◌, map, length, Some, None, Option, slice_get, get_or, refl, ap, sym, ◌∙◌, append_assoc, false}
use Rattle.std.specs.Prelude.{option_map}
use Rattle.std.proofs.Math.ListN.{replicate}
use Rattle.vv_bits.specs.declared.nine.S9.{S9}
use Rattle.vv_cycle.specs.Rows.{no_events}
use Rattle.std.proofs.lemmas.List.{map-append, append-nil}
use Rattle.std.proofs.lemmas.Option.{slice_get-map, slice_get_read, slice_get_past}

pub get_twice : {X Y Z : Type 0} (g : Y → Z) (f : X → Y) (xs : List X) (i : ℕ) → slice_get (map g (map f xs)) i ≡ option_map g (option_map f (slice_get xs i))
get_twice g f xs i = slice_get-map g (map f xs) i ∙ ap (option_map g) (slice_get-map f xs i)

-- element i, mapped twice
pub some_twice : {X Y Z : Type 0} (g : Y → Z) (f : X → Y) (xs : List X) (i : ℕ) (x : X) → i < length xs → x ≡ get_or xs i x → slice_get (map g (map f xs)) i ≡ Some (g (f x))
some_twice {X} {Y} {Z} g f xs i x l e =
    get_twice g f xs i ∙ ap (λ (o : Option X). option_map g (option_map f o)) (slice_get_read xs (length xs) i x refl l e)

pub none_twice : {X Y Z : Type 0} (g : Y → Z) (f : X → Y) (xs : List X) (i : ℕ) → length xs ≤ i → slice_get (map g (map f xs)) i ≡ None
none_twice {X} {Y} {Z} g f xs i l =
    get_twice g f xs i ∙ ap (λ (o : Option X). option_map g (option_map f o)) (slice_get_past xs i l)

-- what a list and the rest give together stays when the rest's first comes to the list
pub pushed : {X Y : Type 0} (f : X → Y) (old new : List X) (x : X) (rest more all : List Y) → new ≡ old ++ x ∷ [] → rest ≡ f x ∷ more → map f old ++ rest ≡ all → map f new ++ more ≡ all
pushed {X} {Y} f old new x rest more all n r h =
    ap (λ l. map f l ++ more) n ∙ (ap (λ l. l ++ more) (map-append f old (x ∷ [])) ∙ (append_assoc (map f old) (f x ∷ []) more ∙ (ap (λ l. map f old ++ l) (sym r) ∙ h)))

-- nothing is left
pub done : {Y : Type 0} (old rest all : List Y) → rest ≡ [] → old ++ rest ≡ all → old ≡ all
done old rest all e h = sym (append-nil old) ∙ (ap (λ l. old ++ l) (sym e) ∙ h)

pub appended : {Y : Type 0} (old new : List Y) (x : Y) (rest more all : List Y) → new ≡ old ++ x ∷ [] → rest ≡ x ∷ more → old ++ rest ≡ all → new ++ more ≡ all
appended {Y} old new x rest more all n r h =
    ap (λ l. l ++ more) n ∙ (append_assoc old (x ∷ []) more ∙ (ap (λ l. old ++ l) (sym r) ∙ h))

-- as often as there are elements
pub constant_map : {X Y Z : Type 0} (f : X → Y) (u : Z) (xs : List X) → replicate (length xs) u ≡ map (λ y. u) (map f xs)
constant_map f u [] = refl
constant_map f u (x ∷ xs) = ap (λ l. u ∷ l) (constant_map f u xs)

pub no_events_are : (vs : List S9) → replicate (length vs) false ≡ no_events vs
no_events_are [] = refl
no_events_are (v ∷ vs) = ap (λ l. false ∷ l) (no_events_are vs)
