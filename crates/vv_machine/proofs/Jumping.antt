-- The number in the list of all of them is that of the alternative that is chosen.
use Rattle.std.proofs.Common.{◌≡◌, ℕ, zero, suc, ◌+◌, ◌*◌, ◌<◌, ◌≤◌, Bool, true, false, if◌then◌else◌, nat_lt, List, [], ◌∷◌, ◌++◌, map, length, take, get_or, flat_map, Option, Some, option_map, refl, sym, ap, ◌∙◌, arith, length-append}
use Rattle.std.proofs.lemmas.List.{get_or-map, length-map}
use Rattle.std.proofs.lemmas.List.Concat.{get_or-flat_map}
use Rattle.std.proofs.lemmas.Option.{slice_get-map, slice_get-get_or}
use borrow.Author.Tests.{ltb-true}
use denote.Enum.Declared.{tag_of}
use Rattle.vv_grammar.specs.contracts.place.Place as p
use Rattle.vv_vlex.specs.declared.word.Word.TheVariants as word
use Rattle.vv_vlex.specs.declared.sign.Sign.TheVariants as sign
use Rattle.vv_grammar.specs.declared.all.TheConstants as all
use Rattle.vv_grammar.specs.declared.edition.Edition.{Edition}
use Rattle.vv_grammar.specs.declared.edition.Edition.TheVariants as edition
use Rattle.vv_grammar.specs.declared.place.Place.{Place}
use Rattle.vv_grammar.specs.declared.place.Place.TheVariants as place
use Rattle.vv_grammar.specs.declared.terminal.Terminal.{Terminal}
use Rattle.vv_grammar.specs.declared.terminal.Terminal.TheVariants as the
use Rattle.vv_machine.specs.Jumps.{number_of, later, turn_of, turn_number, row, numbers}
use Rattle.vv_machine.specs.Machine.{turn, choose}
use Rattle.vv_grammar.specs.Table.{Choice, alternatives}
use Rattle.vv_grammar.specs.Terminals.{contains}

later-turn : (c : Choice) (more : List Choice) (n : ℕ) → turn_of (c ∷ more) (later n) ≡ turn_of more n
later-turn c more zero = refl
later-turn c more (suc n) = refl

pub numbered : (cs : List Choice) (t : Terminal) → turn_of cs (turn_number cs t) ≡ choose cs t
numbered [] t = refl
numbered (c ∷ more) t = go (contains c.on t) (numbered more t)
  where
    go : (b : Bool) → turn_of more (turn_number more t) ≡ choose more t
        → turn_of (c ∷ more) (if b then 1 else later (turn_number more t)) ≡ (if b then Some (turn c.take c.steps) else choose more t)
    go true h = refl
    go false h = later-turn c more (turn_number more t) ∙ h

later-below : (n k : ℕ) → n ≤ k → later n ≤ suc k
later-below zero k h = omega arith
later-below (suc n) k h = omega arith

pub number_below : (cs : List Choice) (t : Terminal) → turn_number cs t ≤ length cs
number_below [] t = omega arith
number_below (c ∷ more) t = go (contains c.on t) (number_below more t)
  where
    go : (b : Bool) → turn_number more t ≤ length more → (if b then 1 else later (turn_number more t)) ≤ suc (length more)
    go true h = omega arith
    go false h = later-below (turn_number more t) (length more) h

few-below : (e : Edition) (x : Place) → nat_lt (length (alternatives e x)) 256 ≡ true
few-below edition.Vhdl93 place.SensitivityNames = refl
few-below edition.Vhdl08 place.SensitivityNames = refl
few-below e place.Expression = refl
few-below e _ = refl

pub few : (e : Edition) (x : Place) → length (alternatives e x) < 256
few e x = ltb-true (length (alternatives e x)) 256 (few-below e x)

place_at : (x : Place) → get_or all.PLACES (tag_of p.the_type x) place.Expression ≡ x
place_at place.Expression = refl
place_at _ = refl

place_below : (x : Place) → nat_lt (tag_of p.the_type x) 142 ≡ true
place_below place.Expression = refl
place_below _ = refl

pub place_in : (x : Place) → tag_of p.the_type x < 142
place_in x = ltb-true (tag_of p.the_type x) 142 (place_below x)

terminal_at : (t : Terminal) → get_or all.TERMINALS (number_of t) the.Id ≡ t
terminal_at (the.Key word.Abs) = refl
terminal_at (the.Key _) = refl
terminal_at (the.Mark sign.Semicolon) = refl
terminal_at (the.Mark _) = refl
terminal_at _ = refl

terminal_below : (t : Terminal) → nat_lt (number_of t) 126 ≡ true
terminal_below (the.Key word.Abs) = refl
terminal_below (the.Key _) = refl
terminal_below (the.Mark sign.Semicolon) = refl
terminal_below (the.Mark _) = refl
terminal_below _ = refl

pub terminal_in : (t : Terminal) → number_of t < 126
terminal_in t = ltb-true (number_of t) 126 (terminal_below t)

row-length : (e : Edition) (x : Place) → length (row e all.TERMINALS x) ≡ 126
row-length e x = length-map all.TERMINALS (turn_number (alternatives e x))

rows-length : (e : Edition) (xs : List Place) → length (flat_map (row e all.TERMINALS) xs) ≡ length xs * 126
rows-length e [] = refl
rows-length e (x ∷ xs) =
    let h : length (flat_map (row e all.TERMINALS) xs) ≡ length xs * 126 = rows-length e xs in
    let r : length (row e all.TERMINALS x) ≡ 126 = row-length e x in
    let s : length (row e all.TERMINALS x ++ flat_map (row e all.TERMINALS) xs) ≡ length (row e all.TERMINALS x) + length (flat_map (row e all.TERMINALS) xs) = length-append (row e all.TERMINALS x) (flat_map (row e all.TERMINALS) xs) in
    omega (arith, h, r, s)

pub numbers-length : (e : Edition) → length (numbers e) ≡ 17892
unfolding numbers
numbers-length e = rows-length e all.PLACES

take-length : (n : ℕ) (xs : List Place) → n ≤ length xs → length (take n xs) ≡ n
take-length zero xs h = refl
take-length (suc n) [] h = absurd (omega arith)
take-length (suc n) (x ∷ xs) h = ap suc (take-length n xs (omega arith))

-- The number of a place and a terminal stands where the two say.
pub number_at : (e : Edition) (x : Place) (t : Terminal) → get_or (numbers e) (tag_of p.the_type x * 126 + number_of t) 0 ≡ turn_number (alternatives e x) t
unfolding numbers
number_at e x t =
    let i : ℕ = tag_of p.the_type x in
    let h : tag_of p.the_type x < 142 = place_in x in
    let k : number_of t < 126 = terminal_in t in
    let long : length (flat_map (row e all.TERMINALS) (take (tag_of p.the_type x) all.PLACES)) ≡ tag_of p.the_type x * 126 =
    rows-length e (take (tag_of p.the_type x) all.PLACES) ∙ ap (λ (n : ℕ). n * 126) (take-length (tag_of p.the_type x) all.PLACES (omega (arith, h))) in
    ap (λ (n : ℕ). get_or (flat_map (row e all.TERMINALS) all.PLACES) (n + number_of t) 0) (sym long)
    ∙ (get_or-flat_map (row e all.TERMINALS) all.PLACES (tag_of p.the_type x) (number_of t) place.Expression 0 h
    (let r : length (row e all.TERMINALS (get_or all.PLACES (tag_of p.the_type x) place.Expression)) ≡ 126 = row-length e (get_or all.PLACES (tag_of p.the_type x) place.Expression) in omega (arith, r, k))
    ∙ (ap (λ (y : Place). get_or (row e all.TERMINALS y) (number_of t) 0) (place_at x)
    ∙ (get_or-map (turn_number (alternatives e x)) all.TERMINALS (number_of t) the.Id 0 k
    ∙ ap (turn_number (alternatives e x)) (terminal_at t))))

-- what stands there in a list that is this one
pub found : (e : Edition) (x : Place) (t : Terminal) (cells : List ℕ) (n r : ℕ) → cells ≡ numbers e → n ≡ number_of t
    → r ≡ get_or cells (tag_of p.the_type x * 126 + n) 0 → r ≡ turn_number (alternatives e x) t
found e x t cells n r h k i =
    i ∙ (ap (λ (xs : List ℕ). get_or xs (tag_of p.the_type x * 126 + n) 0) h
    ∙ (ap (λ (m : ℕ). get_or (numbers e) (tag_of p.the_type x * 126 + m) 0) k ∙ number_at e x t))

pub few_rows : {A : Type 0} (e : Edition) (x : Place) (v : A → Choice) (rows : List A) → map v rows ≡ alternatives e x → length rows ≤ 255
few_rows e x v rows h =
    let l : length rows ≡ length (alternatives e x) = sym (length-map rows v) ∙ ap length h in
    let f : length (alternatives e x) < 256 = few e x in
    omega (arith, l, f)

pub all_numbers : (e : Edition) (old cells : List ℕ) → cells ≡ old ++ flat_map (row e all.TERMINALS) all.PLACES → old ≡ [] → cells ≡ numbers e
unfolding numbers
all_numbers e old cells h k = h ∙ ap (λ (xs : List ℕ). xs ++ flat_map (row e all.TERMINALS) all.PLACES) k

-- the alternative that has a number
pub turn_there : {A : Type 0} (v : A → Choice) (rows : List A) (m n : ℕ) (d : A) → n ≡ suc m → m < length rows
    → Some (turn (v (get_or rows m d)).take (v (get_or rows m d)).steps) ≡ turn_of (map v rows) n
turn_there v rows m n d h k =
    sym (ap (turn_of (map v rows)) h
    ∙ ap (λ (o : Option Choice). option_map (λ (c : Choice). turn c.take c.steps) o) (slice_get-map v rows m ∙ ap (option_map v) (slice_get-get_or rows m d k)))

pub rows_below : {A : Type 0} (v : A → Choice) (rows : List A) (cs : List Choice) (n : ℕ) → map v rows ≡ cs → n ≤ length cs → n ≤ length rows
rows_below v rows cs n h k = let l : length rows ≡ length cs = sym (length-map rows v) ∙ ap length h in omega (arith, l, k)
