-- What the loads so far gave, and what one more gives.
use Rattle.std.proofs.Common.{◌≡◌, ℕ, ◌+◌, ◌<◌, ◌≤◌, List, [], ◌∷◌, ◌++◌, length, take, get_or, map, All, Some, None, refl, sym, subst, arith}
use Rattle.std.proofs.Math.ListN.{get_or-map}
use Rattle.std.proofs.lemmas.List.{length-map, get_or-map as get_or-map_below}
use Rattle.std.proofs.lemmas.List.Elements.{All-nil, All-cons, all_zip_more, length_all_zip}
use denote.Ref.{Bor}
use Rattle.vv_base.specs.Outside.{Told, Gives, Rose}
use Rattle.vv_trans.specs.Translation.{bytes_of}
use Rattle.vv_top.specs.Loads.{GiveAll, LoadFailed}
use Rattle.vv_top.specs.Run.{AreTold, OfFiles}
use Rattle.vv_top.specs.Stops.{IsPlaceOf}
use Rattle.vv_top.specs.Words.{Wanted}

-- what an element is beyond the end
abbrev pub nothing : Bor (List ℕ)
nothing = record { ref_ptr = (0, 0); now = [] }

pub name_at : (names : List (Bor (List ℕ))) (number : ℕ) → get_or (bytes_of names) number [] ≡ (get_or names number nothing).now
name_at names number = get_or-map (λ name. name.now) names number nothing

pub one_more : (held : List ℕ → Told) (names : List (Bor (List ℕ))) (number : ℕ) (given : List (List ℕ)) (file : List ℕ) → number < length names
    → GiveAll held (take number (bytes_of names)) given → Gives (held (get_or names number nothing).now) file → GiveAll held (take (number + 1) (bytes_of names)) (given ++ file ∷ [])
one_more held names number given file within so_far here =
    let name : List ℕ = (get_or names number nothing).now in
    let in_bytes : number < length (bytes_of names) = simp length-map within in
    let same : name ≡ get_or (bytes_of names) number name = sym (get_or-map_below (λ name. name.now) names number nothing name within) in
    all_zip_more (λ name file. Gives (held name) file) (bytes_of names) given number name file in_bytes same so_far here

-- a name whose bytes were given is not told to be absent
not_absent : (told : Told) (file : List ℕ) → Gives told file → ¬ (told ≡ Some None)
not_absent None file h e = cc
not_absent (Some None) file h e = h
not_absent (Some (Some stored)) file h e = cc

pub none_absent : (held : List ℕ → Told) (names files : List (List ℕ)) → GiveAll held names files → All (λ name. ¬ (held name ≡ Some None)) names
none_absent held [] [] h = All-nil (λ name. ¬ (held name ≡ Some None))
none_absent held [] (file ∷ files) h = absurd h
none_absent held (name ∷ names) [] h = absurd h
none_absent held (name ∷ names) (file ∷ files) h =
    All-cons (λ name. ¬ (held name ≡ Some None)) name names (not_absent (held name) file h.0) (none_absent held names files h.1)

given_is : (told : Told) (file here : List ℕ) → Gives told here → told ≡ Some (Some file) → file ≡ here
given_is None file here h e = let z : None ≡ Some (Some file) = e in cc
given_is (Some None) file here h e = absurd h
given_is (Some (Some stored)) file here h e = let z : Some (Some stored) ≡ Some (Some file) = e in cc

-- the bytes that were given are those that are told
pub told_given : (held : List ℕ → Told) (names given files : List (List ℕ)) → GiveAll held names given → AreTold held names files → files ≡ given
told_given held [] [] [] h e = refl
told_given held [] [] (file ∷ files) h e = let z : [] ≡ Some (Some file) ∷ map (λ file. Some (Some file)) files = e in cc
told_given held [] (g ∷ given) files h e = absurd h
told_given held (name ∷ names) [] files h e = absurd h
told_given held (name ∷ names) (g ∷ given) [] h e = let z : held name ∷ map held names ≡ [] = e in cc
told_given held (name ∷ names) (g ∷ given) (file ∷ files) h e =
    let z : held name ∷ map held names ≡ Some (Some file) ∷ map (λ file. Some (Some file)) files = e in
    let here : held name ≡ Some (Some file) = cc in
    let rest : map held names ≡ map (λ file. Some (Some file)) files = cc in
    let first : file ≡ g = given_is (held name) file g h.0 here in
    let later : files ≡ given = told_given held names given files h.1 rest in
    cc

-- a count that rose since a later state rose since an earlier one
rose_before : (before later now : ℕ) → before ≤ later → Rose later now → Rose before now
rose_before before later now h r = omega (arith, h, r)

-- the load of the name at this number failed
pub load_failed : (held : List ℕ → Told) (loads later loaded : List ℕ → ℕ) (names : List (Bor (List ℕ))) (count number : ℕ) (given : List (List ℕ)) → count ≡ number → number < length names
    → GiveAll held (take number (bytes_of names)) given → ((name : List ℕ) → loads name ≤ later name) → Rose (later (get_or names number nothing).now) (loaded (get_or names number nothing).now)
    → LoadFailed (bytes_of names) count held loads loaded
load_failed held loads later loaded names count number given same within h none_fell rose = rw same
    (record {
      within = simp length-map within;
      rose = rw (name_at names number) (rose_before (loads (get_or names number nothing).now) (later (get_or names number nothing).now) (loaded (get_or names number nothing).now) (none_fell (get_or names number nothing).now) rose);
      before = none_absent held (take number (bytes_of names)) given h;
    })

-- what is true of the bytes that were given is true of those that are told
pub of_files : (w : Wanted) (held : List ℕ → Told) (bytes : List (List ℕ)) (P : List (List ℕ) → Type 0) → GiveAll held w.files bytes → P bytes → OfFiles w held P
of_files w held bytes P h p = λ files told. subst P (sym (told_given held w.files bytes files h told)) p

-- a place in a loaded file is one in a file of the command
pub place_of : (held : List ℕ → Told) (names : List (Bor (List ℕ))) (bytes : List (List ℕ)) (number at : ℕ) → GiveAll held (bytes_of names) bytes → 0 < length names
    → (0 < length bytes → number < length bytes) → at ≤ length (get_or bytes number []) → IsPlaceOf (length names) bytes number at
place_of held names bytes number at h some loaded inside =
    let as_many : length (bytes_of names) ≡ length bytes = length_all_zip (λ name file. Gives (held name) file) (bytes_of names) bytes h in
    let as_many_names : length (bytes_of names) ≡ length names = length-map names (λ name. name.now) in
    let here : number < length bytes = loaded (omega arith) in
    record { named = omega arith; loaded = here; inside = inside }
