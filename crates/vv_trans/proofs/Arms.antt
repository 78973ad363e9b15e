-- What the report is in each arm of the translation.
use Rattle.std.proofs.Common.{◌≡◌, ℕ, ◌<◌, ◌≤◌, List, [], ◌∷◌, length, get_or, Option, Some, None, Result, Ok, Err, IfErr, refl, sym, ap, ◌∙◌, subst, arith}
use Rattle.std.proofs.lemmas.List.{length-map}
use denote.Ref.{Bor}
use Rattle.vv_base.specs.declared.fault.Fault.{Fault}
use Rattle.vv_base.specs.declared.fault.Fault.TheVariants.{Refused, Memory}
use Rattle.vv_base.specs.declared.rules.Rule.TheVariants.{Y1}
use Rattle.vv_trans.specs.Translation.{bytes_of, told, ForRefused, most_bytes, reading_of, Report, lexing, parsing, gates, report, written, written_of, IsTranslation, Stands}
use Rattle.vv_trans.proofs.Phases.{lexing_all, parsing_all, one_file, report_by_gates, report_by_lexing, report_by_parsing}
use Rattle.vv_trans.proofs.Inside.{lexing_file, lexing_inside}
use Rattle.vv_trans.proofs.Tokens.{parsing_file, parsing_inside}

-- what is reported by the first phase is reported
pub lexing_refuses : (top : List ℕ) (files : List (List ℕ)) (fault : Fault) → ForRefused fault (λ r. lexing 0 files ≡ Some (told r)) → ForRefused fault (λ r. report top files ≡ Some (told r))
lexing_refuses top files (Refused r) e = report_by_lexing top files (told r) e
lexing_refuses top files Memory e = tt

pub lexing_in_file : (files : List (Bor (List ℕ))) (fault : Fault) → ForRefused fault (λ r. lexing 0 (bytes_of files) ≡ Some (told r)) → ForRefused fault (λ r. 0 < length files → r.span.file < length files)
lexing_in_file files (Refused r) e = λ _. subst (λ (n : ℕ). r.span.file < n) (length-map files (λ file. file.now)) (lexing_file (bytes_of files) (told r) e)
lexing_in_file files Memory e = tt

pub lexing_is_inside : (files : List (List ℕ)) (fault : Fault) → ForRefused fault (λ r. lexing 0 files ≡ Some (told r)) → ForRefused fault (λ r. r.span.at ≤ length (get_or files r.span.file []))
lexing_is_inside files (Refused r) e = lexing_inside files (told r) e
lexing_is_inside files Memory e = tt

-- what is reported by the phase of syntax is reported, where all files have their elements
pub parsing_refuses : (top : List ℕ) (files : List (List ℕ)) (fault : Fault) → lexing 0 files ≡ None → ForRefused fault (λ r. parsing 0 files ≡ Some (told r)) → ForRefused fault (λ r. report top files ≡ Some (told r))
parsing_refuses top files (Refused r) none e = report_by_parsing top files (told r) (lexing_all 0 files none) e
parsing_refuses top files Memory none e = tt

pub parsing_in_file : (files : List (Bor (List ℕ))) (fault : Fault) → ForRefused fault (λ r. parsing 0 (bytes_of files) ≡ Some (told r)) → ForRefused fault (λ r. 0 < length files → r.span.file < length files)
parsing_in_file files (Refused r) e = λ _. subst (λ (n : ℕ). r.span.file < n) (length-map files (λ file. file.now)) (parsing_file (bytes_of files) (told r) e)
parsing_in_file files Memory e = tt

pub parsing_is_inside : (files : List (List ℕ)) (fault : Fault) → lexing 0 files ≡ None → ForRefused fault (λ r. parsing 0 files ≡ Some (told r)) → ForRefused fault (λ r. r.span.at ≤ length (get_or files r.span.file []))
parsing_is_inside files (Refused r) none e = parsing_inside files (told r) e
parsing_is_inside files Memory none e = tt

-- a refusal that was told is the report
pub tells : (fault : Fault) (all : Option Report) (q : Report) → all ≡ Some q → ForRefused fault (λ r. told r ≡ q) → ForRefused fault (λ r. all ≡ Some (told r))
tells (Refused r) all q e t = e ∙ ap (λ (x : Report). let y : Option Report = Some x in y) (sym t)
tells Memory all q e t = tt

-- behind the first phase the gates report
after : (top : List ℕ) (files rest : List (List ℕ)) → lexing 0 files ≡ None → parsing 0 files ≡ None → files ≡ rest → report top files ≡ gates top rest
after top files rest none lawful is = report_by_gates top files rest is (lexing_all 0 files none) (parsing_all 0 files (lexing_all 0 files none) lawful)

pub none_told : (top : List ℕ) (files : List (Bor (List ℕ))) → length files < 1 → lexing 0 (bytes_of files) ≡ None → parsing 0 (bytes_of files) ≡ None → report top (bytes_of files) ≡ Some (record { rule = Y1; file = 0; at = 0 })
none_told top [] few none lawful = after top [] [] none lawful refl
none_told top (file ∷ more) few none lawful = absurd (omega (arith, few))

pub more_told : (top : List ℕ) (files : List (Bor (List ℕ))) → 2 ≤ length files → lexing 0 (bytes_of files) ≡ None → parsing 0 (bytes_of files) ≡ None → report top (bytes_of files) ≡ Some (record { rule = Y1; file = 1; at = 0 })
more_told top [] many none lawful = absurd (omega (arith, many))
more_told top (file ∷ []) many none lawful = absurd (omega (arith, many))
more_told top (file ∷ other ∷ more) many none lawful = after top (bytes_of (file ∷ other ∷ more)) (bytes_of (file ∷ other ∷ more)) none lawful refl

-- one file alone
pub alone : (files : List (Bor (List ℕ))) (d : Bor (List ℕ)) → 1 ≤ length files → length files < 2 → bytes_of files ≡ (get_or files 0 d).now ∷ []
alone [] d some few = absurd (omega (arith, some))
alone (file ∷ []) d some few = refl
alone (file ∷ other ∷ more) d some few = absurd (omega (arith, few))

pub alone_short : (files : List (List ℕ)) (file : List ℕ) → files ≡ file ∷ [] → lexing 0 files ≡ None → length file ≤ most_bytes
alone_short files file is none = (one_file file files is (lexing_all 0 files none)).short

pub alone_told : (top : List ℕ) (files : List (List ℕ)) (file : List ℕ) → files ≡ file ∷ [] → lexing 0 files ≡ None → parsing 0 files ≡ None → report top files ≡ gates top (file ∷ [])
alone_told top files file is none lawful = after top files (file ∷ []) none lawful is

pub alone_written : (files : List (List ℕ)) (file : List ℕ) → files ≡ file ∷ [] → written files ≡ written_of (reading_of file)
unfolding written
alone_written files file is = ap (λ (x : List (List ℕ)). written x) is

pub alone_stands : (top : List ℕ) (files : List (List ℕ)) (file text lines : List ℕ) → files ≡ file ∷ [] → IsTranslation top file text lines → Stands top files text lines
unfolding Stands
alone_stands top files file text lines is h = (file, is, h)

pub alone_inside : {A : Type 0} (result : Result A Fault) (files : List (List ℕ)) (file : List ℕ) → files ≡ file ∷ []
    → IfErr result (λ fault. ForRefused fault (λ r. r.span.file ≡ 0)) → IfErr result (λ fault. ForRefused fault (λ r. r.span.at ≤ length file))
    → IfErr result (λ fault. ForRefused fault (λ r. r.span.at ≤ length (get_or files r.span.file [])))
alone_inside (Ok x) files file is zero_is inside = tt
alone_inside (Err (Refused r)) files file is zero_is inside = rw (is, zero_is) inside
alone_inside (Err Memory) files file is zero_is inside = tt
