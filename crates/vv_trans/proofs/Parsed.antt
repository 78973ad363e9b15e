-- The phase of syntax goes over the files one by one.
use Rattle.std.proofs.Common.{◌≡◌, ℕ, ◌+◌, ◌<◌, ◌≤◌, List, length, get_or, drop, Option, Some, None, sym, ap, ◌∙◌}
use Rattle.std.proofs.Math.ListN.{drop_of_length-le}
use Rattle.std.proofs.lemmas.List.{drop_more}
use Rattle.std.specs.Option.{option_or}
use denote.Ref.{Bor}
use Rattle.vv_base.specs.declared.fault.Fault.{Fault}
use Rattle.vv_base.specs.declared.fault.Fault.TheVariants.{Refused, Memory}
use Rattle.vv_vlex.specs.Lexical.{Broken}
use Rattle.vv_trans.specs.Parsing.{syntax}
use Rattle.vv_trans.specs.Translation.{bytes_of, told, ForRefused, Report, syntax_report, parsing}

abbrev left : List (Bor (List ℕ)) → ℕ → Option Report
left files number = parsing number (bytes_of (drop number files))

next : (files : List (Bor (List ℕ))) (number : ℕ) (d : Bor (List ℕ)) → number < length files
    → left files number ≡ option_or (syntax_report number (syntax (get_or files number d).now)) (left files (number + 1))
unfolding parsing
next files number d within = ap (λ (x : List (Bor (List ℕ))). parsing number (bytes_of x)) (drop_more files number d within)

-- a file that is lawful in its syntax is passed
pub passed : (files : List (Bor (List ℕ))) (number : ℕ) (d : Bor (List ℕ)) (all : Option Report) → number < length files
    → syntax (get_or files number d).now ≡ None → left files number ≡ all → left files (number + 1) ≡ all
passed files number d all within e kept =
    ap (λ (o : Option Broken). option_or (syntax_report number o) (left files (number + 1))) (sym e) ∙ (sym (next files number d within) ∙ kept)

-- a file that is broken is the one that is reported
pub refused_here : (files : List (Bor (List ℕ))) (number : ℕ) (d : Bor (List ℕ)) (all : Option Report) (fault : Fault) → number < length files
    → ForRefused fault (λ r. syntax (get_or files number d).now ≡ Some (record { rule = r.rule; at = r.span.at })) → ForRefused fault (λ r. r.span.file ≡ number)
    → left files number ≡ all → ForRefused fault (λ r. all ≡ Some (told r))
refused_here files number d all (Refused r) within e f kept =
    sym kept ∙ (next files number d within
    ∙ (ap (λ (o : Option Broken). option_or (syntax_report number o) (left files (number + 1))) e
    ∙ ap (λ (n : ℕ). let x : Option Report = Some (record { rule = r.rule; file = n; at = r.span.at }) in x) (sym f)))
refused_here files number d all Memory within e f kept = tt

none_left : (files : List (Bor (List ℕ))) (number : ℕ) → length files ≤ number → left files number ≡ None
unfolding parsing
none_left files number h = ap (λ (x : List (Bor (List ℕ))). parsing number (bytes_of x)) (drop_of_length-le files h)

-- with all files passed nothing is reported
pub all_passed : (files : List (Bor (List ℕ))) (number : ℕ) (all : Option Report) → length files ≤ number → left files number ≡ all → all ≡ None
all_passed files number all h kept = sym kept ∙ none_left files number h
