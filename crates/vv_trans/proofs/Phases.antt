-- The report of files is that of the first phase with a broken rule, and there of the first file with one.
use Rattle.std.proofs.Common.{◌≡◌, ℕ, ◌+◌, ◌≤◌, Bool, true, false, nat_lt, List, [], ◌∷◌, ◌++◌, length, All, Option, Some, None, Ok, Err, refl, sym, ap, ◌∙◌, subst, append_assoc, arith}
use Rattle.std.proofs.lemmas.Bool.{ltb-true, ltb-false}
use Rattle.std.proofs.lemmas.List.{length-append}
use Rattle.std.proofs.lemmas.List.Elements.{All-nil, All-cons, All-head, All-tail, All-append}
use Rattle.std.specs.Option.{option_or}
use Rattle.vv_base.specs.declared.rules.Rule.TheVariants.{L1, Y1}
use Rattle.vv_vlex.specs.Elements.{Lexeme}
use Rattle.vv_vlex.specs.Lexical.{Broken, Elements, elements_of}
use Rattle.vv_vlex_laws.proofs.Cuts.{over_limit, cut_of, only_cut, stuck_of, only_stuck}
use Rattle.vv_trans.specs.Translation.{most_bytes, Report, element_report, lexing, syntax_report, parsing, gates, report, HasElements, HasSyntax, IsReport, too_long, stuck, unparsed, no_file, second, misplaced, broken, IsAccepted}
use Rattle.vv_trans.specs.Parsing.{syntax}
use Rattle.vv_trans.proofs.Texts.{has_syntax, passes, no_text, only_text, one_behind}
use Rattle.vv_trans.proofs.Exact.{gate_told, gate_misplaced, gate_broken, gate_accepted}

ok_err : (ls : List Lexeme) (b : Broken) (e : Elements) → e ≡ Ok ls → e ≡ Err b → ⊥
ok_err ls b e h k = cc

pub one_err : (b d : Broken) (e : Elements) → e ≡ Err b → e ≡ Err d → b ≡ d
one_err b d e h k = cc

pub same_report : (a b : Report) → Some a ≡ Some b → a ≡ b
same_report a b e = cc

pub some_none : (r : Report) → Some r ≡ None → ⊥
some_none r e = cc

-- a file that has elements is within the limit and is cut
has_elements : (file : List ℕ) (ls : List Lexeme) → elements_of file ≡ Ok ls → HasElements file
has_elements file ls e = record { short = within (nat_lt most_bytes (length file)) refl; elements = ls; cut = cut_of file ls e }
  where
    within : (b : Bool) → nat_lt most_bytes (length file) ≡ b → length file ≤ most_bytes
    within true h = absurd (ok_err ls (record { rule = L1; at = 0 }) (elements_of file) e (over_limit file (ltb-true most_bytes (length file) h)))
    within false h = ltb-false most_bytes (length file) h

-- the elements of one file that are broken are those of a report
broken_here : (top : List ℕ) (files before more : List (List ℕ)) (file : List ℕ) (b : Broken) → files ≡ before ++ (file ∷ more) → All HasElements before
    → elements_of file ≡ Err b → IsReport top files (record { rule = b.rule; file = length before; at = b.at })
broken_here top files before more file b split all e = by_size (nat_lt most_bytes (length file)) refl
  where
    by_size : (long : Bool) → nat_lt most_bytes (length file) ≡ long → IsReport top files (record { rule = b.rule; file = length before; at = b.at })
    by_size true h =
        let long = ltb-true most_bytes (length file) h in
        subst (λ (x : Broken). IsReport top files (record { rule = x.rule; file = length before; at = x.at })) (one_err (record { rule = L1; at = 0 }) b (elements_of file) (over_limit file long) e)
        (too_long before more file split all long)
    by_size false h =
        let short = ltb-false most_bytes (length file) h in
        stuck before more file b.rule b.at split all short (stuck_of file b.at b.rule short e)

-- what the phase reports of the files from some place on
lexing_told : (top : List ℕ) (files before rest : List (List ℕ)) (r : Report) → files ≡ before ++ rest → All HasElements before
    → lexing (length before) rest ≡ Some r → IsReport top files r
unfolding lexing
lexing_told top files before [] r split all e = let z : None ≡ Some r = e in cc
lexing_told top files before (file ∷ more) r split all e =
    here (λ h k. lexing_told top files (before ++ (file ∷ [])) more r (split ∙ sym (append_assoc before (file ∷ []) more)) (All-append HasElements before (file ∷ []) all (All-cons HasElements file [] h (All-nil HasElements))) k)
    (elements_of file) refl e
  where
    here : (HasElements file → lexing (length (before ++ (file ∷ []))) more ≡ Some r → IsReport top files r)
        → (o : Elements) → elements_of file ≡ o → option_or (element_report (length before) o) (lexing (length before + 1) more) ≡ Some r → IsReport top files r
    here later (Err b) is e = subst (IsReport top files) (same_report (record { rule = b.rule; file = length before; at = b.at }) r e) (broken_here top files before more file b split all is)
    here later (Ok ls) is e = later (has_elements file ls is) (ap (λ (n : ℕ). lexing n more) (length-append before (file ∷ [])) ∙ e)

-- with no report each file has its elements
pub lexing_all : (number : ℕ) (files : List (List ℕ)) → lexing number files ≡ None → All HasElements files
unfolding lexing
lexing_all number [] e = All-nil HasElements
lexing_all number (file ∷ more) e = here (λ k. lexing_all (number + 1) more k) (elements_of file) refl e
  where
    here : (lexing (number + 1) more ≡ None → All HasElements more)
        → (o : Elements) → elements_of file ≡ o → option_or (element_report number o) (lexing (number + 1) more) ≡ None → All HasElements (file ∷ more)
    here later (Err b) is e = absurd (some_none (record { rule = b.rule; file = number; at = b.at }) e)
    here later (Ok ls) is e = All-cons HasElements file more (has_elements file ls is) (later e)

-- files that have their elements are passed
lexing_passes : (number : ℕ) (before rest : List (List ℕ)) → All HasElements before → lexing number (before ++ rest) ≡ lexing (number + length before) rest
unfolding lexing
lexing_passes number [] rest all = ap (λ (n : ℕ). lexing n rest) (let e : number ≡ number + 0 = omega arith in e)
lexing_passes number (file ∷ more) rest all =
    let h = All-head HasElements file more all in
    ap (λ (o : Elements). option_or (element_report number o) (lexing (number + 1) (more ++ rest))) (only_cut file h.elements h.short h.cut)
    ∙ (lexing_passes (number + 1) more rest (All-tail HasElements file more all) ∙ ap (λ (n : ℕ). lexing n rest) (let e : number + 1 + length more ≡ number + length (file ∷ more) = omega arith in e))

lexing_none : (number : ℕ) (files : List (List ℕ)) → All HasElements files → lexing number files ≡ None
unfolding lexing
lexing_none number [] all = refl
lexing_none number (file ∷ more) all =
    let h = All-head HasElements file more all in
    ap (λ (o : Elements). option_or (element_report number o) (lexing (number + 1) more)) (only_cut file h.elements h.short h.cut)
    ∙ lexing_none (number + 1) more (All-tail HasElements file more all)

-- the first file that is broken is the one that is reported
lexing_broken : (files before more : List (List ℕ)) (file : List ℕ) (b : Broken) → files ≡ before ++ (file ∷ more) → All HasElements before → elements_of file ≡ Err b
    → lexing 0 files ≡ Some (record { rule = b.rule; file = length before; at = b.at })
unfolding lexing
lexing_broken files before more file b split all e =
    ap (λ (x : List (List ℕ)). lexing 0 x) split
    ∙ (lexing_passes 0 before (file ∷ more) all
    ∙ (ap (λ (n : ℕ). lexing n (file ∷ more)) (let z : 0 + length before ≡ length before = omega arith in z)
    ∙ ap (λ (o : Elements). option_or (element_report (length before) o) (lexing (length before + 1) more)) e))

-- a file that breaks a rule of syntax is that of a report
parsing_told : (top : List ℕ) (files before rest : List (List ℕ)) (r : Report) → files ≡ before ++ rest → All HasElements files → All HasSyntax before
    → parsing (length before) rest ≡ Some r → IsReport top files r
unfolding parsing
parsing_told top files before [] r split all sound e = let z : None ≡ Some r = e in cc
parsing_told top files before (file ∷ more) r split all sound e =
    here (λ h k. parsing_told top files (before ++ (file ∷ [])) more r (split ∙ sym (append_assoc before (file ∷ []) more)) all (All-append HasSyntax before (file ∷ []) sound (All-cons HasSyntax file [] h (All-nil HasSyntax))) k)
    (syntax file) refl e
  where
    own : HasElements file
    own = one_behind before more file (subst (λ (x : List (List ℕ)). All HasElements x) split all)

    here : (HasSyntax file → parsing (length (before ++ (file ∷ []))) more ≡ Some r → IsReport top files r)
        → (o : Option Broken) → syntax file ≡ o → option_or (syntax_report (length before) o) (parsing (length before + 1) more) ≡ Some r → IsReport top files r
    here later (Some b) is e = subst (IsReport top files) (same_report (record { rule = b.rule; file = length before; at = b.at }) r e) (unparsed before more file b split all sound own (no_text file b own is))
    here later None is e = later (has_syntax file own is) (ap (λ (n : ℕ). parsing n more) (length-append before (file ∷ [])) ∙ e)

-- with no report each file is lawful in its syntax
pub parsing_all : (number : ℕ) (files : List (List ℕ)) → All HasElements files → parsing number files ≡ None → All HasSyntax files
unfolding parsing
parsing_all number [] all e = All-nil HasSyntax
parsing_all number (file ∷ more) all e = here (λ k. parsing_all (number + 1) more (All-tail HasElements file more all) k) (syntax file) refl e
  where
    here : (parsing (number + 1) more ≡ None → All HasSyntax more)
        → (o : Option Broken) → syntax file ≡ o → option_or (syntax_report number o) (parsing (number + 1) more) ≡ None → All HasSyntax (file ∷ more)
    here later (Some b) is e = absurd (some_none (record { rule = b.rule; file = number; at = b.at }) e)
    here later None is e = All-cons HasSyntax file more (has_syntax file (All-head HasElements file more all) is) (later e)

-- files that are lawful in their syntax are passed
parsing_passes : (number : ℕ) (before rest : List (List ℕ)) → All HasSyntax before → parsing number (before ++ rest) ≡ parsing (number + length before) rest
unfolding parsing
parsing_passes number [] rest all = ap (λ (n : ℕ). parsing n rest) (let e : number ≡ number + 0 = omega arith in e)
parsing_passes number (file ∷ more) rest all =
    ap (λ (o : Option Broken). option_or (syntax_report number o) (parsing (number + 1) (more ++ rest))) (passes file (All-head HasSyntax file more all))
    ∙ (parsing_passes (number + 1) more rest (All-tail HasSyntax file more all) ∙ ap (λ (n : ℕ). parsing n rest) (let e : number + 1 + length more ≡ number + length (file ∷ more) = omega arith in e))

parsing_none : (number : ℕ) (files : List (List ℕ)) → All HasSyntax files → parsing number files ≡ None
unfolding parsing
parsing_none number [] all = refl
parsing_none number (file ∷ more) all =
    ap (λ (o : Option Broken). option_or (syntax_report number o) (parsing (number + 1) more)) (passes file (All-head HasSyntax file more all))
    ∙ parsing_none (number + 1) more (All-tail HasSyntax file more all)

-- the first file that breaks a rule of syntax is the one that is reported
parsing_broken : (files before more : List (List ℕ)) (file : List ℕ) (b : Broken) → files ≡ before ++ (file ∷ more) → All HasSyntax before → syntax file ≡ Some b
    → parsing 0 files ≡ Some (record { rule = b.rule; file = length before; at = b.at })
unfolding parsing
parsing_broken files before more file b split all e =
    ap (λ (x : List (List ℕ)). parsing 0 x) split
    ∙ (parsing_passes 0 before (file ∷ more) all
    ∙ (ap (λ (n : ℕ). parsing n (file ∷ more)) (let z : 0 + length before ≡ length before = omega arith in z)
    ∙ ap (λ (o : Option Broken). option_or (syntax_report (length before) o) (parsing (length before + 1) more)) e))

pub one_lawful : (file : List ℕ) (files : List (List ℕ)) → files ≡ file ∷ [] → All HasSyntax files → HasSyntax file
one_lawful file files alone all = All-head HasSyntax file [] (subst (λ (x : List (List ℕ)). All HasSyntax x) alone all)

all_lawful : (file : List ℕ) (files : List (List ℕ)) → files ≡ file ∷ [] → HasSyntax file → All HasSyntax files
all_lawful file files alone h = subst (λ (x : List (List ℕ)). All HasSyntax x) (sym alone) (All-cons HasSyntax file [] h (All-nil HasSyntax))

pub one_file : (file : List ℕ) (files : List (List ℕ)) → files ≡ file ∷ [] → All HasElements files → HasElements file
one_file file files alone all = All-head HasElements file [] (subst (λ (x : List (List ℕ)). All HasElements x) alone all)

all_one : (file : List ℕ) (files : List (List ℕ)) → files ≡ file ∷ [] → HasElements file → All HasElements files
all_one file files alone h = subst (λ (x : List (List ℕ)). All HasElements x) (sym alone) (All-cons HasElements file [] h (All-nil HasElements))

gates_told : (top : List ℕ) (files rest : List (List ℕ)) (r : Report) → files ≡ rest → All HasElements files → All HasSyntax files → gates top rest ≡ Some r → IsReport top files r
gates_told top files [] r is all sound e = subst (IsReport top files) (same_report (record { rule = Y1; file = 0; at = 0 }) r e) (no_file is)
gates_told top files (file ∷ []) r is all sound e = gate_told top file files r is (one_file file files is all) (one_lawful file files is sound) e
gates_told top files (file ∷ other ∷ more) r is all sound e = subst (IsReport top files) (same_report (record { rule = Y1; file = 1; at = 0 }) r e) (second file other more is all sound)

pub told_exactly : (top : List ℕ) (files : List (List ℕ)) (r : Report) → report top files ≡ Some r → IsReport top files r
unfolding report
told_exactly top files r e = by_elements (lexing 0 files) refl e
  where
    by_syntax : (o : Option Report) → parsing 0 files ≡ o → All HasElements files → option_or o (gates top files) ≡ Some r → IsReport top files r
    by_syntax (Some q) is all e = subst (IsReport top files) (same_report q r e) (parsing_told top files [] files q refl all (All-nil HasSyntax) is)
    by_syntax None is all e = gates_told top files files r refl all (parsing_all 0 files all is) e

    by_elements : (o : Option Report) → lexing 0 files ≡ o → option_or o (option_or (parsing 0 files) (gates top files)) ≡ Some r → IsReport top files r
    by_elements (Some q) is e = subst (IsReport top files) (same_report q r e) (lexing_told top files [] files q refl (All-nil HasElements) is)
    by_elements None is e = by_syntax (parsing 0 files) refl (lexing_all 0 files is) e

-- where all files have their elements and are lawful in their syntax, the gates report
pub report_by_gates : (top : List ℕ) (files rest : List (List ℕ)) → files ≡ rest → All HasElements files → All HasSyntax files → report top files ≡ gates top rest
unfolding report
report_by_gates top files rest is all sound =
    ap (λ (o : Option Report). option_or o (option_or (parsing 0 files) (gates top files))) (lexing_none 0 files all)
    ∙ (ap (λ (o : Option Report). option_or o (gates top files)) (parsing_none 0 files sound) ∙ ap (λ (x : List (List ℕ)). gates top x) is)

pub report_by_lexing : (top : List ℕ) (files : List (List ℕ)) (r : Report) → lexing 0 files ≡ Some r → report top files ≡ Some r
unfolding report
report_by_lexing top files r e = ap (λ (o : Option Report). option_or o (option_or (parsing 0 files) (gates top files))) e

-- where all files have their elements, the syntax reports first
pub report_by_parsing : (top : List ℕ) (files : List (List ℕ)) (r : Report) → All HasElements files → parsing 0 files ≡ Some r → report top files ≡ Some r
unfolding report
report_by_parsing top files r all e =
    ap (λ (o : Option Report). option_or o (option_or (parsing 0 files) (gates top files))) (lexing_none 0 files all)
    ∙ ap (λ (o : Option Report). option_or o (gates top files)) e

pub only_told : (top : List ℕ) (files : List (List ℕ)) (r : Report) → IsReport top files r → report top files ≡ Some r
only_told top files r (too_long before more file split all long) =
    report_by_lexing top files (record { rule = L1; file = length before; at = 0 }) (lexing_broken files before more file (record { rule = L1; at = 0 }) split all (over_limit file long))
only_told top files r (stuck before more file rule at split all short s) =
    report_by_lexing top files (record { rule = rule; file = length before; at = at }) (lexing_broken files before more file (record { rule = rule; at = at }) split all (only_stuck file at rule short s))
only_told top files r (unparsed before more file b split all sound h n) =
    report_by_parsing top files (record { rule = b.rule; file = length before; at = b.at }) all (parsing_broken files before more file b split sound (only_text file b h n))
only_told top files r (no_file is) = report_by_gates top files [] is (subst (λ (x : List (List ℕ)). All HasElements x) (sym is) (All-nil HasElements)) (subst (λ (x : List (List ℕ)). All HasSyntax x) (sym is) (All-nil HasSyntax))
only_told top files r (second file other more is all sound) = report_by_gates top files (file ∷ other ∷ more) is all sound
only_told top files r (misplaced file at is h k m) = report_by_gates top files (file ∷ []) is (all_one file files is h) (all_lawful file files is k) ∙ gate_misplaced top file at m
only_told top files r (broken file at f is h k reading b) = report_by_gates top files (file ∷ []) is (all_one file files is h) (all_lawful file files is k) ∙ gate_broken top file at f reading b

gates_accepted : (top : List ℕ) (files rest : List (List ℕ)) → files ≡ rest → All HasElements files → All HasSyntax files → gates top rest ≡ None → IsAccepted top files
gates_accepted top files [] is all sound e = absurd (some_none (record { rule = Y1; file = 0; at = 0 }) e)
gates_accepted top files (file ∷ []) is all sound e = gate_accepted top file files is (one_file file files is all) (one_lawful file files is sound) e
gates_accepted top files (file ∷ other ∷ more) is all sound e = absurd (some_none (record { rule = Y1; file = 1; at = 0 }) e)

pub accepted_exactly : (top : List ℕ) (files : List (List ℕ)) → report top files ≡ None → IsAccepted top files
unfolding report
accepted_exactly top files e = by_elements (lexing 0 files) refl e
  where
    by_syntax : (o : Option Report) → parsing 0 files ≡ o → All HasElements files → option_or o (gates top files) ≡ None → IsAccepted top files
    by_syntax (Some q) is all e = absurd (some_none q e)
    by_syntax None is all e = gates_accepted top files files refl all (parsing_all 0 files all is) e

    by_elements : (o : Option Report) → lexing 0 files ≡ o → option_or o (option_or (parsing 0 files) (gates top files)) ≡ None → IsAccepted top files
    by_elements (Some q) is e = absurd (some_none q e)
    by_elements None is e = by_syntax (parsing 0 files) refl (lexing_all 0 files is) e
