-- What the ways of a translation give: through reading, the gates, and the phases behind them.
use Rattle.std.proofs.Common.{◌≡◌, ℕ, List, Option, Some, None, sym, ap, ◌∙◌}
use Rattle.std.specs.Option.{option_or}
use Rattle.vv_base.specs.declared.fault.Fault.{Fault}
use Rattle.vv_base.specs.declared.fault.Fault.TheVariants.{Refused, Memory}
use Rattle.vv_trans.specs.Translation.{told, ForRefused, Report, lexing, parsing, gates, reading, report, Stands, IsTranslated, IsRefusal, misread, later}
use Rattle.vv_trans.proofs.Phases.{some_none}

pub reads_none : (files : List (List ℕ)) → lexing 0 files ≡ None → parsing 0 files ≡ None → reading files ≡ None
unfolding reading
reads_none files lexed parsed = ap (λ (o : Option Report). option_or o (parsing 0 files)) lexed ∙ parsed

pub lexing_misread : (top : List ℕ) (files : List (List ℕ)) (fault : Fault) → ForRefused fault (λ r. lexing 0 files ≡ Some (told r)) → ForRefused fault (λ r. IsRefusal top files (told r))
unfolding reading
lexing_misread top files (Refused r) e = misread (ap (λ (o : Option Report). option_or o (parsing 0 files)) e)
lexing_misread top files Memory e = tt

pub parsing_misread : (top : List ℕ) (files : List (List ℕ)) (fault : Fault) → lexing 0 files ≡ None → ForRefused fault (λ r. parsing 0 files ≡ Some (told r)) → ForRefused fault (λ r. IsRefusal top files (told r))
unfolding reading
parsing_misread top files (Refused r) lexed e = misread (ap (λ (o : Option Report). option_or o (parsing 0 files)) lexed ∙ e)
parsing_misread top files Memory lexed e = tt

-- what reading tells is told of files of gates too
pub reading_first : (top : List ℕ) (files : List (List ℕ)) (r : Report) → reading files ≡ Some r → report top files ≡ Some r
unfolding reading report
reading_first top files r e = by_lexing (lexing 0 files) (parsing 0 files) e
  where
    by_lexing : (l p : Option Report) → option_or l p ≡ Some r → option_or l (option_or p (gates top files)) ≡ Some r
    by_lexing (Some q) p h = h
    by_lexing None p h = ap (λ (o : Option Report). option_or o (gates top files)) h

-- gates that stand are translated
pub stands_translated : (top : List ℕ) (files : List (List ℕ)) (text lines : List ℕ) → lexing 0 files ≡ None → parsing 0 files ≡ None → Stands top files text lines → IsTranslated top files text lines
stands_translated top files text lines lexed parsed s = record { read = reads_none files lexed parsed; gates = λ _. s }

-- of files that the first path refuses nothing more is asked
pub others_translated : (top : List ℕ) (files : List (List ℕ)) (text lines : List ℕ) (first : Report) → lexing 0 files ≡ None → parsing 0 files ≡ None → report top files ≡ Some first → IsTranslated top files text lines
others_translated top files text lines first lexed parsed e = record { read = reads_none files lexed parsed; gates = λ h. absurd (some_none first (sym e ∙ h)) }

-- and each of their refusals is a later one
pub others_refused : (top : List ℕ) (files : List (List ℕ)) (r first : Report) → lexing 0 files ≡ None → parsing 0 files ≡ None → report top files ≡ Some first → IsRefusal top files r
others_refused top files r first lexed parsed e = later (reads_none files lexed parsed) (λ h. some_none first (sym e ∙ h))

pub same_refused : (top : List ℕ) (files : List (List ℕ)) (fault : Fault) (first : Report) → lexing 0 files ≡ None → parsing 0 files ≡ None → report top files ≡ Some first → ForRefused fault (λ r. IsRefusal top files (told r))
same_refused top files (Refused r) first lexed parsed e = others_refused top files (told r) first lexed parsed e
same_refused top files Memory first lexed parsed e = tt
