-- What the machine tells of a file's elements, told by the productions of the grammar.
use Rattle.std.proofs.Common.{◌≡◌, ℕ, List, [], ◌∷◌, ◌++◌, All, Some, None, slice_get, drop, refl, sym, ap, ◌∙◌, subst}
use Rattle.std.proofs.lemmas.List.Elements.{All-head, All-tail}
use Rattle.std.proofs.lemmas.List.{append-nil}
use Rattle.vv_base.specs.declared.rules.Rule.TheVariants.{Y1, Y2}
use Rattle.vv_vlex.specs.Elements.{Lexeme}
use Rattle.vv_vlex.specs.Lexical.{Broken}
use Rattle.vv_vlex_laws.proofs.Cuts.{only_cut}
use Rattle.vv_machine.specs.Machine.{Outcome, reads, misplaced, too_deep, starting_with}
use Rattle.vv_grammar.specs.declared.terminal.Terminal.{Terminal}
use Rattle.vv_grammar.specs.declared.edition.Edition.TheVariants as edition
use Rattle.vv_grammar_laws.specs.Starts.{file as whole_file, steps_for}
use Rattle.vv_grammar_laws.proofs.Driven.{Told, outcome-told, driven_reads, driven_refuses, driven_deep}
use Rattle.vv_grammar_laws.proofs.Deep.{deep_in}
use Rattle.vv_grammar_laws.proofs.Ends.{never_refused}
use Rattle.vv_grammar_laws.proofs.Back.{same_derivation}
use Rattle.vv_grammar_laws.specs.Depths.{IsTooDeepAt}
use Rattle.vv_grammar_laws.proofs.Plain.{head}
use Rattle.vv_grammar_laws.proofs.Bridge.{head-from}
use Rattle.vv_productions.proofs.Readings.{read-of, misplaced-of, deep-of, one_place, one_depth, not_both, read_shallow, read_whole}
use Rattle.vv_productions.proofs.Main.{derives, admitted, derived, too_deep_matches, too_deep_derives}
use Rattle.vv_vlex_laws.specs.Cut.{IsCutOf}
use Rattle.vv_trans.proofs.Ending.{all_derived}
use Rattle.vv_grammar.specs.Terminals.{terminals_of_elements}
use Rattle.vv_trans.specs.Parsing.{offset_of, judged, judged_of, parsed, syntax}
use Rattle.vv_trans.specs.Syntax.{IsText, IsNoText, misplaced_at, deep_at}
use Rattle.vv_trans.specs.Translation.{HasElements, HasSyntax}

some_none : (b : Broken) → Some b ≡ None → ⊥
some_none b e = cc

same_broken : (a b : Broken) → Some a ≡ Some b → a ≡ b
same_broken a b e = cc

none_some : (b : Broken) → None ≡ Some b → ⊥
none_some b e = cc

read_text : (bytes : List ℕ) (ls : List Lexeme) → IsCutOf bytes ls → (o : Outcome) → parsed (terminals_of_elements ls) ≡ o → judged ls o ≡ None → IsText ls
read_text bytes ls cut (reads es b) h e =
    let ts = terminals_of_elements ls in
    let r = driven_reads edition.Vhdl93 whole_file ts 0 b es h in
    let none : drop b ts ≡ [] = all_derived bytes ls cut edition.Vhdl93 r.tokens (drop b ts) es r.derives r.between.split in
    let all : r.tokens ≡ ts = sym (r.between.split ∙ ap (λ (x : List Terminal). r.tokens ++ x) none ∙ append-nil r.tokens) in
    let d = same_derivation edition.Vhdl93 (steps_for whole_file) (steps_for whole_file) r.tokens ts es refl all r.derives (starting_with (steps_for whole_file) 0) 0 in
    let m = admitted edition.Vhdl93 whole_file ts es 0 d.0 in
    record {
      events = es;
      matches = m.matches;
      shallow = λ n i. r.shallow n (subst (IsTooDeepAt n) (sym d.1) (too_deep_derives edition.Vhdl93 whole_file ts es 0 n d.0 m.matches m.same i));
    }
read_text bytes ls cut (misplaced n) h e = absurd (some_none (record { rule = Y1; at = offset_of (slice_get ls n) }) e)
read_text bytes ls cut (too_deep n) h e = absurd (some_none (record { rule = Y2; at = offset_of (slice_get ls n) }) e)

text_passes : (ls : List Lexeme) → IsText ls → (o : Outcome) → Told edition.Vhdl93 (terminals_of_elements ls) (starting_with (steps_for whole_file) 0) 0 o → judged ls o ≡ None
text_passes ls t (reads es b) h = refl
text_passes ls t (misplaced n) h =
    absurd (never_refused edition.Vhdl93 whole_file (terminals_of_elements ls) 0 n t.events (derives edition.Vhdl93 whole_file (terminals_of_elements ls) t.events t.matches) h)
text_passes ls t (too_deep n) h =
    let ts = terminals_of_elements ls in
    let d = derived edition.Vhdl93 whole_file ts t.events 0 t.matches in
    absurd (t.shallow n (too_deep_matches edition.Vhdl93 whole_file ts t.events 0 n d.derives t.matches d.same (deep_in edition.Vhdl93 whole_file ts 0 n t.events d.derives h)))

refused_text : (ls : List Lexeme) (b : Broken) (o : Outcome) → parsed (terminals_of_elements ls) ≡ o → judged ls o ≡ Some b → IsNoText ls b
refused_text ls b (reads es n) h e = absurd (none_some b e)
refused_text ls b (misplaced n) h e =
    let ts = terminals_of_elements ls in
    subst (IsNoText ls) (same_broken (record { rule = Y1; at = offset_of (slice_get ls n) }) b e)
    (misplaced_at n (misplaced-of edition.Vhdl93 whole_file ts 0 n (driven_refuses edition.Vhdl93 whole_file ts 0 n h)))
refused_text ls b (too_deep n) h e =
    let ts = terminals_of_elements ls in
    subst (IsNoText ls) (same_broken (record { rule = Y2; at = offset_of (slice_get ls n) }) b e)
    (deep_at n (deep-of edition.Vhdl93 whole_file ts 0 n (driven_deep edition.Vhdl93 whole_file ts 0 n h)))

-- what says that elements are no text says what the machine tells of them
text_refused : (bytes : List ℕ) (ls : List Lexeme) → IsCutOf bytes ls → (b : Broken) → IsNoText ls b → (o : Outcome) → parsed (terminals_of_elements ls) ≡ o → judged ls o ≡ Some b
text_refused bytes ls cut _ (misplaced_at n m) (reads es b) h =
    let ts = terminals_of_elements ls in
    let d = driven_reads edition.Vhdl93 whole_file ts 0 b es h in
    let none : drop b ts ≡ [] = all_derived bytes ls cut edition.Vhdl93 d.tokens (drop b ts) es d.derives d.between.split in
    absurd (read_whole edition.Vhdl93 whole_file ts 0 n b es (sym (head-from ts b) ∙ ap head none) (read-of edition.Vhdl93 whole_file ts 0 b es d) m)
text_refused bytes ls cut _ (misplaced_at n m) (misplaced k) h =
    let ts = terminals_of_elements ls in
    ap (λ (i : ℕ). Some (record { rule = Y1; at = offset_of (slice_get ls i) }))
    (one_place edition.Vhdl93 whole_file ts 0 k n (misplaced-of edition.Vhdl93 whole_file ts 0 k (driven_refuses edition.Vhdl93 whole_file ts 0 k h)) m)
text_refused bytes ls cut _ (misplaced_at n m) (too_deep k) h =
    let ts = terminals_of_elements ls in
    absurd (not_both edition.Vhdl93 whole_file ts 0 k n (deep-of edition.Vhdl93 whole_file ts 0 k (driven_deep edition.Vhdl93 whole_file ts 0 k h)) m)
text_refused bytes ls cut _ (deep_at n d) (reads es b) h =
    let ts = terminals_of_elements ls in
    absurd (read_shallow edition.Vhdl93 whole_file ts 0 n b es (read-of edition.Vhdl93 whole_file ts 0 b es (driven_reads edition.Vhdl93 whole_file ts 0 b es h)) d)
text_refused bytes ls cut _ (deep_at n d) (misplaced k) h =
    let ts = terminals_of_elements ls in
    absurd (not_both edition.Vhdl93 whole_file ts 0 n k d (misplaced-of edition.Vhdl93 whole_file ts 0 k (driven_refuses edition.Vhdl93 whole_file ts 0 k h)))
text_refused bytes ls cut _ (deep_at n d) (too_deep k) h =
    let ts = terminals_of_elements ls in
    ap (λ (i : ℕ). Some (record { rule = Y2; at = offset_of (slice_get ls i) }))
    (one_depth edition.Vhdl93 whole_file ts 0 k n (deep-of edition.Vhdl93 whole_file ts 0 k (driven_deep edition.Vhdl93 whole_file ts 0 k h)) d)

judged_by : (file : List ℕ) (h : HasElements file) → syntax file ≡ judged h.elements (parsed (terminals_of_elements h.elements))
unfolding syntax
judged_by file h = ap judged_of (only_cut file h.elements h.short h.cut)

-- a file that is passed is a text
pub has_syntax : (file : List ℕ) → HasElements file → syntax file ≡ None → HasSyntax file
has_syntax file h e = record { lexical = h; text = read_text file h.elements h.cut (parsed (terminals_of_elements h.elements)) refl (sym (judged_by file h) ∙ e) }

-- a text passes
pub passes : (file : List ℕ) → HasSyntax file → syntax file ≡ None
passes file h =
    judged_by file h.lexical
    ∙ text_passes h.lexical.elements h.text (parsed (terminals_of_elements h.lexical.elements))
    (outcome-told edition.Vhdl93 (terminals_of_elements h.lexical.elements) (starting_with (steps_for whole_file) 0) 0)

-- a file that is refused is none
pub no_text : (file : List ℕ) (b : Broken) (h : HasElements file) → syntax file ≡ Some b → IsNoText h.elements b
no_text file b h e = refused_text h.elements b (parsed (terminals_of_elements h.elements)) refl (sym (judged_by file h) ∙ e)

-- a file that is none is refused so
pub only_text : (file : List ℕ) (b : Broken) (h : HasElements file) → IsNoText h.elements b → syntax file ≡ Some b
only_text file b h n = judged_by file h ∙ text_refused file h.elements h.cut b n (parsed (terminals_of_elements h.elements)) refl

-- the file behind those that come before it
pub one_behind : (before more : List (List ℕ)) (file : List ℕ) → All HasElements (before ++ (file ∷ more)) → HasElements file
one_behind [] more file all = All-head HasElements file more all
one_behind (x ∷ before) more file all = one_behind before more file (All-tail HasElements x (before ++ (file ∷ more)) all)
