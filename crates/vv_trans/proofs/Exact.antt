-- What the gates report of one file is the rule that is broken, and no other one is.
use Rattle.std.proofs.Common.{◌≡◌, ℕ, List, [], ◌∷◌, ◌++◌, map, Option, Some, None, option_map, MatchOption, refl, sym, ap, ◌∙◌, subst, append_assoc, arith, ◌⊎◌, inl, inr}
use Rattle.std.proofs.lemmas.List.{map-append}
use Rattle.vv_base.specs.declared.rules.Rule.TheVariants.{Y1, N1}
use Rattle.vv_gate.specs.Tree.{GateFile}
use Rattle.vv_gate.specs.Conditions.{IsSound, IsFirstBroken}
use Rattle.vv_gate_lex.specs.Symbols.{Symbol, Token}
use Rattle.vv_gate_read.specs.Grammar.{IsTextOf, IsViable, IsMisplaced}
use Rattle.vv_gate_read.specs.Machine.{Outcome, Reads, Stops}
use Rattle.vv_gate_read.specs.Reading.{IsReading}
use Rattle.vv_gate_lex.specs.Lexical.{tokens_of}
use Rattle.vv_gate_read.proofs.Order.{tokens-ordered}
use Rattle.vv_gate_read.proofs.Judged.{read_well, stops_well}
use Rattle.vv_gate_check.specs.Places.{first, broken_places}
use Rattle.vv_gate_check.proofs.Law.{first_is_least}
use Rattle.vv_trans.specs.Translation.{folded, reading_of, Report, gate_report, HasElements, HasSyntax, IsReport, misplaced, broken, IsAccepted}

abbrev broken_at : ℕ → Report
broken_at at = record { rule = N1; file = 0; at = at }

-- where two splits of one list stand
abbrev Compared : (front other : List Token) (t u : Token) → Type 0
Compared front other t u = (t ≡ u) ⊎ (((x : List Token) × (other ≡ front ++ (t ∷ x))) ⊎ ((x : List Token) × (front ≡ other ++ (u ∷ x))))

head_same : (t u : Token) (a b : List Token) → t ∷ a ≡ u ∷ b → t ≡ u
head_same t u a b e = cc

tail_same : (t u : Token) (a b : List Token) → t ∷ a ≡ u ∷ b → a ≡ b
tail_same t u a b e = cc

compared : (front other more rest : List Token) (t u : Token) → front ++ (t ∷ more) ≡ other ++ (u ∷ rest) → Compared front other t u
compared [] [] more rest t u e = inl (head_same t u more rest e)
compared [] (v ∷ other) more rest t u e = inr (inl (other, ap (λ (x : Token). x ∷ other) (sym (head_same t v more (other ++ (u ∷ rest)) e))))
compared (v ∷ front) [] more rest t u e = inr (inr (front, ap (λ (x : Token). x ∷ front) (head_same v u (front ++ (t ∷ more)) rest e)))
compared (v ∷ front) (w ∷ other) more rest t u e =
    let same : v ≡ w = head_same v w (front ++ (t ∷ more)) (other ++ (u ∷ rest)) e in
    elim (compared front other more rest t u (tail_same v w (front ++ (t ∷ more)) (other ++ (u ∷ rest)) e)) [
      | inl h ↦ inl h
      | inr h ↦ elim h [
        | inl k ↦ inr (inl (k.0, ap (λ (y : List Token). w ∷ y) k.1 ∙ ap (λ (x : Token). x ∷ (front ++ (t ∷ k.0))) (sym same)))
        | inr k ↦ inr (inr (k.0, ap (λ (y : List Token). v ∷ y) k.1 ∙ ap (λ (x : Token). x ∷ (other ++ (u ∷ k.0))) same))
      ]
    ]

abbrev symbols : List Token → List Symbol
symbols ts = map (λ t. t.symbol) ts

-- what goes on behind more goes on behind less
shorter : (front other x : List Token) (t : Token) → other ≡ front ++ (t ∷ x) → IsViable (symbols other) → IsViable (symbols front ++ (t.symbol ∷ []))
shorter front other x t e v = record {
  file = v.file;
  more = symbols x ++ v.more;
  whole = v.whole;
  spells =
      append_assoc (symbols front) (t.symbol ∷ []) (symbols x ++ v.more)
      ∙ (sym (append_assoc (symbols front) (t.symbol ∷ symbols x) v.more)
      ∙ (ap (λ (k : List Symbol). k ++ v.more) (sym (ap symbols e ∙ map-append (λ (t : Token). t.symbol) front (t ∷ x))) ∙ v.spells));
}

one_place : (ts : List Token) (at place : ℕ) → IsMisplaced ts at → IsMisplaced ts place → at ≡ place
one_place ts at place m n = elim (compared m.front n.front m.more n.more m.token n.token (sym m.split ∙ n.split)) [
  | inl h ↦ sym m.place ∙ (ap (λ (t : Token). t.at) h ∙ n.place)
  | inr h ↦ elim h [
    | inl k ↦ absurd (m.not_after (shorter m.front n.front k.0 m.token k.1 n.before))
    | inr k ↦ absurd (n.not_after (shorter n.front m.front k.0 n.token k.1 m.before))
  ]
]

-- a text has no misplaced token
no_text : (ts : List Token) (at : ℕ) (f : GateFile) → IsMisplaced ts at → IsTextOf f ts → ⊥
no_text ts at f m t = m.not_after (record {
  file = f;
  more = symbols m.more;
  whole = t.whole;
  spells =
      append_assoc (symbols m.front) (m.token.symbol ∷ []) (symbols m.more)
      ∙ (sym (ap symbols m.split ∙ map-append (λ (t : Token). t.symbol) m.front (m.token ∷ m.more)) ∙ t.spells);
})

one_first : (top : List ℕ) (f : GateFile) (at place : ℕ) → IsFirstBroken top f at → IsFirstBroken top f place → at ≡ place
one_first top f at place h k =
    let a = h.least place k.here in
    let b = k.least at h.here in
    omega (arith, a, b)

some_none : (r : Report) → Some r ≡ None → ⊥
some_none r e = cc

same_report : (a b : Report) → Some a ≡ Some b → a ≡ b
same_report a b e = cc

-- a report of one file, which is alone and has its elements
told_of : (top file : List ℕ) (files : List (List ℕ)) (r : Report) (o : Outcome) → files ≡ file ∷ [] → HasElements file → HasSyntax file → reading_of file ≡ o
    → gate_report (folded top) o ≡ Some r → IsReport top files r
told_of top file files r (Stops at) alone h k is e =
    subst (IsReport top files) (same_report (record { rule = Y1; file = 0; at = at }) r e)
    (misplaced file at alone h k (stops_well at (tokens_of (folded file)) (tokens-ordered (folded file)) is))
told_of top file files r (Reads f) alone h k is e =
    let reading = read_well f (tokens_of (folded file)) (tokens-ordered (folded file)) is in
    told_first (first (broken_places (folded top) f)) refl reading e
  where
    told_first : (place : Option ℕ) → place ≡ first (broken_places (folded top) f) → IsReading f (tokens_of (folded file)) → option_map broken_at place ≡ Some r → IsReport top files r
    told_first None q reading e = let z : None ≡ Some r = e in cc
    told_first (Some at) q reading e =
        subst (IsReport top files) (same_report (record { rule = N1; file = 0; at = at }) r e)
        (broken file at f alone h k reading (first_is_least (folded top) f (Some at) reading.placed q))

pub gate_told : (top file : List ℕ) (files : List (List ℕ)) (r : Report) → files ≡ file ∷ [] → HasElements file → HasSyntax file → gate_report (folded top) (reading_of file) ≡ Some r
    → IsReport top files r
gate_told top file files r alone h k e = told_of top file files r (reading_of file) alone h k refl e

only_misplaced : (top file : List ℕ) (at : ℕ) (o : Outcome) → IsMisplaced (tokens_of (folded file)) at → reading_of file ≡ o → gate_report (folded top) o ≡ Some (record { rule = Y1; file = 0; at = at })
only_misplaced top file at (Stops place) m is =
    ap (λ (n : ℕ). Some (record { rule = Y1; file = 0; at = n })) (one_place (tokens_of (folded file)) place at (stops_well place (tokens_of (folded file)) (tokens-ordered (folded file)) is) m)
only_misplaced top file at (Reads f) m is = absurd (no_text (tokens_of (folded file)) at f m (read_well f (tokens_of (folded file)) (tokens-ordered (folded file)) is).text)

only_first : (top : List ℕ) (f : GateFile) (at : ℕ) (place : Option ℕ) → MatchOption place (IsSound top f) (IsFirstBroken top f) → IsFirstBroken top f at
    → option_map broken_at place ≡ Some (record { rule = N1; file = 0; at = at })
only_first top f at None h k = absurd (h at k.here)
only_first top f at (Some place) h k = ap (λ (n : ℕ). Some (record { rule = N1; file = 0; at = n })) (one_first top f place at h k)

only_broken : (top file : List ℕ) (at : ℕ) (f : GateFile) (o : Outcome) → IsReading f (tokens_of (folded file)) → IsFirstBroken (folded top) f at → reading_of file ≡ o
    → gate_report (folded top) o ≡ Some (record { rule = N1; file = 0; at = at })
only_broken top file at f (Stops place) r h is = absurd (no_text (tokens_of (folded file)) place f (stops_well place (tokens_of (folded file)) (tokens-ordered (folded file)) is) r.text)
only_broken top file at f (Reads g) r h is =
    let same : g ≡ f = r.only g (read_well g (tokens_of (folded file)) (tokens-ordered (folded file)) is).text in
    ap (λ (x : GateFile). option_map broken_at (first (broken_places (folded top) x))) same
    ∙ only_first (folded top) f at (first (broken_places (folded top) f)) (first_is_least (folded top) f (first (broken_places (folded top) f)) r.placed refl) h

pub gate_misplaced : (top file : List ℕ) (at : ℕ) → IsMisplaced (tokens_of (folded file)) at
    → gate_report (folded top) (reading_of file) ≡ Some (record { rule = Y1; file = 0; at = at })
gate_misplaced top file at m = only_misplaced top file at (reading_of file) m refl

pub gate_broken : (top file : List ℕ) (at : ℕ) (f : GateFile) → IsReading f (tokens_of (folded file)) → IsFirstBroken (folded top) f at
    → gate_report (folded top) (reading_of file) ≡ Some (record { rule = N1; file = 0; at = at })
gate_broken top file at f reading h = only_broken top file at f (reading_of file) reading h refl

accepted_of : (top file : List ℕ) (files : List (List ℕ)) (o : Outcome) → files ≡ file ∷ [] → HasElements file → HasSyntax file → reading_of file ≡ o
    → gate_report (folded top) o ≡ None → IsAccepted top files
accepted_of top file files (Stops at) alone h k is e = absurd (some_none (record { rule = Y1; file = 0; at = at }) e)
accepted_of top file files (Reads f) alone h k is e =
    let reading = read_well f (tokens_of (folded file)) (tokens-ordered (folded file)) is in
    record {
      file = file;
      alone = alone;
      lexical = h;
      parses = k;
      tree = f;
      reading = reading;
      sound = sound_at (first (broken_places (folded top) f)) e (first_is_least (folded top) f (first (broken_places (folded top) f)) reading.placed refl);
    }
  where
    sound_at : (place : Option ℕ) → option_map broken_at place ≡ None → MatchOption place (IsSound (folded top) f) (IsFirstBroken (folded top) f) → IsSound (folded top) f
    sound_at None e h = h
    sound_at (Some at) e h = absurd (some_none (record { rule = N1; file = 0; at = at }) e)

pub gate_accepted : (top file : List ℕ) (files : List (List ℕ)) → files ≡ file ∷ [] → HasElements file → HasSyntax file → gate_report (folded top) (reading_of file) ≡ None
    → IsAccepted top files
gate_accepted top file files alone h k e = accepted_of top file files (reading_of file) alone h k refl e
