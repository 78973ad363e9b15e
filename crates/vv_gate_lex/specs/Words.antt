-- The reserved words (IEEE 1076-1993, clause 13.9) and the signs, and what each is read as.
use Rattle.std.specs.Prelude.{◌≡◌, ℕ, List, [], ◌∷◌, ◌++◌, map, codes, All, Contains, Some}
use Rattle.vv_gate.specs.declared.token.Mark.{Mark}
use Rattle.vv_gate.specs.declared.token.Mark.TheVariants as mk
use Rattle.vv_gate_lex.specs.Symbols.{mark}
use Rattle.vv_gate_lex.specs.Lexical.{keyword, sign}

-- the reserved words that the grammar has a place for, and the two names that it keeps to itself
abbrev pub used_words : List (List ℕ × Mark)
used_words =
    (codes "library", mk.Library) ∷ (codes "use", mk.Use) ∷ (codes "all", mk.All) ∷ (codes "entity", mk.Entity)
    ∷ (codes "is", mk.Is) ∷ (codes "port", mk.Port) ∷ (codes "in", mk.In) ∷ (codes "out", mk.Out)
    ∷ (codes "end", mk.End) ∷ (codes "architecture", mk.Architecture) ∷ (codes "of", mk.Of) ∷ (codes "begin", mk.Begin)
    ∷ (codes "not", mk.Not) ∷ (codes "and", mk.And) ∷ (codes "or", mk.Or) ∷ (codes "xor", mk.Xor)
    ∷ (codes "ieee", mk.Ieee) ∷ (codes "std_logic", mk.StdLogic) ∷ []

-- the reserved words that stand nowhere in the grammar
abbrev pub unused_words : List (List ℕ)
unused_words =
    codes "abs" ∷ codes "access" ∷ codes "after" ∷ codes "alias" ∷ codes "array" ∷ codes "assert" ∷ codes "attribute" ∷ codes "block" ∷ codes "body"
    ∷ codes "buffer" ∷ codes "bus" ∷ codes "case" ∷ codes "component" ∷ codes "configuration" ∷ codes "constant" ∷ codes "disconnect" ∷ codes "downto" ∷ codes "else"
    ∷ codes "elsif" ∷ codes "exit" ∷ codes "file" ∷ codes "for" ∷ codes "function" ∷ codes "generate" ∷ codes "generic" ∷ codes "group" ∷ codes "guarded"
    ∷ codes "if" ∷ codes "impure" ∷ codes "inertial" ∷ codes "inout" ∷ codes "label" ∷ codes "linkage" ∷ codes "literal" ∷ codes "loop" ∷ codes "map"
    ∷ codes "mod" ∷ codes "nand" ∷ codes "new" ∷ codes "next" ∷ codes "nor" ∷ codes "null" ∷ codes "on" ∷ codes "open" ∷ codes "others"
    ∷ codes "package" ∷ codes "postponed" ∷ codes "procedure" ∷ codes "process" ∷ codes "pure" ∷ codes "range" ∷ codes "record" ∷ codes "register" ∷ codes "reject"
    ∷ codes "rem" ∷ codes "report" ∷ codes "return" ∷ codes "rol" ∷ codes "ror" ∷ codes "select" ∷ codes "severity" ∷ codes "signal" ∷ codes "shared"
    ∷ codes "sla" ∷ codes "sll" ∷ codes "sra" ∷ codes "srl" ∷ codes "subtype" ∷ codes "then" ∷ codes "to" ∷ codes "transport" ∷ codes "type"
    ∷ codes "unaffected" ∷ codes "units" ∷ codes "until" ∷ codes "variable" ∷ codes "wait" ∷ codes "when" ∷ codes "while" ∷ codes "with" ∷ codes "xnor" ∷ []

-- `;` `.` `(` `)` `:` `,`
abbrev pub signs : List (ℕ × Mark)
signs = (59, mk.Semicolon) ∷ (46, mk.Dot) ∷ (40, mk.Open) ∷ (41, mk.Close) ∷ (58, mk.Colon) ∷ (44, mk.Comma) ∷ []

-- each reserved word and each sign has its mark, and no other text or byte has one
pub record AreMarks : Type 0 where
  pub used : All (λ w. keyword w.0 ≡ Some w.1) used_words
  pub unused : All (λ w. keyword w ≡ Some mk.Reserved) unused_words
  pub only_words : (text : List ℕ) (m : Mark) → keyword text ≡ Some m → Contains (map (λ w. w.0) used_words ++ unused_words) text
  pub single : All (λ s. sign s.0 ≡ mark s.1) signs
  pub only_single : (b : ℕ) (m : Mark) → sign b ≡ mark m → Contains (map (λ s. s.0) signs) b
