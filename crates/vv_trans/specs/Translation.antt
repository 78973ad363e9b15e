-- What the files of a command become, or the rule that they break first and its place.
use Rattle.std.specs.Prelude.{◌≡◌, ◌<◌, ◌≤◌, ℕ, ◌+◌, List, [], ◌∷◌, ◌++◌, length, map, All, Option, Some, None, Ok, Err, option_map}
use Rattle.std.specs.Option.{option_or}
use Rattle.std.specs.Char.{to_ascii_lowercase}
use denote.Ref.{Bor}
use Rattle.vv_base.specs.declared.fault.Refusal.{Refusal}
use Rattle.vv_base.specs.declared.rules.Rule.{Rule}
use Rattle.vv_base.specs.declared.rules.Rule.TheVariants.{L1, Y1, N1}
use Rattle.vv_vlex.specs.Elements.{Lexeme}
pub use Rattle.vv_vlex.specs.Lexical.{ForRefused}
use Rattle.vv_vlex.specs.Lexical.{Broken, Elements, elements_of}
use Rattle.vv_trans.specs.Parsing.{syntax}
use Rattle.vv_trans.specs.Syntax.{IsText, IsNoText}
use Rattle.vv_vlex_laws.specs.Cut.{IsCutOf, IsStuckAt}
use Rattle.vv_gate.specs.Tree.{GateFile}
use Rattle.vv_gate.specs.Conditions.{IsSound, IsFirstBroken}
use Rattle.vv_gate_read.specs.Machine.{Outcome, Reads, Stops, drive, start}
use Rattle.vv_gate_read.specs.Grammar.{IsMisplaced}
use Rattle.vv_gate_read.specs.Reading.{IsReading}
use Rattle.vv_gate_lex.specs.Lexical.{tokens_of}
use Rattle.vv_gate_check.specs.Places.{first, broken_places}
use Rattle.vv_gate_text.specs.Text.{text_of}
use Rattle.vv_gate_text.specs.Map.{map_of}
use Rattle.vv_gate_text.specs.Made.{module_of}
use Rattle.vv_gate_text.specs.Names.{mangled}
use Rattle.vv_vast.specs.Grammar.{VerilogText}
use Rattle.vv_vast.specs.Flat.{Flat, FlatDesign}
use Rattle.vv_vast.specs.Tree.{Module}
use Rattle.vv_gate_agree.specs.Meaning.{MeaningKept}

-- letter case is folded
abbrev pub folded : List ℕ → List ℕ
folded bytes = map to_ascii_lowercase bytes

-- a source has at most this many bytes
abbrev pub most_bytes : ℕ
most_bytes = 16777216

-- the way over the tokens of a file
abbrev pub reading_of : List ℕ → Outcome
reading_of file = drive start (tokens_of (folded file))

-- the bytes of files in the program
abbrev pub bytes_of : List (Bor (List ℕ)) → List (List ℕ)
bytes_of files = map (λ file. file.now) files

-- the rule that is told, the number of the file, and the offset of the place
pub record Report : Type 0 where
  pub rule : Rule
  pub file : ℕ
  pub at : ℕ

-- what a refusal tells
abbrev pub told : Refusal → Report
told refusal = record { rule = refusal.rule; file = refusal.span.file; at = refusal.span.at }

-- what the elements of the file of this number tell
abbrev pub element_report : ℕ → Elements → Option Report
element_report number (Ok elements) = None
element_report number (Err broken) = Some (record { rule = broken.rule; file = number; at = broken.at })

-- the phase of limits and elements, over files of which the first has this number
unfoldable pub lexing : ℕ → List (List ℕ) → Option Report
lexing number [] = None
lexing number (file ∷ more) = option_or (element_report number (elements_of file)) (lexing (number + 1) more)

-- what the syntax of the file of this number tells
abbrev pub syntax_report : ℕ → Option Broken → Option Report
syntax_report number None = None
syntax_report number (Some broken) = Some (record { rule = broken.rule; file = number; at = broken.at })

-- the phase of syntax, over files of which the first has this number
unfoldable pub parsing : ℕ → List (List ℕ) → Option Report
parsing number [] = None
parsing number (file ∷ more) = option_or (syntax_report number (syntax file)) (parsing (number + 1) more)

abbrev pub gate_report : List ℕ → Outcome → Option Report
gate_report top (Stops at) = Some (record { rule = Y1; file = 0; at = at })
gate_report top (Reads f) = option_map (λ at. record { rule = N1; file = 0; at = at }) (first (broken_places top f))

-- the last phase, which takes one file of gates alone: a second file is refused at its start
abbrev pub gates : List ℕ → List (List ℕ) → Option Report
gates top [] = Some (record { rule = Y1; file = 0; at = 0 })
gates top (file ∷ []) = gate_report (folded top) (reading_of file)
gates top (file ∷ second ∷ more) = Some (record { rule = Y1; file = 1; at = 0 })

-- the rule of reading that files break first, if they break one: limits and elements of all files, and then the syntax of all
unfoldable pub reading : List (List ℕ) → Option Report
reading files = option_or (lexing 0 files) (parsing 0 files)

-- The rule that files break first as files of gates, if they break one: the first phase with a broken rule reports. Where there is none, there is one file, a
-- text of the grammar of gates that breaks none of its conditions.
unfoldable pub report : List ℕ → List (List ℕ) → Option Report
report top files = option_or (lexing 0 files) (option_or (parsing 0 files) (gates top files))

-- the bytes that are written
pub record Written : Type 0 where
  pub text : List ℕ
  pub map : List ℕ

abbrev pub written_of : Outcome → Written
written_of (Stops at) = record { text = []; map = [] }
written_of (Reads f) = record { text = text_of f; map = map_of f }

unfoldable pub written : List (List ℕ) → Written
written [] = record { text = []; map = [] }
written (file ∷ []) = written_of (reading_of file)
written (file ∷ second ∷ more) = record { text = []; map = [] }

-- Text and map stand for the file: it has one tree, which breaks no condition, the text is a text of the tree's module, which has a flat
-- design, and whatever modules and flat design the text is read as, that design keeps the tree's meaning. The map has exactly the tree's lines.
pub record IsTranslation (top file text lines : List ℕ) : Type 0 where
  pub tree : GateFile
  pub reading : IsReading tree (tokens_of (folded file))
  pub sound : IsSound (folded top) tree
  pub text_is : text ≡ text_of tree
  pub verilog : VerilogText (module_of tree ∷ []) text
  pub flat : Flat
  pub design : FlatDesign (module_of tree ∷ []) (mangled tree.entity.text) flat
  pub meaning : (modules : List Module) (other : Flat) → VerilogText modules text → FlatDesign modules (mangled tree.entity.text) other → MeaningKept tree other
  pub map_is : lines ≡ map_of tree

-- there is one file, for which text and map stand; as one fact that callers hand on
unfoldable pub Stands : List ℕ → List (List ℕ) → List ℕ → List ℕ → Type 0
Stands top files text lines = (file : List ℕ) × (files ≡ file ∷ []) × IsTranslation top file text lines

-- What text and map are of files that are translated: the files break no rule of reading, and where there is one file of gates that breaks none of its
-- conditions, text and map stand for it.
pub record IsTranslated (top : List ℕ) (files : List (List ℕ)) (text lines : List ℕ) : Type 0 where
  pub read : reading files ≡ None
  pub gates : report top files ≡ None → Stands top files text lines

-- What the refusal of files tells: the rule of reading that they break first; or they break none, and are not one file of gates that breaks none of its conditions.
pub data IsRefusal (top : List ℕ) (files : List (List ℕ)) (r : Report) : Type 0 where
  misread : reading files ≡ Some r → IsRefusal top files r
  later : reading files ≡ None → (¬ (report top files ≡ None)) → IsRefusal top files r

-- the file is within the limit and is cut into elements
pub record HasElements (file : List ℕ) : Type 0 where
  pub short : length file ≤ most_bytes
  pub elements : List Lexeme
  pub cut : IsCutOf file elements

-- the file breaks no rule of syntax: its elements are a text
pub record HasSyntax (file : List ℕ) : Type 0 where
  pub lexical : HasElements file
  pub text : IsText lexical.elements

-- What a report says. First come limits and elements: of the first file that is too long, or in which no element stands at some place, the
-- files before it having theirs. Where all files have theirs, the first file comes whose elements are no text by the productions of the grammar, or have something
-- too deep. Where there is none, there is one file alone, or the second one is refused at its start. That file is refused at the first token that no text of the
-- grammar of gates goes on with; else a condition is broken, and this is the first place of one.
pub data IsReport (top : List ℕ) (files : List (List ℕ)) : Report → Type 0 where
  too_long : (before more : List (List ℕ)) (file : List ℕ) → files ≡ before ++ (file ∷ more) → All HasElements before
      → most_bytes < length file → IsReport top files (record { rule = L1; file = length before; at = 0 })
  stuck : (before more : List (List ℕ)) (file : List ℕ) (rule : Rule) (at : ℕ) → files ≡ before ++ (file ∷ more) → All HasElements before
      → length file ≤ most_bytes → IsStuckAt file at rule → IsReport top files (record { rule = rule; file = length before; at = at })
  unparsed : (before more : List (List ℕ)) (file : List ℕ) (b : Broken) → files ≡ before ++ (file ∷ more) → All HasElements files → All HasSyntax before
      → (h : HasElements file) → IsNoText h.elements b → IsReport top files (record { rule = b.rule; file = length before; at = b.at })
  no_file : files ≡ [] → IsReport top files (record { rule = Y1; file = 0; at = 0 })
  second : (file other : List ℕ) (more : List (List ℕ)) → files ≡ file ∷ other ∷ more → All HasElements files → All HasSyntax files
      → IsReport top files (record { rule = Y1; file = 1; at = 0 })
  misplaced : (file : List ℕ) (at : ℕ) → files ≡ file ∷ [] → HasElements file → HasSyntax file → IsMisplaced (tokens_of (folded file)) at
      → IsReport top files (record { rule = Y1; file = 0; at = at })
  broken : (file : List ℕ) (at : ℕ) (tree : GateFile) → files ≡ file ∷ [] → HasElements file → HasSyntax file → IsReading tree (tokens_of (folded file))
      → IsFirstBroken (folded top) tree at → IsReport top files (record { rule = N1; file = 0; at = at })

-- there is one file, within the limit, cut into elements and lawful in its syntax, and it is a text of the grammar whose tree breaks no condition
pub record IsAccepted (top : List ℕ) (files : List (List ℕ)) : Type 0 where
  pub file : List ℕ
  pub alone : files ≡ file ∷ []
  pub lexical : HasElements file
  pub parses : HasSyntax file
  pub tree : GateFile
  pub reading : IsReading tree (tokens_of (folded file))
  pub sound : IsSound (folded top) tree
