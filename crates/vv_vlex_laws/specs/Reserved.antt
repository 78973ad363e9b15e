-- The reserved words (IEEE 1076-1993, clause 13.9).
use Rattle.std.specs.Prelude.{◌≡◌, ℕ, List, [], ◌∷◌, map, codes, All, Contains, Some}
use Rattle.vv_vlex.specs.declared.word.Word.{Word}
use Rattle.vv_vlex.specs.declared.word.Word.TheVariants as wd
use Rattle.vv_vlex.specs.Elements.{folded}
use Rattle.vv_vlex.specs.Words.{word_of}

abbrev pub reserved_words : List (List ℕ × Word)
reserved_words =
    (codes "abs", wd.Abs) ∷ (codes "access", wd.Access) ∷ (codes "after", wd.After) ∷ (codes "alias", wd.Alias)
    ∷ (codes "all", wd.All) ∷ (codes "and", wd.And) ∷ (codes "architecture", wd.Architecture) ∷ (codes "array", wd.Array)
    ∷ (codes "assert", wd.Assert) ∷ (codes "attribute", wd.Attribute) ∷ (codes "begin", wd.Begin) ∷ (codes "block", wd.Block)
    ∷ (codes "body", wd.Body) ∷ (codes "buffer", wd.Buffer) ∷ (codes "bus", wd.Bus) ∷ (codes "case", wd.Case)
    ∷ (codes "component", wd.Component) ∷ (codes "configuration", wd.Configuration) ∷ (codes "constant", wd.Constant) ∷ (codes "disconnect", wd.Disconnect)
    ∷ (codes "downto", wd.Downto) ∷ (codes "else", wd.Else) ∷ (codes "elsif", wd.Elsif) ∷ (codes "end", wd.End)
    ∷ (codes "entity", wd.Entity) ∷ (codes "exit", wd.Exit) ∷ (codes "file", wd.File) ∷ (codes "for", wd.For)
    ∷ (codes "function", wd.Function) ∷ (codes "generate", wd.Generate) ∷ (codes "generic", wd.Generic) ∷ (codes "group", wd.Group)
    ∷ (codes "guarded", wd.Guarded) ∷ (codes "if", wd.If) ∷ (codes "impure", wd.Impure) ∷ (codes "in", wd.In)
    ∷ (codes "inertial", wd.Inertial) ∷ (codes "inout", wd.Inout) ∷ (codes "is", wd.Is) ∷ (codes "label", wd.Label)
    ∷ (codes "library", wd.Library) ∷ (codes "linkage", wd.Linkage) ∷ (codes "literal", wd.Literal) ∷ (codes "loop", wd.Loop)
    ∷ (codes "map", wd.Map) ∷ (codes "mod", wd.Mod) ∷ (codes "nand", wd.Nand) ∷ (codes "new", wd.New)
    ∷ (codes "next", wd.Next) ∷ (codes "nor", wd.Nor) ∷ (codes "not", wd.Not) ∷ (codes "null", wd.Null)
    ∷ (codes "of", wd.Of) ∷ (codes "on", wd.On) ∷ (codes "open", wd.Open) ∷ (codes "or", wd.Or)
    ∷ (codes "others", wd.Others) ∷ (codes "out", wd.Out) ∷ (codes "package", wd.Package) ∷ (codes "port", wd.Port)
    ∷ (codes "postponed", wd.Postponed) ∷ (codes "procedure", wd.Procedure) ∷ (codes "process", wd.Process) ∷ (codes "pure", wd.Pure)
    ∷ (codes "range", wd.Range) ∷ (codes "record", wd.Record) ∷ (codes "register", wd.Register) ∷ (codes "reject", wd.Reject)
    ∷ (codes "rem", wd.Rem) ∷ (codes "report", wd.Report) ∷ (codes "return", wd.Return) ∷ (codes "rol", wd.Rol)
    ∷ (codes "ror", wd.Ror) ∷ (codes "select", wd.Select) ∷ (codes "severity", wd.Severity) ∷ (codes "shared", wd.Shared)
    ∷ (codes "signal", wd.Signal) ∷ (codes "sla", wd.Sla) ∷ (codes "sll", wd.Sll) ∷ (codes "sra", wd.Sra)
    ∷ (codes "srl", wd.Srl) ∷ (codes "subtype", wd.Subtype) ∷ (codes "then", wd.Then) ∷ (codes "to", wd.To)
    ∷ (codes "transport", wd.Transport) ∷ (codes "type", wd.Type) ∷ (codes "unaffected", wd.Unaffected) ∷ (codes "units", wd.Units)
    ∷ (codes "until", wd.Until) ∷ (codes "use", wd.Use) ∷ (codes "variable", wd.Variable) ∷ (codes "wait", wd.Wait)
    ∷ (codes "when", wd.When) ∷ (codes "while", wd.While) ∷ (codes "with", wd.With) ∷ (codes "xnor", wd.Xnor)
    ∷ (codes "xor", wd.Xor) ∷ []

-- each reserved word is found by its text in any letter case, and nothing else is found
pub record AreReserved : Type 0 where
  pub each : All (λ w. word_of w.0 ≡ Some w.1) reserved_words
  pub any_case : (text : List ℕ) → word_of text ≡ word_of (folded text)
  pub only : (text : List ℕ) (w : Word) → word_of text ≡ Some w → Contains (map (λ w. w.0) reserved_words) (folded text)
