-- What it means that elements are lawful in their syntax, and which rule of syntax they break, by the productions of the grammar.
use Rattle.std.specs.Prelude.{ℕ, List, [], ◌∷◌, slice_get}
use Rattle.vv_base.specs.declared.rules.Rule.TheVariants.{Y1, Y2}
use Rattle.vv_vlex.specs.Elements.{Lexeme}
use Rattle.vv_vlex.specs.Lexical.{Broken}
use Rattle.vv_grammar.specs.declared.edition.Edition.TheVariants as edition
use Rattle.vv_grammar.specs.declared.event.Event.{Event}
use Rattle.vv_grammar_laws.specs.Starts.{file}
use Rattle.vv_productions.specs.Matches.{Matches, phrase_for}
use Rattle.vv_productions.specs.Readings.{IsShallow, IsMisplaced, IsDeep}
use Rattle.vv_grammar.specs.Terminals.{terminals_of_elements}
use Rattle.vv_trans.specs.Parsing.{offset_of}

-- The elements match the productions of a file, and nothing in them is too deep.
pub record IsText (elements : List Lexeme) : Type 0 where
  pub events : List Event
  pub matches : Matches edition.Vhdl93 (phrase_for file ∷ []) (terminals_of_elements elements) events
  pub shallow : IsShallow edition.Vhdl93 file (terminals_of_elements elements) events matches 0

-- Which rule elements break that are no text, and where: with an element the ones before it are the start of no text any more, and nothing before it has to be
-- too deep; or it is settled that what starts at an element is too deep, and nothing before it is. Only one of these holds, of one element.
pub data IsNoText (elements : List Lexeme) : Broken → Type 0 where
  misplaced_at : (n : ℕ) → IsMisplaced edition.Vhdl93 file (terminals_of_elements elements) 0 n → IsNoText elements (record { rule = Y1; at = offset_of (slice_get elements n) })
  deep_at : (n : ℕ) → IsDeep edition.Vhdl93 file (terminals_of_elements elements) 0 n → IsNoText elements (record { rule = Y2; at = offset_of (slice_get elements n) })
