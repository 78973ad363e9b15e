-- The names of the module are identifiers.
use Rattle.std.proofs.Common.{List, ◌∷◌, ◌++◌, map}
use Rattle.std.proofs.lemmas.List.Elements.{recursion_from_All}
use Rattle.std.specs.List.{flat_map, AllByRecursion}
use Rattle.std.specs.Prelude.{filter}
use Rattle.vv_gate.specs.Tree.{Ident, Group, Port, Assignment, GateFile, ports_of, ports_of_group}
use Rattle.vv_gate.specs.Whole.{IsName, IsPlaced, idents_of, idents_of_option, idents_of_term, idents_of_assignment}
use Rattle.vv_gate_text.proofs.Elements.{each_front, each_back, each_both, each_weaker, each_of_map, each_of_flat_map, each_in_flat_map}
use Rattle.vv_gate_text.proofs.Mangling.{IsIdentifier-mangled}
use Rattle.vv_gate_text.proofs.ReadNames.{OfIdent, reads_terms, each_filtered}
use Rattle.vv_gate_text.specs.Made.{binary_of, made_assignment, made_idle, made_port, is_idle, module_of}
use Rattle.vv_vast.specs.Grammar.{names_of}
use Rattle.vv_vast.specs.Tree.{names_of_item}
use Rattle.vv_vast.specs.Words.{IsIdentifier}

abbrev Named : Ident → Type 0
Named i = IsName i.text

abbrev pub NamedPort : Port → Type 0
NamedPort p = IsName p.ident.text

module _ (f : GateFile) (placed : IsPlaced f) where
  all_named : AllByRecursion Named (idents_of f)
  all_named = recursion_from_All Named (idents_of f) placed.names

  abbrev heads : List Ident
  heads = f.logic ∷ idents_of_option f.numeric

  abbrev middle : List Ident
  middle = f.entity ∷ flat_map (λ g. g.idents) f.groups

  abbrev tails : List Ident
  tails = f.architecture ∷ f.of ∷ flat_map idents_of_assignment f.assignments

  middle_named : AllByRecursion Named middle
  middle_named = each_back Named heads middle (each_front Named (heads ++ middle) tails all_named)

  pub entity_named : IsName f.entity.text
  entity_named = middle_named.0

  pub ports_named : AllByRecursion NamedPort (ports_of f)
  ports_named =
      each_of_flat_map NamedPort ports_of_group f.groups
      (each_weaker (λ (g : Group). AllByRecursion Named g.idents) (λ g. AllByRecursion NamedPort (ports_of_group g))
      (λ g h. each_of_map NamedPort (λ (i : Ident). record { ident = i; input = g.input }) g.idents h) f.groups
      (each_in_flat_map Named (λ (g : Group). g.idents) f.groups middle_named.1))

  pub assignments_named : AllByRecursion (λ a. AllByRecursion Named (idents_of_assignment a)) f.assignments
  assignments_named = each_in_flat_map Named idents_of_assignment f.assignments (each_back Named (heads ++ middle) tails all_named).1.1

  legal : (i : Ident) → Named i → OfIdent IsIdentifier i
  legal i h = IsIdentifier-mangled i.text h

  assignment_legal : (a : Assignment) → AllByRecursion Named (idents_of_assignment a) → AllByRecursion IsIdentifier (names_of_item (made_assignment a))
  assignment_legal a h =
      (legal a.target h.0, reads_terms IsIdentifier (binary_of a.operator) a.terms (each_weaker Named (OfIdent IsIdentifier) legal (flat_map idents_of_term a.terms) h.1))

  idle_legal : (p : Port) → NamedPort p → AllByRecursion IsIdentifier (names_of_item (made_idle p))
  idle_legal p h = (IsIdentifier-mangled p.ident.text h, tt)

  pub names_legal : AllByRecursion IsIdentifier (names_of (module_of f))
  names_legal = (
    IsIdentifier-mangled f.entity.text entity_named,
    each_both IsIdentifier (map (λ p. p.name) (map made_port (ports_of f))) (flat_map names_of_item (module_of f).items)
        (each_of_map IsIdentifier (λ p. p.name) (map made_port (ports_of f)) (each_of_map (λ p. IsIdentifier p.name) made_port (ports_of f)
        (each_weaker NamedPort (λ p. IsIdentifier (made_port p).name) (λ p h. IsIdentifier-mangled p.ident.text h) (ports_of f) ports_named)))
        (each_of_flat_map IsIdentifier names_of_item (module_of f).items
        (each_both (λ i. AllByRecursion IsIdentifier (names_of_item i)) (map made_assignment f.assignments) (map made_idle (filter (is_idle f) (ports_of f)))
        (each_of_map (λ i. AllByRecursion IsIdentifier (names_of_item i)) made_assignment f.assignments
        (each_weaker (λ a. AllByRecursion Named (idents_of_assignment a)) (λ a. AllByRecursion IsIdentifier (names_of_item (made_assignment a))) assignment_legal f.assignments assignments_named))
        (each_of_map (λ i. AllByRecursion IsIdentifier (names_of_item i)) made_idle (filter (is_idle f) (ports_of f))
        (each_filtered (λ p. AllByRecursion IsIdentifier (names_of_item (made_idle p))) (is_idle f) (ports_of f)
        (each_weaker NamedPort (λ p. AllByRecursion IsIdentifier (names_of_item (made_idle p))) idle_legal (ports_of f) ports_named))))),
  )
