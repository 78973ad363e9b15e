-- Phrases are told apart by computing.
use Rattle.std.proofs.Common.{◌≡◌, ℕ, Bool, true, false, ◌&&◌, nat_eq, List, [], ◌∷◌, get_or, refl, sym, ap, ◌∙◌}
use Rattle.std.proofs.lemmas.Bool.{false≢true, and_parts, eqb-true}
use denote.Enum.Bare.{tag_one}
use denote.Enum.Declared.{tag_of}
use Rattle.vv_vlex.specs.contracts.word.Word as w
use Rattle.vv_vlex.specs.contracts.sign.Sign as s
use Rattle.vv_grammar.specs.contracts.form.Form as f
use Rattle.vv_grammar.specs.declared.terminal.Terminal.{Terminal}
use Rattle.vv_grammar.specs.declared.terminal.Terminal.TheVariants as the
use Rattle.vv_grammar.specs.Terminals.{same}
use Rattle.vv_productions.specs.Phrases.{
  Production,
  design_unit,
  context_item,
  use_clause,
  selected_name,
  library_unit,
  entity,
  generics,
  ports,
  port,
  architecture,
  package_declaration,
  package_body,
  constant_interface,
  common_declaration,
  declaration,
  process_declaration,
  type_declaration,
  enumeration_literal,
  subtype_declaration,
  constant_declaration,
  component,
  function_specification,
  function_declaration,
  function_body,
  attribute,
  entity_designator,
  entity_class,
  mark,
  subtype_indication,
  range,
  discrete_range,
  concurrent_statement,
  plain_concurrent_statement,
  process,
  sensitivity,
  conditional_assignment,
  selected_assignment,
  instance,
  association,
  actual_part,
  generate,
  generate_rest,
  statement,
  plain_statement,
  assertion,
  if_statement,
  case_statement,
  loop,
  loop_body,
  choices,
  choice,
  expression,
  relation,
  shift_expression,
  simple_expression,
  term,
  factor,
  primary,
  parenthesis,
  aggregate,
  element,
  bound_element,
  name,
  name_part,
  argument,
  Phrase,
  skip,
  keep,
  make,
  rule,
  ◌▸◌,
  ◌or◌,
  option,
  many,
}

pub same-is : (a b : Terminal) → same a b ≡ true → a ≡ b
same-is the.Id the.Id h = refl
same-is the.Int the.Int h = refl
same-is the.Char the.Char h = refl
same-is the.Str the.Str h = refl
same-is the.BitStr the.BitStr h = refl
same-is the.End the.End h = refl
same-is (the.Key a) (the.Key b) h = ap the.Key (tag_one w.the_type tt a b (eqb-true (tag_of w.the_type a) (tag_of w.the_type b) h))
same-is (the.Mark a) (the.Mark b) h = ap the.Mark (tag_one s.the_type tt a b (eqb-true (tag_of s.the_type a) (tag_of s.the_type b) h))
same-is _ _ h = absurd (false≢true h)

-- the productions in their order
abbrev pub in_order : List Production
in_order = design_unit ∷ context_item ∷ use_clause ∷ selected_name ∷ library_unit ∷ entity ∷ generics ∷ ports ∷ port ∷ architecture ∷ package_declaration ∷ package_body ∷ constant_interface ∷ common_declaration ∷ declaration ∷ process_declaration ∷ type_declaration ∷ enumeration_literal ∷ subtype_declaration ∷ constant_declaration ∷ component ∷ function_specification ∷ function_declaration ∷ function_body ∷ attribute ∷ entity_designator ∷ entity_class ∷ mark ∷ subtype_indication ∷ range ∷ discrete_range ∷ concurrent_statement ∷ plain_concurrent_statement ∷ process ∷ sensitivity ∷ conditional_assignment ∷ selected_assignment ∷ instance ∷ association ∷ actual_part ∷ generate ∷ generate_rest ∷ statement ∷ plain_statement ∷ assertion ∷ if_statement ∷ case_statement ∷ loop ∷ loop_body ∷ choices ∷ choice ∷ expression ∷ relation ∷ shift_expression ∷ simple_expression ∷ term ∷ factor ∷ primary ∷ parenthesis ∷ aggregate ∷ element ∷ bound_element ∷ name ∷ name_part ∷ argument ∷ []

abbrev pub number : Production → ℕ
number design_unit = 0
number context_item = 1
number use_clause = 2
number selected_name = 3
number library_unit = 4
number entity = 5
number generics = 6
number ports = 7
number port = 8
number architecture = 9
number package_declaration = 10
number package_body = 11
number constant_interface = 12
number common_declaration = 13
number declaration = 14
number process_declaration = 15
number type_declaration = 16
number enumeration_literal = 17
number subtype_declaration = 18
number constant_declaration = 19
number component = 20
number function_specification = 21
number function_declaration = 22
number function_body = 23
number attribute = 24
number entity_designator = 25
number entity_class = 26
number mark = 27
number subtype_indication = 28
number range = 29
number discrete_range = 30
number concurrent_statement = 31
number plain_concurrent_statement = 32
number process = 33
number sensitivity = 34
number conditional_assignment = 35
number selected_assignment = 36
number instance = 37
number association = 38
number actual_part = 39
number generate = 40
number generate_rest = 41
number statement = 42
number plain_statement = 43
number assertion = 44
number if_statement = 45
number case_statement = 46
number loop = 47
number loop_body = 48
number choices = 49
number choice = 50
number expression = 51
number relation = 52
number shift_expression = 53
number simple_expression = 54
number term = 55
number factor = 56
number primary = 57
number parenthesis = 58
number aggregate = 59
number element = 60
number bound_element = 61
number name = 62
number name_part = 63
number argument = 64

numbered : (p : Production) → get_or in_order (number p) design_unit ≡ p
numbered design_unit = refl
numbered context_item = refl
numbered use_clause = refl
numbered selected_name = refl
numbered library_unit = refl
numbered entity = refl
numbered generics = refl
numbered ports = refl
numbered port = refl
numbered architecture = refl
numbered package_declaration = refl
numbered package_body = refl
numbered constant_interface = refl
numbered common_declaration = refl
numbered declaration = refl
numbered process_declaration = refl
numbered type_declaration = refl
numbered enumeration_literal = refl
numbered subtype_declaration = refl
numbered constant_declaration = refl
numbered component = refl
numbered function_specification = refl
numbered function_declaration = refl
numbered function_body = refl
numbered attribute = refl
numbered entity_designator = refl
numbered entity_class = refl
numbered mark = refl
numbered subtype_indication = refl
numbered range = refl
numbered discrete_range = refl
numbered concurrent_statement = refl
numbered plain_concurrent_statement = refl
numbered process = refl
numbered sensitivity = refl
numbered conditional_assignment = refl
numbered selected_assignment = refl
numbered instance = refl
numbered association = refl
numbered actual_part = refl
numbered generate = refl
numbered generate_rest = refl
numbered statement = refl
numbered plain_statement = refl
numbered assertion = refl
numbered if_statement = refl
numbered case_statement = refl
numbered loop = refl
numbered loop_body = refl
numbered choices = refl
numbered choice = refl
numbered expression = refl
numbered relation = refl
numbered shift_expression = refl
numbered simple_expression = refl
numbered term = refl
numbered factor = refl
numbered primary = refl
numbered parenthesis = refl
numbered aggregate = refl
numbered element = refl
numbered bound_element = refl
numbered name = refl
numbered name_part = refl
numbered argument = refl

pub number-is : (p q : Production) → nat_eq (number p) (number q) ≡ true → p ≡ q
number-is p q h = sym (numbered p) ∙ ap (λ (n : ℕ). get_or in_order n design_unit) (eqb-true (number p) (number q) h) ∙ numbered q

abbrev pub eq : Phrase → Phrase → Bool
eq (skip a) (skip b) = same a b
eq (keep a) (keep b) = same a b
eq (make a) (make b) = nat_eq (tag_of f.the_type a) (tag_of f.the_type b)
eq (rule a) (rule b) = nat_eq (number a) (number b)
eq (a ▸ b) (c ▸ d) = let r = eq b d in eq a c && r
eq (a or b) (c or d) = let r = eq b d in eq a c && r
eq (option a) (option b) = eq a b
eq (many a) (many b) = eq a b
eq _ _ = false

pub eq-is : (a b : Phrase) → eq a b ≡ true → a ≡ b
eq-is (skip a) (skip b) h = ap skip (same-is a b h)
eq-is (keep a) (keep b) h = ap keep (same-is a b h)
eq-is (make a) (make b) h = ap make (tag_one f.the_type tt a b (eqb-true (tag_of f.the_type a) (tag_of f.the_type b) h))
eq-is (rule a) (rule b) h = ap rule (number-is a b h)
eq-is (a ▸ b) (c ▸ d) h = let x = and_parts (eq a c) (eq b d) h in ap (λ (z : Phrase). z ▸ b) (eq-is a c x.0) ∙ ap (λ (z : Phrase). c ▸ z) (eq-is b d x.1)
eq-is (a or b) (c or d) h = let x = and_parts (eq a c) (eq b d) h in ap (λ (z : Phrase). z or b) (eq-is a c x.0) ∙ ap (λ (z : Phrase). c or z) (eq-is b d x.1)
eq-is (option a) (option b) h = ap option (eq-is a b h)
eq-is (many a) (many b) h = ap many (eq-is a b h)
eq-is _ _ h = absurd (false≢true h)
