-- The phrases of the grammar as it is written, with what is made of the parts that were read.
use Rattle.vv_vlex.specs.declared.sign.Sign.{Sign}
use Rattle.vv_vlex.specs.declared.sign.Sign.TheVariants as sign
use Rattle.vv_vlex.specs.declared.word.Word.{Word}
use Rattle.vv_grammar.specs.declared.form.Form.{Form}
use Rattle.vv_grammar.specs.declared.form.Form.TheVariants as form
use Rattle.vv_grammar.specs.declared.terminal.Terminal.{Terminal}
use Rattle.vv_grammar.specs.declared.terminal.Terminal.TheVariants as the

-- The names of the productions.
pub data Production : Type 0 where
  design_unit : Production
  context_item : Production
  use_clause : Production
  selected_name : Production
  library_unit : Production
  entity : Production
  generics : Production
  ports : Production
  port : Production
  architecture : Production
  package_declaration : Production
  package_body : Production
  -- a generic or a parameter
  constant_interface : Production
  common_declaration : Production
  declaration : Production
  process_declaration : Production
  type_declaration : Production
  enumeration_literal : Production
  subtype_declaration : Production
  constant_declaration : Production
  component : Production
  function_specification : Production
  function_declaration : Production
  function_body : Production
  attribute : Production
  entity_designator : Production
  entity_class : Production
  mark : Production
  subtype_indication : Production
  range : Production
  discrete_range : Production
  concurrent_statement : Production
  plain_concurrent_statement : Production
  process : Production
  sensitivity : Production
  conditional_assignment : Production
  selected_assignment : Production
  instance : Production
  association : Production
  actual_part : Production
  generate : Production
  generate_rest : Production
  statement : Production
  plain_statement : Production
  assertion : Production
  if_statement : Production
  case_statement : Production
  loop : Production
  loop_body : Production
  choices : Production
  choice : Production
  expression : Production
  relation : Production
  shift_expression : Production
  simple_expression : Production
  term : Production
  factor : Production
  primary : Production
  parenthesis : Production
  aggregate : Production
  element : Production
  bound_element : Production
  name : Production
  name_part : Production
  argument : Production

infixr 40 ◌▸◌
infixr 30 ◌or◌
pub data Phrase : Type 0 where
  -- a token that leaves nothing
  skip : Terminal → Phrase
  -- a token that is a part
  keep : Terminal → Phrase
  -- something is made of the parts that were read last
  make : Form → Phrase
  rule : Production → Phrase
  -- one behind the other
  ◌▸◌ : Phrase → Phrase → Phrase
  ◌or◌ : Phrase → Phrase → Phrase
  -- this or nothing
  option : Phrase → Phrase
  -- this any number of times
  many : Phrase → Phrase

abbrev pub skip_word : Word → Phrase
skip_word w = skip (the.Key w)

abbrev pub keep_word : Word → Phrase
keep_word w = keep (the.Key w)

abbrev pub skip_sign : Sign → Phrase
skip_sign s = skip (the.Mark s)

abbrev pub keep_sign : Sign → Phrase
keep_sign s = keep (the.Mark s)

abbrev pub id : Phrase
id = keep the.Id

abbrev pub comma : Phrase
comma = skip_sign sign.Comma

abbrev pub semicolon : Phrase
semicolon = skip_sign sign.Semicolon

abbrev pub colon : Phrase
colon = skip_sign sign.Colon

abbrev pub dot : Phrase
dot = skip_sign sign.Dot

abbrev pub arrow : Phrase
arrow = skip_sign sign.Arrow

abbrev pub in_parentheses : Phrase → Phrase
in_parentheses a = skip_sign sign.Open ▸ a ▸ skip_sign sign.Close

-- a part that may be left out
abbrev pub or_absent : Phrase → Phrase
or_absent a = a or make form.Absent

-- a list that may be left out
abbrev pub or_empty : Phrase → Phrase
or_empty a = a or make form.Empty

-- a list of any number of parts
abbrev pub each : Phrase → Phrase
each a = make form.Empty ▸ many (a ▸ make form.Add)

-- a list of one part or more, with something between them
abbrev pub some_of : Phrase → Phrase → Phrase
some_of a between = a ▸ make form.One ▸ many (between ▸ a ▸ make form.Add)

-- the same, where the list is made before its first part is read
abbrev pub list_of : Phrase → Phrase → Phrase
list_of a between = make form.Empty ▸ a ▸ make form.Add ▸ many (between ▸ a ▸ make form.Add)
