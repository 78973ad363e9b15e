-- The grammar by its productions, one definition each (IEEE 1076-1993, annex A, for the subset that is read).
use Rattle.vv_vlex.specs.declared.sign.Sign.TheVariants as sign
use Rattle.vv_vlex.specs.declared.word.Word.TheVariants as word
use Rattle.vv_grammar.specs.declared.edition.Edition.{Edition}
use Rattle.vv_grammar.specs.declared.edition.Edition.TheVariants as edition
use Rattle.vv_grammar.specs.declared.form.Form.TheVariants as form
use Rattle.vv_grammar.specs.declared.terminal.Terminal.TheVariants as the
use Rattle.vv_productions.specs.Phrases.{Production, design_unit, context_item, use_clause, selected_name, library_unit, entity, generics, ports, port, architecture, package_declaration, package_body, constant_interface, common_declaration, declaration, process_declaration, type_declaration, enumeration_literal, subtype_declaration, constant_declaration, component, function_specification, function_declaration, function_body, attribute, entity_designator, entity_class, mark, subtype_indication, range, discrete_range, concurrent_statement, plain_concurrent_statement, process, sensitivity, conditional_assignment, selected_assignment, instance, association, actual_part, generate, generate_rest, statement, plain_statement, assertion, if_statement, case_statement, loop, loop_body, choices, choice, expression, relation, shift_expression, simple_expression, term, factor, primary, parenthesis, aggregate, element, bound_element, name, name_part, argument, Phrase, keep, make, rule, ◌▸◌, ◌or◌, option, many, skip_word, keep_word, skip_sign, keep_sign, id, comma, semicolon, colon, dot, arrow, in_parentheses, or_absent, or_empty, each, some_of, list_of}

-- the name that may stand at an end
abbrev pub end_name : Phrase
end_name = or_absent id

-- an initial value
abbrev pub default : Phrase
default = or_absent (skip_sign sign.Becomes ▸ rule expression)

-- an identifier behind a dot
abbrev pub dotted_part : Phrase
dotted_part = dot ▸ id ▸ make form.SelectedPart

-- identifiers behind dots, as parts of a name or a mark
abbrev pub more_dotted : Phrase
more_dotted = many (dotted_part ▸ make form.Add)

abbrev pub dotted : Phrase
dotted = make form.Empty ▸ more_dotted

abbrev pub identifiers : Phrase
identifiers = some_of id comma

-- the names, the subtype and the initial value of a declaration of objects
abbrev pub objects : Phrase
objects = identifiers ▸ colon ▸ rule subtype_indication ▸ default ▸ semicolon

abbrev pub enumeration : Phrase
enumeration = keep_sign sign.Open ▸ some_of (rule enumeration_literal) comma ▸ skip_sign sign.Close ▸ make form.Enumeration

abbrev pub array_index : Phrase
array_index =
    rule mark ▸ skip_word word.Range ▸ skip_sign sign.Unconstrained ▸ make form.Unbounded
    or rule discrete_range ▸ make form.Bounded

abbrev pub array : Phrase
array = keep_word word.Array ▸ in_parentheses array_index ▸ skip_word word.Of ▸ rule subtype_indication ▸ make form.Array

abbrev pub constraint : Phrase
constraint =
    in_parentheses (rule discrete_range) ▸ make form.IndexConstraint
    or skip_word word.Range ▸ rule range ▸ make form.RangeConstraint

abbrev pub associations : Phrase
associations = some_of (rule association) comma

-- the value of an attribute for some named entities of a class
abbrev pub attribute_value : Phrase
attribute_value = skip_word word.Of ▸ some_of (rule entity_designator) comma ▸ colon ▸ rule entity_class ▸ skip_word word.Is ▸ rule expression

abbrev pub component_instance : Phrase
component_instance = option (skip_word word.Component) ▸ rule mark ▸ make form.Component

abbrev pub entity_instance : Phrase
entity_instance = keep_word word.Entity ▸ rule mark ▸ or_absent (in_parentheses id) ▸ make form.EntityInstance

abbrev pub generic_map : Phrase
generic_map = or_empty (skip_word word.Generic ▸ skip_word word.Map ▸ in_parentheses associations)

abbrev pub port_map : Phrase
port_map = or_empty (skip_word word.Port ▸ skip_word word.Map ▸ in_parentheses associations)

-- two elements without choices at the start of an aggregate
abbrev pub two_elements : Phrase
two_elements = rule expression ▸ make form.Element ▸ make form.One ▸ comma ▸ rule element ▸ make form.Add

abbrev pub severity : Phrase
severity = or_absent (skip_word word.Severity ▸ rule expression)

abbrev pub condition : Phrase
condition = or_absent (skip_word word.When ▸ rule expression)

abbrev pub case_arm : Phrase
case_arm = skip_word word.When ▸ rule choices ▸ arrow ▸ each (rule statement) ▸ make form.CaseArm

-- a value with its choices
abbrev pub selection : Phrase
selection = rule expression ▸ skip_word word.When ▸ rule choices ▸ make form.Selection

-- behind a value where a range can stand
abbrev pub range_end : Phrase
range_end = (keep_word word.To or keep_word word.Downto) ▸ rule expression ▸ make form.Range or make form.Only

-- operands that one operator joins, behind the first one
abbrev pub operands : Phrase → Phrase → Phrase
operands operator a = operator ▸ a ▸ make form.Operand ▸ make form.One ▸ many (operator ▸ a ▸ make form.Operand ▸ make form.Add)

-- the only operand behind the first one
abbrev pub operand : Phrase → Phrase → Phrase
operand operator a = operator ▸ a ▸ make form.Operand ▸ make form.One

-- the relations behind the first one
abbrev pub combined : Phrase
combined = option (
    operands (keep_word word.And) (rule relation) ▸ make form.Logic
    or operands (keep_word word.Or) (rule relation) ▸ make form.Logic
    or operands (keep_word word.Xor) (rule relation) ▸ make form.Logic
    or operands (keep_word word.Xnor) (rule relation) ▸ make form.Logic
    or operand (keep_word word.Nand or keep_word word.Nor) (rule relation) ▸ make form.Logic)

abbrev pub compared : Phrase
compared = option (
    (keep_sign sign.Equal or keep_sign sign.NotEqual or keep_sign sign.Less or keep_sign sign.LessEqual or keep_sign sign.Greater or keep_sign sign.GreaterEqual)
    ▸ rule shift_expression ▸ make form.Relation)

abbrev pub shifted : Phrase
shifted = option (
    (keep_word word.Sll or keep_word word.Srl or keep_word word.Sla or keep_word word.Sra or keep_word word.Rol or keep_word word.Ror)
    ▸ rule simple_expression ▸ make form.Shift)

abbrev pub terms : Phrase
terms = option (operands (keep_sign sign.Plus or keep_sign sign.Minus or keep_sign sign.Ampersand) (rule term) ▸ make form.Sum)

abbrev pub factors : Phrase
factors = option (operands (keep_sign sign.Star or keep_sign sign.Slash or keep_word word.Mod or keep_word word.Rem) (rule factor) ▸ make form.Product)

abbrev pub exponent : Phrase
exponent = option (skip_sign sign.StarStar ▸ rule primary ▸ make form.Power)

-- the sensitivity list of a process: in the edition of 2008 it can be `all` (IEEE 1076-2008, clause 11.3)
abbrev pub sensitivity_of : Edition → Phrase
sensitivity_of edition.Vhdl93 = some_of (rule name) comma ▸ make form.Listed
sensitivity_of edition.Vhdl08 = some_of (rule name) comma ▸ make form.Listed or keep_word word.All ▸ make form.AllSignals

-- Units. A file is any number of them.
abbrev pub definition : Edition → Production → Phrase
definition e design_unit =
    rule context_item ▸ make form.One ▸ many (rule context_item ▸ make form.Add) ▸ rule library_unit ▸ make form.Unit
    or rule library_unit ▸ make form.Bare
definition e context_item =
    keep_word word.Library ▸ identifiers ▸ semicolon ▸ make form.Library
    or rule use_clause ▸ make form.UseContext
definition e use_clause = keep_word word.Use ▸ some_of (rule selected_name) comma ▸ semicolon ▸ make form.Use
definition e selected_name = id ▸ dot ▸ id ▸ or_absent (dot ▸ (id or keep the.Str or keep_word word.All)) ▸ make form.SelectedName
definition e library_unit = rule entity or rule architecture or rule package_declaration or rule package_body
definition e entity =
    keep_word word.Entity ▸ id ▸ skip_word word.Is ▸ or_empty (rule generics) ▸ or_empty (rule ports)
    ▸ skip_word word.End ▸ option (skip_word word.Entity) ▸ end_name ▸ semicolon ▸ make form.Entity
definition e generics = skip_word word.Generic ▸ in_parentheses (some_of (rule constant_interface) semicolon) ▸ semicolon
definition e constant_interface =
    option (skip_word word.Constant) ▸ identifiers ▸ colon ▸ option (skip_word word.In) ▸ rule subtype_indication ▸ default ▸ make form.ConstantInterface
definition e ports = skip_word word.Port ▸ in_parentheses (some_of (rule port) semicolon) ▸ semicolon
definition e port =
    option (skip_word word.Signal) ▸ identifiers ▸ colon ▸ or_absent (keep_word word.In or keep_word word.Out or keep_word word.Inout)
    ▸ rule subtype_indication ▸ default ▸ make form.PortInterface
definition e architecture =
    keep_word word.Architecture ▸ id ▸ skip_word word.Of ▸ id ▸ skip_word word.Is ▸ each (rule declaration)
    ▸ skip_word word.Begin ▸ each (rule concurrent_statement)
    ▸ skip_word word.End ▸ option (skip_word word.Architecture) ▸ end_name ▸ semicolon ▸ make form.Architecture
definition e package_declaration =
    keep_word word.Package ▸ id ▸ skip_word word.Is ▸ each (rule common_declaration or rule component)
    ▸ skip_word word.End ▸ option (skip_word word.Package) ▸ end_name ▸ semicolon ▸ make form.Package
definition e package_body =
    keep_word word.Package ▸ skip_word word.Body ▸ id ▸ skip_word word.Is ▸ each (rule common_declaration or rule function_body)
    ▸ skip_word word.End ▸ option (skip_word word.Package ▸ skip_word word.Body) ▸ end_name ▸ semicolon ▸ make form.PackageBody
-- Declarations.
definition e common_declaration =
    rule type_declaration or rule subtype_declaration or rule constant_declaration or rule function_declaration or rule attribute
    or rule use_clause ▸ make form.UseDeclaration
definition e declaration =
    rule common_declaration or rule function_body or rule component
    or keep_word word.Signal ▸ objects ▸ make form.Signal
definition e process_declaration =
    rule common_declaration or rule function_body
    or keep_word word.Variable ▸ objects ▸ make form.Variable
definition e type_declaration = keep_word word.Type ▸ id ▸ skip_word word.Is ▸ (enumeration or array) ▸ semicolon ▸ make form.Type
definition e enumeration_literal = id or keep the.Char
definition e subtype_declaration =
    keep_word word.Subtype ▸ id ▸ skip_word word.Is ▸ rule subtype_indication ▸ semicolon ▸ make form.SubtypeDeclaration
definition e constant_declaration = keep_word word.Constant ▸ objects ▸ make form.Constant
definition e component =
    keep_word word.Component ▸ id ▸ option (skip_word word.Is) ▸ or_empty (rule generics) ▸ or_empty (rule ports)
    ▸ skip_word word.End ▸ skip_word word.Component ▸ end_name ▸ semicolon ▸ make form.ComponentDeclaration
definition e function_specification =
    (keep_word word.Pure ▸ skip_word word.Function or keep_word word.Function) ▸ (id or keep the.Str)
    ▸ or_empty (in_parentheses (some_of (rule constant_interface) semicolon)) ▸ skip_word word.Return ▸ rule mark ▸ make form.FunctionSpecification
definition e function_declaration = rule function_specification ▸ semicolon ▸ make form.FunctionDeclaration
definition e function_body =
    rule function_specification ▸ skip_word word.Is ▸ each (rule process_declaration) ▸ skip_word word.Begin ▸ each (rule statement)
    ▸ skip_word word.End ▸ option (skip_word word.Function) ▸ or_absent (id or keep the.Str) ▸ semicolon ▸ make form.FunctionBody
definition e attribute =
    keep_word word.Attribute ▸ id ▸ colon ▸ rule mark ▸ semicolon ▸ make form.AttributeDeclaration
    or keep_word word.Attribute ▸ id ▸ attribute_value ▸ semicolon ▸ make form.AttributeSpecification
definition e entity_designator = id or keep the.Char or keep the.Str or keep_word word.Others or keep_word word.All
definition e entity_class =
    keep_word word.Entity or keep_word word.Architecture or keep_word word.Signal or keep_word word.Variable or keep_word word.Constant
    or keep_word word.Type or keep_word word.Subtype or keep_word word.Component or keep_word word.Label or keep_word word.Function or keep_word word.Package
definition e mark = id ▸ dotted ▸ make form.Mark
definition e subtype_indication = rule mark ▸ or_absent constraint ▸ make form.Subtype
definition e range = rule expression ▸ range_end
definition e discrete_range =
    rule range ▸ make form.Discrete
    or rule mark ▸ skip_word word.Range ▸ rule range ▸ make form.MarkRange
-- Concurrent statements.
definition e concurrent_statement =
    rule plain_concurrent_statement
    or id ▸ colon ▸ (rule plain_concurrent_statement or rule instance or rule generate) ▸ make form.Labelled
definition e plain_concurrent_statement =
    rule process or rule conditional_assignment or rule selected_assignment
    or rule assertion ▸ make form.ConcurrentAssertion
definition e process =
    keep_word word.Process ▸ (in_parentheses (rule sensitivity) or make form.Unlisted) ▸ option (skip_word word.Is) ▸ each (rule process_declaration)
    ▸ skip_word word.Begin ▸ each (rule statement)
    ▸ skip_word word.End ▸ skip_word word.Process ▸ end_name ▸ semicolon ▸ make form.Process
definition e sensitivity = sensitivity_of e
definition e conditional_assignment =
    rule name ▸ skip_sign sign.LessEqual ▸ make form.Empty ▸ rule expression
    ▸ many (skip_word word.When ▸ rule expression ▸ make form.ConditionalWaveform ▸ make form.Add ▸ skip_word word.Else ▸ rule expression)
    ▸ (skip_word word.When ▸ rule expression ▸ make form.ConditionalWaveform or make form.Waveform) ▸ make form.Add
    ▸ semicolon ▸ make form.Conditional
definition e selected_assignment =
    keep_word word.With ▸ rule expression ▸ skip_word word.Select ▸ rule name ▸ skip_sign sign.LessEqual ▸ list_of selection comma ▸ semicolon ▸ make form.Select
definition e instance = (component_instance or entity_instance) ▸ generic_map ▸ port_map ▸ semicolon ▸ make form.Instance
definition e association =
    id ▸ arrow ▸ rule actual_part ▸ make form.NamedAssociation
    or rule actual_part ▸ make form.PositionalAssociation
definition e actual_part =
    rule expression ▸ make form.Given
    or keep_word word.Open ▸ make form.Open
definition e generate =
    keep_word word.For ▸ id ▸ skip_word word.In ▸ rule discrete_range ▸ rule generate_rest ▸ make form.ForGenerate
    or keep_word word.If ▸ rule expression ▸ rule generate_rest ▸ make form.IfGenerate
definition e generate_rest =
    skip_word word.Generate ▸ or_empty (each (rule declaration) ▸ skip_word word.Begin) ▸ each (rule concurrent_statement)
    ▸ skip_word word.End ▸ skip_word word.Generate ▸ end_name ▸ semicolon
-- Sequential statements.
definition e statement =
    rule plain_statement
    or id ▸ colon ▸ rule plain_statement ▸ make form.LabelledStatement
definition e plain_statement =
    rule name ▸ (keep_sign sign.LessEqual or keep_sign sign.Becomes) ▸ rule expression ▸ semicolon ▸ make form.Assignment
    or rule if_statement or rule case_statement or rule loop
    or keep_word word.Exit ▸ or_absent id ▸ condition ▸ semicolon ▸ make form.Exit
    or keep_word word.Next ▸ or_absent id ▸ condition ▸ semicolon ▸ make form.Next
    or keep_word word.Return ▸ rule expression ▸ semicolon ▸ make form.Return
    or keep_word word.Null ▸ semicolon ▸ make form.Null
    or keep_word word.Wait ▸ skip_word word.Until ▸ rule expression ▸ semicolon ▸ make form.Wait
    or rule assertion ▸ make form.SequentialAssertion
    or keep_word word.Report ▸ rule expression ▸ severity ▸ semicolon ▸ make form.ReportStatement
definition e assertion =
    keep_word word.Assert ▸ rule expression ▸ or_absent (skip_word word.Report ▸ rule expression) ▸ severity ▸ semicolon ▸ make form.Assertion
definition e if_statement =
    keep_word word.If ▸ rule expression ▸ skip_word word.Then ▸ each (rule statement) ▸ make form.IfArm ▸ make form.One
    ▸ many (skip_word word.Elsif ▸ rule expression ▸ skip_word word.Then ▸ each (rule statement) ▸ make form.IfArm ▸ make form.Add)
    ▸ or_absent (skip_word word.Else ▸ each (rule statement)) ▸ skip_word word.End ▸ skip_word word.If ▸ end_name ▸ semicolon ▸ make form.If
definition e case_statement =
    keep_word word.Case ▸ rule expression ▸ skip_word word.Is ▸ make form.Empty ▸ case_arm ▸ make form.Add ▸ many (case_arm ▸ make form.Add)
    ▸ skip_word word.End ▸ skip_word word.Case ▸ end_name ▸ semicolon ▸ make form.Case
definition e loop =
    keep_word word.For ▸ id ▸ skip_word word.In ▸ rule discrete_range ▸ skip_word word.Loop ▸ rule loop_body ▸ make form.For
    or keep_word word.While ▸ rule expression ▸ skip_word word.Loop ▸ rule loop_body ▸ make form.While
    or keep_word word.Loop ▸ rule loop_body ▸ make form.Loop
definition e loop_body = each (rule statement) ▸ skip_word word.End ▸ skip_word word.Loop ▸ end_name ▸ semicolon
definition e choices = some_of (rule choice) (skip_sign sign.Bar)
definition e choice = rule range ▸ make form.Single or keep_word word.Others ▸ make form.Others
-- Expressions.
definition e expression = rule relation ▸ combined
definition e relation = rule shift_expression ▸ compared
definition e shift_expression = rule simple_expression ▸ shifted
definition e simple_expression = ((keep_sign sign.Plus or keep_sign sign.Minus) ▸ rule term ▸ make form.Signed or rule term) ▸ terms
definition e term = rule factor ▸ factors
definition e factor =
    rule primary ▸ exponent
    or keep_word word.Abs ▸ rule primary ▸ make form.Abs
    or keep_word word.Not ▸ rule primary ▸ make form.Not
definition e primary =
    (keep the.Int or keep the.Char or keep the.Str or keep the.BitStr) ▸ make form.Literal
    or rule name
    or rule parenthesis
    or rule aggregate
definition e parenthesis = keep_sign sign.Open ▸ rule expression ▸ skip_sign sign.Close ▸ make form.Parentheses
-- An aggregate has two elements or a choice.
definition e aggregate =
    keep_sign sign.Open
    ▸ (rule bound_element ▸ make form.One or two_elements)
    ▸ many (comma ▸ rule element ▸ make form.Add) ▸ skip_sign sign.Close ▸ make form.Aggregate
definition e element = rule bound_element or rule expression ▸ make form.Element
definition e bound_element = rule choices ▸ arrow ▸ rule expression ▸ make form.BoundElement
definition e name = id ▸ dotted ▸ many (rule name_part ▸ make form.Add ▸ more_dotted) ▸ make form.Name
definition e name_part =
    keep_sign sign.Open ▸ some_of (rule argument) comma ▸ skip_sign sign.Close ▸ make form.Arguments
    or keep_sign sign.Tick ▸ (id ▸ make form.Attribute or skip_word word.Range ▸ make form.RangeAttribute)
    or keep_sign sign.Tick ▸ (rule parenthesis or rule aggregate) ▸ make form.Qualified
definition e argument =
    id ▸ arrow ▸ rule range ▸ make form.Named
    or rule range ▸ make form.Positional
