-- What each place of the table stands for: what may still come of a production, one list of phrases for each way in which it may go on.
use Rattle.std.proofs.Common.{ℕ, List, [], ◌∷◌, ◌++◌}
use Rattle.vv_vlex.specs.declared.sign.Sign.TheVariants as sign
use Rattle.vv_vlex.specs.declared.word.Word.TheVariants as word
use Rattle.vv_grammar.specs.declared.edition.Edition.{Edition}
use Rattle.vv_grammar.specs.declared.form.Form.TheVariants as form
use Rattle.vv_grammar.specs.declared.place.Place.{Place}
use Rattle.vv_grammar.specs.declared.place.Place.TheVariants as place
use Rattle.vv_grammar.specs.declared.terminal.Terminal.TheVariants as the
use Rattle.vv_productions.specs.Phrases as p
use Rattle.vv_productions.specs.Phrases.{
  Production,
  Phrase,
  skip,
  keep,
  make,
  rule,
  ◌▸◌,
  ◌or◌,
  option,
  many,
  skip_word,
  keep_word,
  skip_sign,
  keep_sign,
  id,
  comma,
  semicolon,
  colon,
  dot,
  arrow,
  in_parentheses,
  or_absent,
  or_empty,
  each,
  some_of,
  list_of,
}
use Rattle.vv_productions.specs.Productions as q
use Rattle.vv_productions.specs.Depths.{an_expression, a_statement}
use Rattle.vv_productions.proofs.Items.{Way, flat, close}

abbrev pub one : Phrase → List Way
one a = flat a ∷ []

abbrev pub two : Phrase → Phrase → List Way
two a b = flat a ∷ flat b ∷ []

-- more parts of a list
abbrev pub more_of : Phrase → Phrase → Phrase
more_of between a = many (between ▸ a ▸ make form.Add)

abbrev pub more_operands : Phrase → Phrase → Phrase
more_operands operator a = many (operator ▸ a ▸ make form.Operand ▸ make form.Add)

-- parts of a name, of which the first doesn't begin with a dot
abbrev pub other_parts : Phrase
other_parts = many (rule p.name_part ▸ make form.Add ▸ q.more_dotted)

abbrev pub more_parts : Phrase
more_parts = q.more_dotted ▸ other_parts

-- an expression behind its first identifier
abbrev pub behind_identifier : Phrase
behind_identifier = make form.Empty ▸ more_parts ▸ make form.Name ▸ q.exponent ▸ q.factors ▸ q.terms ▸ q.shifted ▸ q.compared ▸ q.combined

-- an expression behind what could be a mark
abbrev pub behind_parts : Phrase
behind_parts = other_parts ▸ make form.Name ▸ q.exponent ▸ q.factors ▸ q.terms ▸ q.shifted ▸ q.compared ▸ q.combined

abbrev pub arguments : Phrase
arguments = some_of (rule p.argument) comma ▸ skip_sign sign.Close ▸ make form.Arguments

abbrev pub attribute_name : Phrase
attribute_name = id ▸ make form.Attribute or skip_word word.Range ▸ make form.RangeAttribute

abbrev pub qualified : Phrase
qualified = (rule p.parenthesis or rule p.aggregate) ▸ make form.Qualified

abbrev pub more_elements : Phrase
more_elements = more_of comma (rule p.element)

abbrev pub aggregate_end : Phrase
aggregate_end = more_elements ▸ skip_sign sign.Close ▸ make form.Aggregate

-- an aggregate behind its parenthesis
abbrev pub aggregate_rest : Phrase
aggregate_rest = (rule p.bound_element ▸ make form.One or q.two_elements) ▸ aggregate_end

-- an element behind its first choices
abbrev pub behind_choices : Phrase
behind_choices = more_of (skip_sign sign.Bar) (rule p.choice) ▸ arrow ▸ rule p.expression ▸ make form.BoundElement

abbrev pub second_element : Phrase
second_element = make form.Element ▸ make form.One ▸ comma ▸ rule p.element ▸ make form.Add ▸ aggregate_end

abbrev pub bound_first : Phrase
bound_first = q.range_end ▸ make form.Single ▸ make form.One ▸ behind_choices ▸ make form.One ▸ aggregate_end

abbrev pub interface_rest : Phrase
interface_rest = make form.One ▸ more_of comma id ▸ colon ▸ option (skip_word word.In) ▸ rule p.subtype_indication ▸ q.default ▸ make form.ConstantInterface

abbrev pub mode : Phrase
mode = or_absent (keep_word word.In or keep_word word.Out or keep_word word.Inout)

abbrev pub port_rest : Phrase
port_rest = make form.One ▸ more_of comma id ▸ colon ▸ mode ▸ rule p.subtype_indication ▸ q.default ▸ make form.PortInterface

abbrev pub unbounded : Phrase
unbounded = skip_sign sign.Unconstrained ▸ make form.Unbounded

abbrev pub bounded : Phrase
bounded = rule p.range ▸ make form.MarkRange ▸ make form.Bounded

abbrev pub function_rest : Phrase
function_rest =
    (id or keep the.Str) ▸ or_empty (in_parentheses (some_of (rule p.constant_interface) semicolon)) ▸ skip_word word.Return ▸ rule p.mark
    ▸ make form.FunctionSpecification

abbrev pub function_body : Phrase
function_body =
    skip_word word.Is ▸ each (rule p.process_declaration) ▸ skip_word word.Begin ▸ each (rule p.statement)
    ▸ skip_word word.End ▸ option (skip_word word.Function) ▸ or_absent (id or keep the.Str) ▸ semicolon ▸ make form.FunctionBody

abbrev pub attribute_specification : Phrase
attribute_specification = q.attribute_value ▸ semicolon ▸ make form.AttributeSpecification

abbrev pub attribute_declaration : Phrase
attribute_declaration = colon ▸ rule p.mark ▸ semicolon ▸ make form.AttributeDeclaration

abbrev pub suffix : Phrase
suffix = id or keep the.Str or keep_word word.All

abbrev pub plain_or_not : Phrase
plain_or_not = rule p.plain_concurrent_statement or rule p.instance or rule p.generate

abbrev pub conditional_rest : Phrase
conditional_rest =
    skip_sign sign.LessEqual ▸ make form.Empty ▸ rule p.expression
    ▸ many (skip_word word.When ▸ rule p.expression ▸ make form.ConditionalWaveform ▸ make form.Add ▸ skip_word word.Else ▸ rule p.expression)
    ▸ (skip_word word.When ▸ rule p.expression ▸ make form.ConditionalWaveform or make form.Waveform) ▸ make form.Add
    ▸ semicolon ▸ make form.Conditional

abbrev pub behind_waveform : Phrase
behind_waveform =
    many (skip_word word.When ▸ rule p.expression ▸ make form.ConditionalWaveform ▸ make form.Add ▸ skip_word word.Else ▸ rule p.expression)
    ▸ (skip_word word.When ▸ rule p.expression ▸ make form.ConditionalWaveform or make form.Waveform) ▸ make form.Add

abbrev pub instance_rest : Phrase
instance_rest = q.generic_map ▸ q.port_map ▸ semicolon ▸ make form.Instance

abbrev pub process_rest : Phrase
process_rest =
    (in_parentheses (rule p.sensitivity) or make form.Unlisted) ▸ option (skip_word word.Is) ▸ each (rule p.process_declaration)
    ▸ skip_word word.Begin ▸ each (rule p.statement)
    ▸ skip_word word.End ▸ skip_word word.Process ▸ q.end_name ▸ semicolon ▸ make form.Process

abbrev pub select_rest : Phrase
select_rest = rule p.expression ▸ skip_word word.Select ▸ rule p.name ▸ skip_sign sign.LessEqual ▸ list_of q.selection comma ▸ semicolon ▸ make form.Select

abbrev pub assertion_rest : Phrase
assertion_rest = rule p.expression ▸ or_absent (skip_word word.Report ▸ rule p.expression) ▸ q.severity ▸ semicolon ▸ make form.Assertion

abbrev pub assignment_rest : Phrase
assignment_rest = (keep_sign sign.LessEqual or keep_sign sign.Becomes) ▸ rule p.expression ▸ semicolon ▸ make form.Assignment

abbrev pub more_if_arms : Phrase
more_if_arms = many (skip_word word.Elsif ▸ rule p.expression ▸ skip_word word.Then ▸ each (rule p.statement) ▸ make form.IfArm ▸ make form.Add)

abbrev pub else_arm : Phrase
else_arm = or_absent (skip_word word.Else ▸ each (rule p.statement))

abbrev pub if_rest : Phrase
if_rest =
    rule p.expression ▸ skip_word word.Then ▸ each (rule p.statement) ▸ make form.IfArm ▸ make form.One
    ▸ more_if_arms ▸ else_arm ▸ skip_word word.End ▸ skip_word word.If ▸ q.end_name ▸ semicolon ▸ make form.If

abbrev pub more_case_arms : Phrase
more_case_arms = many (q.case_arm ▸ make form.Add)

abbrev pub case_rest : Phrase
case_rest =
    rule p.expression ▸ skip_word word.Is ▸ make form.Empty ▸ q.case_arm ▸ make form.Add ▸ more_case_arms
    ▸ skip_word word.End ▸ skip_word word.Case ▸ q.end_name ▸ semicolon ▸ make form.Case

abbrev pub exit_rest : Phrase
exit_rest = or_absent id ▸ q.condition ▸ semicolon

abbrev pub package_rest : Phrase
package_rest =
    id ▸ skip_word word.Is ▸ each (rule p.common_declaration or rule p.component)
    ▸ skip_word word.End ▸ option (skip_word word.Package) ▸ q.end_name ▸ semicolon ▸ make form.Package

abbrev pub body_rest : Phrase
body_rest =
    skip_word word.Body ▸ id ▸ skip_word word.Is ▸ each (rule p.common_declaration or rule p.function_body)
    ▸ skip_word word.End ▸ option (skip_word word.Package ▸ skip_word word.Body) ▸ q.end_name ▸ semicolon ▸ make form.PackageBody

abbrev pub entity_rest : Phrase
entity_rest =
    id ▸ skip_word word.Is ▸ or_empty (rule p.generics) ▸ or_empty (rule p.ports)
    ▸ skip_word word.End ▸ option (skip_word word.Entity) ▸ q.end_name ▸ semicolon ▸ make form.Entity

abbrev pub architecture_rest : Phrase
architecture_rest =
    id ▸ skip_word word.Of ▸ id ▸ skip_word word.Is ▸ each (rule p.declaration)
    ▸ skip_word word.Begin ▸ each (rule p.concurrent_statement)
    ▸ skip_word word.End ▸ option (skip_word word.Architecture) ▸ q.end_name ▸ semicolon ▸ make form.Architecture

abbrev pub component_rest : Phrase
component_rest =
    id ▸ option (skip_word word.Is) ▸ or_empty (rule p.generics) ▸ or_empty (rule p.ports)
    ▸ skip_word word.End ▸ skip_word word.Component ▸ q.end_name ▸ semicolon ▸ make form.ComponentDeclaration

-- What began before, where the production round a place did (b), ends behind it.
abbrev pub ways : Edition → ℕ → Place → List Way
ways e b place.Expression = one (rule p.expression)
ways e b place.ExpressionBehindIdent = (flat behind_identifier ++ (close an_expression b ∷ [])) ∷ []
ways e b place.ExpressionBehindMark = (flat behind_parts ++ (close an_expression b ∷ [])) ∷ []
ways e b place.Combined = one q.combined
ways e b place.MoreAnd = one (more_operands (keep_word word.And) (rule p.relation))
ways e b place.MoreOr = one (more_operands (keep_word word.Or) (rule p.relation))
ways e b place.MoreXor = one (more_operands (keep_word word.Xor) (rule p.relation))
ways e b place.MoreXnor = one (more_operands (keep_word word.Xnor) (rule p.relation))
ways e b place.Relation = one (rule p.relation)
ways e b place.Compared = one q.compared
ways e b place.ShiftExpression = one (rule p.shift_expression)
ways e b place.Shifted = one q.shifted
ways e b place.SimpleExpression = one (rule p.simple_expression)
ways e b place.Terms = one q.terms
ways e b place.MoreTerms = one (more_operands (keep_sign sign.Plus or keep_sign sign.Minus or keep_sign sign.Ampersand) (rule p.term))
ways e b place.Term = one (rule p.term)
ways e b place.Factors = one q.factors
ways e b place.MoreFactors = one (more_operands (keep_sign sign.Star or keep_sign sign.Slash or keep_word word.Mod or keep_word word.Rem) (rule p.factor))
ways e b place.Factor = one (rule p.factor)
ways e b place.Power = one q.exponent
ways e b place.Primary = one (rule p.primary)
ways e b place.NameParts = one more_parts
ways e b place.NamePartsBehindMark = one other_parts
ways e b place.BehindTick = two attribute_name qualified
ways e b place.Argument = one (rule p.argument)
ways e b place.ArgumentBehindIdent = flat (arrow ▸ rule p.range ▸ make form.Named) ∷ (flat behind_identifier ++ (close an_expression b ∷ flat (q.range_end ▸ make form.Positional))) ∷ []
ways e b place.MoreArguments = one (more_of comma (rule p.argument))
ways e b place.Parenthesis = two (rule p.expression ▸ skip_sign sign.Close ▸ make form.Parentheses) aggregate_rest
ways e b place.BehindFirst = flat (skip_sign sign.Close ▸ make form.Parentheses) ∷ flat second_element ∷ flat bound_first ∷ []
ways e b place.AggregateElements = one aggregate_rest
ways e b place.BehindFirstElement = two second_element bound_first
ways e b place.MoreElements = one more_elements
ways e b place.Element = one (rule p.element)
ways e b place.BehindElement = two (make form.Element) (q.range_end ▸ make form.Single ▸ make form.One ▸ behind_choices)
ways e b place.BehindChoices = one behind_choices
ways e b place.Choice = one (rule p.choice)
ways e b place.MoreChoices = one (more_of (skip_sign sign.Bar) (rule p.choice))
ways e b place.Range = one (rule p.range)
ways e b place.RangeEnd = one q.range_end
ways e b place.DiscreteRange = one (rule p.discrete_range)
ways e b place.DiscreteRangeBehindMark =
    (flat behind_parts ++ (close an_expression b ∷ flat (q.range_end ▸ make form.Discrete)))
    ∷ flat (make form.Mark ▸ skip_word word.Range ▸ rule p.range ▸ make form.MarkRange) ∷ []
ways e b place.MarkPart = one q.dotted_part
ways e b place.MoreIdents = one (more_of comma id)
ways e b place.Constraint = one (or_absent q.constraint)
ways e b place.TypeMark = one (rule p.mark)
ways e b place.Name = one (rule p.name)
ways e b place.Choices = one (rule p.choices)
ways e b place.SubtypeIndication = one (rule p.subtype_indication)
ways e b place.Declaration = one (rule p.declaration)
ways e b place.PackageDeclaration = one (rule p.common_declaration or rule p.component)
ways e b place.BodyDeclaration = one (rule p.common_declaration or rule p.function_body)
ways e b place.ProcessDeclaration = one (rule p.process_declaration)
ways e b place.FunctionEnd = flat (semicolon ▸ make form.FunctionDeclaration) ∷ (flat function_body ++ (close a_statement b ∷ [])) ∷ []
ways e b place.FunctionBody = (flat function_body ++ (close a_statement b ∷ [])) ∷ []
ways e b place.Designator = one (id or keep the.Str)
ways e b place.EndFunction = one (option (skip_word word.Function))
ways e b place.EndDesignator = one (or_absent (id or keep the.Str))
ways e b place.Parameters = one (or_empty (in_parentheses (some_of (rule p.constant_interface) semicolon)))
ways e b place.ConstantInterface = one (rule p.constant_interface)
ways e b place.ConstantInterfaceRest = one interface_rest
ways e b place.MoreConstantInterfaces = one (more_of semicolon (rule p.constant_interface))
ways e b place.ModeIn = one (option (skip_word word.In))
ways e b place.Default = one q.default
ways e b place.Generics = one (or_empty (rule p.generics))
ways e b place.Ports = one (or_empty (rule p.ports))
ways e b place.PortInterface = one (rule p.port)
ways e b place.PortInterfaceRest = one port_rest
ways e b place.MorePortInterfaces = one (more_of semicolon (rule p.port))
ways e b place.Mode = one mode
ways e b place.TypeDefinition = one (q.enumeration or q.array)
ways e b place.EnumerationLiteral = one (rule p.enumeration_literal)
ways e b place.MoreEnumerationLiterals = one (more_of comma (rule p.enumeration_literal))
ways e b place.ArrayIndex = one q.array_index
ways e b place.ArrayIndexBehindMark =
    (flat behind_parts ++ (close an_expression b ∷ flat (q.range_end ▸ make form.Discrete ▸ make form.Bounded)))
    ∷ flat (make form.Mark ▸ skip_word word.Range ▸ unbounded) ∷ flat (make form.Mark ▸ skip_word word.Range ▸ bounded) ∷ []
ways e b place.ArrayIndexBehindRange = two unbounded bounded
ways e b place.BehindAttribute = two attribute_declaration attribute_specification
ways e b place.EntityDesignator = one (rule p.entity_designator)
ways e b place.MoreEntityDesignators = one (more_of comma (rule p.entity_designator))
ways e b place.EntityClass = one (rule p.entity_class)
ways e b place.SelectedName = one (rule p.selected_name)
ways e b place.MoreSelectedNames = one (more_of comma (rule p.selected_name))
ways e b place.SelectedSuffix = one (or_absent (dot ▸ suffix))
ways e b place.Suffix = one suffix
ways e b place.TypeRest = one (id ▸ skip_word word.Is ▸ (q.enumeration or q.array) ▸ semicolon ▸ make form.Type)
ways e b place.SubtypeRest = one (id ▸ skip_word word.Is ▸ rule p.subtype_indication ▸ semicolon ▸ make form.SubtypeDeclaration)
ways e b place.ObjectRest = one q.objects
ways e b place.FunctionRest = one function_rest
ways e b place.ComponentRest = one component_rest
ways e b place.AttributeRest = two (id ▸ attribute_declaration) (id ▸ attribute_specification)
ways e b place.Concurrent = one (rule p.concurrent_statement)
ways e b place.ConcurrentBehindIdent = two (colon ▸ plain_or_not ▸ make form.Labelled) (make form.Empty ▸ more_parts ▸ make form.Name ▸ conditional_rest)
ways e b place.LabelledConcurrent = one plain_or_not
ways e b place.ConcurrentBehindMark = two (more_parts ▸ make form.Name ▸ conditional_rest) (q.more_dotted ▸ make form.Mark ▸ make form.Component ▸ instance_rest)
ways e b place.BehindWaveform = one behind_waveform
ways e b place.BehindCondition = [] ∷ flat (skip_word word.Else ▸ rule p.expression ▸ behind_waveform) ∷ []
ways e b place.MoreSelections = one (more_of comma q.selection)
ways e b place.Report = one (or_absent (skip_word word.Report ▸ rule p.expression))
ways e b place.Severity = one q.severity
ways e b place.OptionalArchitecture = one (or_absent (in_parentheses id))
ways e b place.GenericMap = one q.generic_map
ways e b place.PortMap = one q.port_map
ways e b place.Association = one (rule p.association)
ways e b place.AssociationBehindIdent =
    flat (arrow ▸ rule p.actual_part ▸ make form.NamedAssociation)
    ∷ (flat behind_identifier ++ (close an_expression b ∷ flat (make form.Given ▸ make form.PositionalAssociation))) ∷ []
ways e b place.ActualPart = one (rule p.actual_part)
ways e b place.MoreAssociations = one (more_of comma (rule p.association))
ways e b place.GenerateDeclarations = one (or_empty (each (rule p.declaration) ▸ skip_word word.Begin))
ways e b place.Sensitivity = one (in_parentheses (rule p.sensitivity) or make form.Unlisted)
ways e b place.SensitivityNames = one (rule p.sensitivity)
ways e b place.MoreNames = one (more_of comma (rule p.name))
ways e b place.OptionalIs = one (option (skip_word word.Is))
ways e b place.EndName = one q.end_name
ways e b place.ProcessRest = one process_rest
ways e b place.SelectRest = one select_rest
ways e b place.ConditionalRest = one conditional_rest
ways e b place.AssertionRest = one assertion_rest
ways e b place.InstanceRest = one instance_rest
ways e b place.GenerateRest = one (rule p.generate_rest)
ways e b place.Statement = one (rule p.statement)
ways e b place.StatementBehindIdent = two (colon ▸ rule p.plain_statement ▸ make form.LabelledStatement) (make form.Empty ▸ more_parts ▸ make form.Name ▸ assignment_rest)
ways e b place.LabelledStatement = one (rule p.plain_statement)
ways e b place.MoreIfArms = one more_if_arms
ways e b place.ElseArm = one else_arm
ways e b place.MoreCaseArms = one more_case_arms
ways e b place.OptionalName = one (or_absent id)
ways e b place.OptionalWhen = one q.condition
ways e b place.IfRest = one if_rest
ways e b place.CaseRest = one case_rest
ways e b place.LoopRest = one (skip_word word.Loop ▸ rule p.loop_body)
ways e b place.LoopBody = one (rule p.loop_body)
ways e b place.ExitRest = one exit_rest
ways e b place.AssignmentRest = one assignment_rest
ways e b place.Unit = one (rule p.design_unit)
ways e b place.UnitBehindContext = one (many (rule p.context_item ▸ make form.Add) ▸ rule p.library_unit ▸ make form.Unit)
ways e b place.BehindPackage = two package_rest body_rest
ways e b place.EndPackage = one (option (skip_word word.Package))
ways e b place.EndBody = one (option (skip_word word.Package ▸ skip_word word.Body))
ways e b place.EndEntity = one (option (skip_word word.Entity))
ways e b place.EndArchitecture = one (option (skip_word word.Architecture))
ways e b place.EntityRest = one entity_rest
ways e b place.ArchitectureRest = one architecture_rest
ways e b place.LibraryRest = one (q.identifiers ▸ semicolon ▸ make form.Library)
ways e b place.UseRest = one (some_of (rule p.selected_name) comma ▸ semicolon ▸ make form.Use)
