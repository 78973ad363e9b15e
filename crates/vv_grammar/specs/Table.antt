-- The table by its places.
use Rattle.std.specs.Prelude.{List, [], map, Option, Some, None}
use Rattle.vv_grammar.specs.declared.edition.Edition.{Edition}
use Rattle.vv_grammar.specs.declared.edition.Edition.TheVariants as edition
use Rattle.vv_grammar.specs.declared.place.Place.{Place}
use Rattle.vv_grammar.specs.declared.place.Place.TheVariants as place
use Rattle.vv_grammar.specs.declared.step.Step.{Step}
use Rattle.vv_grammar.specs.declared.step.Take.{Take}
use Rattle.vv_grammar.specs.declared.step.Level.{Level}
use Rattle.vv_grammar.specs.declared.step.Level.TheVariants as level
use Rattle.vv_grammar.specs.declared.terminal.Terminal.{Terminal}
use Rattle.vv_grammar.specs.declared.table.concurrent.TheConstants as concurrent
use Rattle.vv_grammar.specs.declared.table.declarations.TheConstants as declarations
use Rattle.vv_grammar.specs.declared.table.expressions.TheConstants as expressions
use Rattle.vv_grammar.specs.declared.table.statements.TheConstants as statements
use Rattle.vv_grammar.specs.declared.table.subtypes.TheConstants as subtypes
use Rattle.vv_grammar.specs.declared.table.units.TheConstants as units

-- how a place goes on at one of these tokens
pub record Choice : Type 0 where
  pub on : List Terminal
  pub take : Take
  pub steps : List Step

abbrev pub choice : List Terminal → Take → List Step → Choice
choice on take steps = record { on = on; take = take; steps = steps }

abbrev pub alternatives : Edition → Place → List Choice
alternatives e place.Expression = map (λ a. choice a.0.now a.1 a.2.now) expressions.EXPRESSION
alternatives e place.ExpressionBehindIdent = map (λ a. choice a.0.now a.1 a.2.now) expressions.EXPRESSION_BEHIND_IDENT
alternatives e place.ExpressionBehindMark = map (λ a. choice a.0.now a.1 a.2.now) expressions.EXPRESSION_BEHIND_MARK
alternatives e place.Combined = map (λ a. choice a.0.now a.1 a.2.now) expressions.COMBINED
alternatives e place.MoreAnd = map (λ a. choice a.0.now a.1 a.2.now) expressions.MORE_AND
alternatives e place.MoreOr = map (λ a. choice a.0.now a.1 a.2.now) expressions.MORE_OR
alternatives e place.MoreXor = map (λ a. choice a.0.now a.1 a.2.now) expressions.MORE_XOR
alternatives e place.MoreXnor = map (λ a. choice a.0.now a.1 a.2.now) expressions.MORE_XNOR
alternatives e place.Relation = []
alternatives e place.Compared = map (λ a. choice a.0.now a.1 a.2.now) expressions.COMPARED
alternatives e place.ShiftExpression = []
alternatives e place.Shifted = map (λ a. choice a.0.now a.1 a.2.now) expressions.SHIFTED
alternatives e place.SimpleExpression = map (λ a. choice a.0.now a.1 a.2.now) expressions.SIMPLE_EXPRESSION
alternatives e place.Terms = map (λ a. choice a.0.now a.1 a.2.now) expressions.TERMS
alternatives e place.MoreTerms = map (λ a. choice a.0.now a.1 a.2.now) expressions.MORE_TERMS
alternatives e place.Term = []
alternatives e place.Factors = map (λ a. choice a.0.now a.1 a.2.now) expressions.FACTORS
alternatives e place.MoreFactors = map (λ a. choice a.0.now a.1 a.2.now) expressions.MORE_FACTORS
alternatives e place.Factor = map (λ a. choice a.0.now a.1 a.2.now) expressions.FACTOR
alternatives e place.Power = map (λ a. choice a.0.now a.1 a.2.now) expressions.POWER
alternatives e place.Primary = map (λ a. choice a.0.now a.1 a.2.now) expressions.PRIMARY
alternatives e place.NameParts = map (λ a. choice a.0.now a.1 a.2.now) expressions.NAME_PARTS
alternatives e place.NamePartsBehindMark = map (λ a. choice a.0.now a.1 a.2.now) expressions.NAME_PARTS_BEHIND_MARK
alternatives e place.BehindTick = map (λ a. choice a.0.now a.1 a.2.now) expressions.BEHIND_TICK
alternatives e place.Argument = map (λ a. choice a.0.now a.1 a.2.now) expressions.ARGUMENT
alternatives e place.ArgumentBehindIdent = map (λ a. choice a.0.now a.1 a.2.now) expressions.ARGUMENT_BEHIND_IDENT
alternatives e place.MoreArguments = map (λ a. choice a.0.now a.1 a.2.now) expressions.MORE_ARGUMENTS
alternatives e place.Parenthesis = map (λ a. choice a.0.now a.1 a.2.now) expressions.PARENTHESIS
alternatives e place.BehindFirst = map (λ a. choice a.0.now a.1 a.2.now) expressions.BEHIND_FIRST
alternatives e place.AggregateElements = map (λ a. choice a.0.now a.1 a.2.now) expressions.AGGREGATE_ELEMENTS
alternatives e place.BehindFirstElement = map (λ a. choice a.0.now a.1 a.2.now) expressions.BEHIND_FIRST_ELEMENT
alternatives e place.MoreElements = map (λ a. choice a.0.now a.1 a.2.now) expressions.MORE_ELEMENTS
alternatives e place.Element = map (λ a. choice a.0.now a.1 a.2.now) expressions.ELEMENT
alternatives e place.BehindElement = map (λ a. choice a.0.now a.1 a.2.now) expressions.BEHIND_ELEMENT
alternatives e place.BehindChoices = map (λ a. choice a.0.now a.1 a.2.now) expressions.BEHIND_CHOICES
alternatives e place.Choice = map (λ a. choice a.0.now a.1 a.2.now) expressions.CHOICE
alternatives e place.MoreChoices = map (λ a. choice a.0.now a.1 a.2.now) expressions.MORE_CHOICES
alternatives e place.Range = []
alternatives e place.RangeEnd = map (λ a. choice a.0.now a.1 a.2.now) subtypes.RANGE_END
alternatives e place.DiscreteRange = map (λ a. choice a.0.now a.1 a.2.now) subtypes.DISCRETE_RANGE
alternatives e place.DiscreteRangeBehindMark = map (λ a. choice a.0.now a.1 a.2.now) subtypes.DISCRETE_RANGE_BEHIND_MARK
alternatives e place.MarkPart = map (λ a. choice a.0.now a.1 a.2.now) subtypes.MARK_PART
alternatives e place.MoreIdents = map (λ a. choice a.0.now a.1 a.2.now) subtypes.MORE_IDENTS
alternatives e place.Constraint = map (λ a. choice a.0.now a.1 a.2.now) subtypes.CONSTRAINT
alternatives e place.TypeMark = map (λ a. choice a.0.now a.1 a.2.now) subtypes.TYPE_MARK
alternatives e place.Name = map (λ a. choice a.0.now a.1 a.2.now) expressions.NAME
alternatives e place.Choices = []
alternatives e place.SubtypeIndication = []
alternatives e place.Declaration = map (λ a. choice a.0.now a.1 a.2.now) declarations.DECLARATION
alternatives e place.PackageDeclaration = map (λ a. choice a.0.now a.1 a.2.now) declarations.PACKAGE_DECLARATION
alternatives e place.BodyDeclaration = map (λ a. choice a.0.now a.1 a.2.now) declarations.BODY_DECLARATION
alternatives e place.ProcessDeclaration = map (λ a. choice a.0.now a.1 a.2.now) declarations.PROCESS_DECLARATION
alternatives e place.FunctionEnd = map (λ a. choice a.0.now a.1 a.2.now) declarations.FUNCTION_END
alternatives e place.FunctionBody = map (λ a. choice a.0.now a.1 a.2.now) declarations.FUNCTION_BODY
alternatives e place.Designator = map (λ a. choice a.0.now a.1 a.2.now) declarations.DESIGNATOR
alternatives e place.EndFunction = map (λ a. choice a.0.now a.1 a.2.now) declarations.END_FUNCTION
alternatives e place.EndDesignator = map (λ a. choice a.0.now a.1 a.2.now) declarations.END_DESIGNATOR
alternatives e place.Parameters = map (λ a. choice a.0.now a.1 a.2.now) declarations.PARAMETERS
alternatives e place.ConstantInterface = map (λ a. choice a.0.now a.1 a.2.now) declarations.CONSTANT_INTERFACE
alternatives e place.ConstantInterfaceRest = []
alternatives e place.MoreConstantInterfaces = map (λ a. choice a.0.now a.1 a.2.now) declarations.MORE_CONSTANT_INTERFACES
alternatives e place.ModeIn = map (λ a. choice a.0.now a.1 a.2.now) declarations.MODE_IN
alternatives e place.Default = map (λ a. choice a.0.now a.1 a.2.now) declarations.DEFAULT
alternatives e place.Generics = map (λ a. choice a.0.now a.1 a.2.now) declarations.GENERICS
alternatives e place.Ports = map (λ a. choice a.0.now a.1 a.2.now) declarations.PORTS
alternatives e place.PortInterface = map (λ a. choice a.0.now a.1 a.2.now) declarations.PORT_INTERFACE
alternatives e place.PortInterfaceRest = []
alternatives e place.MorePortInterfaces = map (λ a. choice a.0.now a.1 a.2.now) declarations.MORE_PORT_INTERFACES
alternatives e place.Mode = map (λ a. choice a.0.now a.1 a.2.now) declarations.MODE
alternatives e place.TypeDefinition = map (λ a. choice a.0.now a.1 a.2.now) declarations.TYPE_DEFINITION
alternatives e place.EnumerationLiteral = map (λ a. choice a.0.now a.1 a.2.now) declarations.ENUMERATION_LITERAL
alternatives e place.MoreEnumerationLiterals = map (λ a. choice a.0.now a.1 a.2.now) declarations.MORE_ENUMERATION_LITERALS
alternatives e place.ArrayIndex = map (λ a. choice a.0.now a.1 a.2.now) declarations.ARRAY_INDEX
alternatives e place.ArrayIndexBehindMark = map (λ a. choice a.0.now a.1 a.2.now) declarations.ARRAY_INDEX_BEHIND_MARK
alternatives e place.ArrayIndexBehindRange = map (λ a. choice a.0.now a.1 a.2.now) declarations.ARRAY_INDEX_BEHIND_RANGE
alternatives e place.BehindAttribute = map (λ a. choice a.0.now a.1 a.2.now) declarations.BEHIND_ATTRIBUTE
alternatives e place.EntityDesignator = map (λ a. choice a.0.now a.1 a.2.now) declarations.ENTITY_DESIGNATOR
alternatives e place.MoreEntityDesignators = map (λ a. choice a.0.now a.1 a.2.now) declarations.MORE_ENTITY_DESIGNATORS
alternatives e place.EntityClass = map (λ a. choice a.0.now a.1 a.2.now) declarations.ENTITY_CLASS
alternatives e place.SelectedName = map (λ a. choice a.0.now a.1 a.2.now) declarations.SELECTED_NAME
alternatives e place.MoreSelectedNames = map (λ a. choice a.0.now a.1 a.2.now) declarations.MORE_SELECTED_NAMES
alternatives e place.SelectedSuffix = map (λ a. choice a.0.now a.1 a.2.now) declarations.SELECTED_SUFFIX
alternatives e place.Suffix = map (λ a. choice a.0.now a.1 a.2.now) declarations.SUFFIX
alternatives e place.TypeRest = []
alternatives e place.SubtypeRest = []
alternatives e place.ObjectRest = []
alternatives e place.FunctionRest = []
alternatives e place.ComponentRest = []
alternatives e place.AttributeRest = []
alternatives e place.Concurrent = map (λ a. choice a.0.now a.1 a.2.now) concurrent.CONCURRENT
alternatives e place.ConcurrentBehindIdent = map (λ a. choice a.0.now a.1 a.2.now) concurrent.CONCURRENT_BEHIND_IDENT
alternatives e place.LabelledConcurrent = map (λ a. choice a.0.now a.1 a.2.now) concurrent.LABELLED_CONCURRENT
alternatives e place.ConcurrentBehindMark = map (λ a. choice a.0.now a.1 a.2.now) concurrent.CONCURRENT_BEHIND_MARK
alternatives e place.BehindWaveform = map (λ a. choice a.0.now a.1 a.2.now) concurrent.BEHIND_WAVEFORM
alternatives e place.BehindCondition = map (λ a. choice a.0.now a.1 a.2.now) concurrent.BEHIND_CONDITION
alternatives e place.MoreSelections = map (λ a. choice a.0.now a.1 a.2.now) concurrent.MORE_SELECTIONS
alternatives e place.Report = map (λ a. choice a.0.now a.1 a.2.now) concurrent.REPORT
alternatives e place.Severity = map (λ a. choice a.0.now a.1 a.2.now) concurrent.SEVERITY
alternatives e place.OptionalArchitecture = map (λ a. choice a.0.now a.1 a.2.now) concurrent.OPTIONAL_ARCHITECTURE
alternatives e place.GenericMap = map (λ a. choice a.0.now a.1 a.2.now) concurrent.GENERIC_MAP
alternatives e place.PortMap = map (λ a. choice a.0.now a.1 a.2.now) concurrent.PORT_MAP
alternatives e place.Association = map (λ a. choice a.0.now a.1 a.2.now) concurrent.ASSOCIATION
alternatives e place.AssociationBehindIdent = map (λ a. choice a.0.now a.1 a.2.now) concurrent.ASSOCIATION_BEHIND_IDENT
alternatives e place.ActualPart = map (λ a. choice a.0.now a.1 a.2.now) concurrent.ACTUAL_PART
alternatives e place.MoreAssociations = map (λ a. choice a.0.now a.1 a.2.now) concurrent.MORE_ASSOCIATIONS
alternatives e place.GenerateDeclarations = map (λ a. choice a.0.now a.1 a.2.now) concurrent.GENERATE_DECLARATIONS
alternatives e place.Sensitivity = map (λ a. choice a.0.now a.1 a.2.now) concurrent.SENSITIVITY
alternatives edition.Vhdl93 place.SensitivityNames = map (λ a. choice a.0.now a.1 a.2.now) concurrent.SENSITIVITY_NAMES
alternatives edition.Vhdl08 place.SensitivityNames = map (λ a. choice a.0.now a.1 a.2.now) concurrent.SENSITIVITY_NAMES_2008
alternatives e place.MoreNames = map (λ a. choice a.0.now a.1 a.2.now) concurrent.MORE_NAMES
alternatives e place.OptionalIs = map (λ a. choice a.0.now a.1 a.2.now) concurrent.OPTIONAL_IS
alternatives e place.EndName = map (λ a. choice a.0.now a.1 a.2.now) concurrent.END_NAME
alternatives e place.ProcessRest = []
alternatives e place.SelectRest = []
alternatives e place.ConditionalRest = map (λ a. choice a.0.now a.1 a.2.now) concurrent.CONDITIONAL_REST
alternatives e place.AssertionRest = []
alternatives e place.InstanceRest = []
alternatives e place.GenerateRest = map (λ a. choice a.0.now a.1 a.2.now) concurrent.GENERATE_REST
alternatives e place.Statement = map (λ a. choice a.0.now a.1 a.2.now) statements.STATEMENT
alternatives e place.StatementBehindIdent = map (λ a. choice a.0.now a.1 a.2.now) statements.STATEMENT_BEHIND_IDENT
alternatives e place.LabelledStatement = map (λ a. choice a.0.now a.1 a.2.now) statements.LABELLED_STATEMENT
alternatives e place.MoreIfArms = map (λ a. choice a.0.now a.1 a.2.now) statements.MORE_IF_ARMS
alternatives e place.ElseArm = map (λ a. choice a.0.now a.1 a.2.now) statements.ELSE_ARM
alternatives e place.MoreCaseArms = map (λ a. choice a.0.now a.1 a.2.now) statements.MORE_CASE_ARMS
alternatives e place.OptionalName = map (λ a. choice a.0.now a.1 a.2.now) statements.OPTIONAL_NAME
alternatives e place.OptionalWhen = map (λ a. choice a.0.now a.1 a.2.now) statements.OPTIONAL_WHEN
alternatives e place.IfRest = []
alternatives e place.CaseRest = []
alternatives e place.LoopRest = map (λ a. choice a.0.now a.1 a.2.now) statements.LOOP_REST
alternatives e place.LoopBody = []
alternatives e place.ExitRest = []
alternatives e place.AssignmentRest = map (λ a. choice a.0.now a.1 a.2.now) statements.ASSIGNMENT_REST
alternatives e place.Unit = map (λ a. choice a.0.now a.1 a.2.now) units.UNIT
alternatives e place.UnitBehindContext = map (λ a. choice a.0.now a.1 a.2.now) units.UNIT_BEHIND_CONTEXT
alternatives e place.BehindPackage = map (λ a. choice a.0.now a.1 a.2.now) units.BEHIND_PACKAGE
alternatives e place.EndPackage = map (λ a. choice a.0.now a.1 a.2.now) units.END_PACKAGE
alternatives e place.EndBody = map (λ a. choice a.0.now a.1 a.2.now) units.END_BODY
alternatives e place.EndEntity = map (λ a. choice a.0.now a.1 a.2.now) units.END_ENTITY
alternatives e place.EndArchitecture = map (λ a. choice a.0.now a.1 a.2.now) units.END_ARCHITECTURE
alternatives e place.EntityRest = []
alternatives e place.ArchitectureRest = []
alternatives e place.LibraryRest = []
alternatives e place.UseRest = []

abbrev pub otherwise : Place → Option (List Step)
otherwise place.Expression = None
otherwise place.ExpressionBehindIdent = None
otherwise place.ExpressionBehindMark = None
otherwise place.Combined = Some []
otherwise place.MoreAnd = Some []
otherwise place.MoreOr = Some []
otherwise place.MoreXor = Some []
otherwise place.MoreXnor = Some []
otherwise place.Relation = Some expressions.RELATION_ELSE
otherwise place.Compared = Some []
otherwise place.ShiftExpression = Some expressions.SHIFT_EXPRESSION_ELSE
otherwise place.Shifted = Some []
otherwise place.SimpleExpression = Some expressions.SIMPLE_EXPRESSION_ELSE
otherwise place.Terms = Some []
otherwise place.MoreTerms = Some []
otherwise place.Term = Some expressions.TERM_ELSE
otherwise place.Factors = Some []
otherwise place.MoreFactors = Some []
otherwise place.Factor = Some expressions.FACTOR_ELSE
otherwise place.Power = Some []
otherwise place.Primary = None
otherwise place.NameParts = Some []
otherwise place.NamePartsBehindMark = Some []
otherwise place.BehindTick = None
otherwise place.Argument = None
otherwise place.ArgumentBehindIdent = Some expressions.ARGUMENT_BEHIND_IDENT_ELSE
otherwise place.MoreArguments = Some []
otherwise place.Parenthesis = Some expressions.PARENTHESIS_ELSE
otherwise place.BehindFirst = None
otherwise place.AggregateElements = Some expressions.AGGREGATE_ELEMENTS_ELSE
otherwise place.BehindFirstElement = None
otherwise place.MoreElements = Some []
otherwise place.Element = Some expressions.ELEMENT_ELSE
otherwise place.BehindElement = Some expressions.BEHIND_ELEMENT_ELSE
otherwise place.BehindChoices = None
otherwise place.Choice = Some expressions.CHOICE_ELSE
otherwise place.MoreChoices = Some []
otherwise place.Range = Some subtypes.RANGE_ELSE
otherwise place.RangeEnd = Some subtypes.RANGE_END_ELSE
otherwise place.DiscreteRange = None
otherwise place.DiscreteRangeBehindMark = Some subtypes.DISCRETE_RANGE_BEHIND_MARK_ELSE
otherwise place.MarkPart = None
otherwise place.MoreIdents = Some []
otherwise place.Constraint = Some subtypes.CONSTRAINT_ELSE
otherwise place.TypeMark = None
otherwise place.Name = None
otherwise place.Choices = Some expressions.CHOICES_ELSE
otherwise place.SubtypeIndication = Some subtypes.SUBTYPE_INDICATION_ELSE
otherwise place.Declaration = None
otherwise place.PackageDeclaration = None
otherwise place.BodyDeclaration = None
otherwise place.ProcessDeclaration = None
otherwise place.FunctionEnd = Some declarations.FUNCTION_END_ELSE
otherwise place.FunctionBody = None
otherwise place.Designator = None
otherwise place.EndFunction = Some []
otherwise place.EndDesignator = Some declarations.END_DESIGNATOR_ELSE
otherwise place.Parameters = Some declarations.PARAMETERS_ELSE
otherwise place.ConstantInterface = None
otherwise place.ConstantInterfaceRest = Some declarations.CONSTANT_INTERFACE_REST_ELSE
otherwise place.MoreConstantInterfaces = Some []
otherwise place.ModeIn = Some []
otherwise place.Default = Some declarations.DEFAULT_ELSE
otherwise place.Generics = Some declarations.GENERICS_ELSE
otherwise place.Ports = Some declarations.PORTS_ELSE
otherwise place.PortInterface = None
otherwise place.PortInterfaceRest = Some declarations.PORT_INTERFACE_REST_ELSE
otherwise place.MorePortInterfaces = Some []
otherwise place.Mode = Some declarations.MODE_ELSE
otherwise place.TypeDefinition = None
otherwise place.EnumerationLiteral = None
otherwise place.MoreEnumerationLiterals = Some []
otherwise place.ArrayIndex = None
otherwise place.ArrayIndexBehindMark = Some declarations.ARRAY_INDEX_BEHIND_MARK_ELSE
otherwise place.ArrayIndexBehindRange = Some declarations.ARRAY_INDEX_BEHIND_RANGE_ELSE
otherwise place.BehindAttribute = None
otherwise place.EntityDesignator = None
otherwise place.MoreEntityDesignators = Some []
otherwise place.EntityClass = None
otherwise place.SelectedName = None
otherwise place.MoreSelectedNames = Some []
otherwise place.SelectedSuffix = Some declarations.SELECTED_SUFFIX_ELSE
otherwise place.Suffix = None
otherwise place.TypeRest = Some declarations.TYPE_REST_ELSE
otherwise place.SubtypeRest = Some declarations.SUBTYPE_REST_ELSE
otherwise place.ObjectRest = Some declarations.OBJECT_REST_ELSE
otherwise place.FunctionRest = Some declarations.FUNCTION_REST_ELSE
otherwise place.ComponentRest = Some declarations.COMPONENT_REST_ELSE
otherwise place.AttributeRest = Some declarations.ATTRIBUTE_REST_ELSE
otherwise place.Concurrent = None
otherwise place.ConcurrentBehindIdent = Some concurrent.CONCURRENT_BEHIND_IDENT_ELSE
otherwise place.LabelledConcurrent = None
otherwise place.ConcurrentBehindMark = Some concurrent.CONCURRENT_BEHIND_MARK_ELSE
otherwise place.BehindWaveform = Some concurrent.BEHIND_WAVEFORM_ELSE
otherwise place.BehindCondition = Some []
otherwise place.MoreSelections = Some []
otherwise place.Report = Some concurrent.REPORT_ELSE
otherwise place.Severity = Some concurrent.SEVERITY_ELSE
otherwise place.OptionalArchitecture = Some concurrent.OPTIONAL_ARCHITECTURE_ELSE
otherwise place.GenericMap = Some concurrent.GENERIC_MAP_ELSE
otherwise place.PortMap = Some concurrent.PORT_MAP_ELSE
otherwise place.Association = None
otherwise place.AssociationBehindIdent = Some concurrent.ASSOCIATION_BEHIND_IDENT_ELSE
otherwise place.ActualPart = Some concurrent.ACTUAL_PART_ELSE
otherwise place.MoreAssociations = Some []
otherwise place.GenerateDeclarations = Some concurrent.GENERATE_DECLARATIONS_ELSE
otherwise place.Sensitivity = Some concurrent.SENSITIVITY_ELSE
otherwise place.SensitivityNames = None
otherwise place.MoreNames = Some []
otherwise place.OptionalIs = Some []
otherwise place.EndName = Some concurrent.END_NAME_ELSE
otherwise place.ProcessRest = Some concurrent.PROCESS_REST_ELSE
otherwise place.SelectRest = Some concurrent.SELECT_REST_ELSE
otherwise place.ConditionalRest = None
otherwise place.AssertionRest = Some concurrent.ASSERTION_REST_ELSE
otherwise place.InstanceRest = Some concurrent.INSTANCE_REST_ELSE
otherwise place.GenerateRest = None
otherwise place.Statement = None
otherwise place.StatementBehindIdent = Some statements.STATEMENT_BEHIND_IDENT_ELSE
otherwise place.LabelledStatement = None
otherwise place.MoreIfArms = Some []
otherwise place.ElseArm = Some statements.ELSE_ARM_ELSE
otherwise place.MoreCaseArms = Some []
otherwise place.OptionalName = Some statements.OPTIONAL_NAME_ELSE
otherwise place.OptionalWhen = Some statements.OPTIONAL_WHEN_ELSE
otherwise place.IfRest = Some statements.IF_REST_ELSE
otherwise place.CaseRest = Some statements.CASE_REST_ELSE
otherwise place.LoopRest = None
otherwise place.LoopBody = Some statements.LOOP_BODY_ELSE
otherwise place.ExitRest = Some statements.EXIT_REST_ELSE
otherwise place.AssignmentRest = None
otherwise place.Unit = None
otherwise place.UnitBehindContext = None
otherwise place.BehindPackage = None
otherwise place.EndPackage = Some []
otherwise place.EndBody = Some []
otherwise place.EndEntity = Some []
otherwise place.EndArchitecture = Some []
otherwise place.EntityRest = Some units.ENTITY_REST_ELSE
otherwise place.ArchitectureRest = Some units.ARCHITECTURE_REST_ELSE
otherwise place.LibraryRest = Some units.LIBRARY_REST_ELSE
otherwise place.UseRest = Some units.USE_REST_ELSE

abbrev pub level_of : Place → Level
level_of place.Expression = level.Expression
level_of place.ExpressionBehindIdent = level.ExpressionBehind
level_of place.ExpressionBehindMark = level.ExpressionBehind
level_of place.FunctionBody = level.StatementBehind
level_of place.Concurrent = level.Statement
level_of place.Statement = level.Statement
level_of _ = level.Same
