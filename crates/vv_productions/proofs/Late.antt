-- Places at which something ends that began before, and those at which nothing of a kind starts.
use Rattle.std.proofs.Common.{Bool, true, false, ◌&&◌, ◌||◌, not, List, [], ◌∷◌}
use Rattle.vv_grammar.specs.declared.place.Place.{Place}
use Rattle.vv_grammar.specs.declared.place.Place.TheVariants as place
use Rattle.vv_grammar.specs.declared.step.Step.{Step}
use Rattle.vv_grammar.specs.declared.step.Step.TheVariants as step
use Rattle.vv_productions.specs.Depths.{Kind, an_expression, a_statement}

-- something of the kind may end at a place that began before
abbrev pub late : Kind → Place → Bool
late an_expression place.ExpressionBehindIdent = true
late an_expression place.ExpressionBehindMark = true
late an_expression place.ArgumentBehindIdent = true
late an_expression place.AssociationBehindIdent = true
late an_expression place.DiscreteRangeBehindMark = true
late an_expression place.ArrayIndexBehindMark = true
late a_statement place.FunctionEnd = true
late a_statement place.FunctionBody = true
late _ _ = false

-- places that lead to a statement
abbrev pub has_statements : Place → Bool
has_statements place.Statement = true
has_statements place.StatementBehindIdent = true
has_statements place.LabelledStatement = true
has_statements place.IfRest = true
has_statements place.MoreIfArms = true
has_statements place.ElseArm = true
has_statements place.CaseRest = true
has_statements place.MoreCaseArms = true
has_statements place.LoopRest = true
has_statements place.LoopBody = true
has_statements place.Concurrent = true
has_statements place.ConcurrentBehindIdent = true
has_statements place.LabelledConcurrent = true
has_statements place.ProcessRest = true
has_statements place.GenerateRest = true
has_statements place.GenerateDeclarations = true
has_statements place.Declaration = true
has_statements place.PackageDeclaration = true
has_statements place.BodyDeclaration = true
has_statements place.ProcessDeclaration = true
has_statements place.FunctionEnd = true
has_statements place.FunctionBody = true
has_statements place.Unit = true
has_statements place.UnitBehindContext = true
has_statements place.BehindPackage = true
has_statements place.ArchitectureRest = true
has_statements _ = false

-- nothing of the kind starts or ends at a place
abbrev pub free : Kind → Place → Bool
free an_expression place.MarkPart = true
free an_expression _ = false
free a_statement p = not (has_statements p)

abbrev pub late_step : Kind → Step → Bool
late_step k (step.Call p) = late k p
late_step k _ = false

abbrev pub free_step : Kind → Step → Bool
free_step k (step.Call p) = free k p
free_step k (step.Many p) = free k p
free_step k _ = true

abbrev pub any_late : Kind → List Step → Bool
any_late k [] = false
any_late k (s ∷ ss) = late_step k s || any_late k ss

abbrev pub all_free : Kind → List Step → Bool
all_free k [] = true
all_free k (s ∷ ss) = free_step k s && all_free k ss

-- above what may end late nothing of the kind starts
abbrev pub guarded_steps : Kind → List Step → Bool
guarded_steps k [] = true
guarded_steps k (s ∷ ss) = (not (any_late k ss) || free_step k s) && guarded_steps k ss
