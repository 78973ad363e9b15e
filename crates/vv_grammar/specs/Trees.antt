-- What contracts see of a syntax tree, and how one is made of the tokens and parts that were read.
use Rattle.std.specs.Prelude.{ℕ, zero, suc, ◌+◌, ◌-◌, List, [], ◌∷◌}
use Rattle.vv_base.specs.declared.fault.Span.{Span}
use Rattle.vv_vlex.specs.declared.token.Token.{Token}
use Rattle.vv_grammar.specs.declared.event.Event.{Event}
use Rattle.vv_grammar.specs.declared.event.Event.TheVariants as event
use Rattle.vv_grammar.specs.declared.form.Form.{Form}
use Rattle.vv_grammar.specs.declared.form.Form.TheVariants as form
use Rattle.vv_grammar.specs.declared.shape.Shape.{Shape}
use Rattle.vv_grammar.specs.declared.shape.Shape.TheVariants as shape

mutual
  pub data Tree : Type 0 where
    -- a token
    leaf : Token → Tree
    -- what a form makes of its parts, and its place
    node : Form → Trees → Span → Tree
    -- parts of one kind in their order
    list : Trees → Tree
    -- a part that is left out
    absent : Tree

  pub data Trees : Type 0 where
    none : Trees
    more : Tree → Trees → Trees

abbrev pub joined : Trees → Trees → Trees
joined none us = us
joined (more t ts) us = more t (joined ts us)

-- where the first of these starts, and at this offset where none has a place
abbrev mutual
  pub start : Tree → ℕ → ℕ
  start (leaf t) d = t.span.at
  start (node f ts s) d = s.at
  start (list ts) d = starts ts d
  start absent d = d

  pub starts : Trees → ℕ → ℕ
  starts none d = d
  starts (more t ts) d = start t (starts ts d)

-- from an offset to the end of the token that was read last
abbrev pub up_to : Span → ℕ → Span
up_to last at = record { file = last.file; at = at; len = last.at + last.len - at }

-- how a form makes one value of the last ones
abbrev pub shape_of : Form → Shape
shape_of form.Absent = shape.Absent
shape_of form.Empty = shape.Empty
shape_of form.Add = shape.Add
shape_of form.One = shape.One
shape_of form.Name = shape.Parts 2
shape_of form.SelectedPart = shape.Same
shape_of form.Arguments = shape.Opened 1
shape_of form.Attribute = shape.Opened 1
shape_of form.RangeAttribute = shape.Opened 0
shape_of form.Qualified = shape.Opened 1
shape_of form.Positional = shape.Same
shape_of form.Named = shape.Parts 2
shape_of form.Literal = shape.Same
shape_of form.Parentheses = shape.Opened 1
shape_of form.Aggregate = shape.Opened 1
shape_of form.Element = shape.Same
shape_of form.BoundElement = shape.Parts 2
shape_of form.Others = shape.Opened 0
shape_of form.Single = shape.Same
shape_of form.Only = shape.Same
shape_of form.Range = shape.Parts 3
shape_of form.Power = shape.Parts 2
shape_of form.Abs = shape.Opened 1
shape_of form.Not = shape.Opened 1
shape_of form.Operand = shape.Parts 2
shape_of form.Product = shape.Parts 2
shape_of form.Signed = shape.Parts 2
shape_of form.Sum = shape.Parts 2
shape_of form.Shift = shape.Parts 3
shape_of form.Relation = shape.Parts 3
shape_of form.Logic = shape.Parts 2
shape_of form.Mark = shape.Parts 2
shape_of form.Discrete = shape.Same
shape_of form.MarkRange = shape.Parts 2
shape_of form.IndexConstraint = shape.Parts 1
shape_of form.RangeConstraint = shape.Parts 1
shape_of form.Subtype = shape.Parts 2
shape_of form.Type = shape.Opened 2
shape_of form.Enumeration = shape.Opened 1
shape_of form.Array = shape.Opened 2
shape_of form.Unbounded = shape.Parts 1
shape_of form.Bounded = shape.Same
shape_of form.SubtypeDeclaration = shape.Opened 2
shape_of form.Constant = shape.Opened 3
shape_of form.Signal = shape.Opened 3
shape_of form.Variable = shape.Opened 3
shape_of form.FunctionSpecification = shape.Parts 4
shape_of form.FunctionDeclaration = shape.Parts 1
shape_of form.FunctionBody = shape.Parts 4
shape_of form.ConstantInterface = shape.Parts 3
shape_of form.PortInterface = shape.Parts 4
shape_of form.ComponentDeclaration = shape.Opened 4
shape_of form.AttributeDeclaration = shape.Opened 2
shape_of form.AttributeSpecification = shape.Opened 4
shape_of form.SelectedName = shape.Parts 3
shape_of form.Use = shape.Opened 1
shape_of form.UseDeclaration = shape.Same
shape_of form.UseContext = shape.Same
shape_of form.Library = shape.Opened 1
shape_of form.Process = shape.Opened 4
shape_of form.Unlisted = shape.Absent
shape_of form.Listed = shape.Parts 1
shape_of form.AllSignals = shape.Opened 0
shape_of form.Conditional = shape.Parts 2
shape_of form.Waveform = shape.Same
shape_of form.ConditionalWaveform = shape.Parts 2
shape_of form.Select = shape.Opened 3
shape_of form.Selection = shape.Parts 2
shape_of form.Assertion = shape.Opened 3
shape_of form.ConcurrentAssertion = shape.Same
shape_of form.SequentialAssertion = shape.Same
shape_of form.Component = shape.Same
shape_of form.EntityInstance = shape.Opened 2
shape_of form.Instance = shape.Parts 3
shape_of form.Open = shape.Opened 0
shape_of form.Given = shape.Same
shape_of form.PositionalAssociation = shape.Same
shape_of form.NamedAssociation = shape.Parts 2
shape_of form.ForGenerate = shape.Opened 5
shape_of form.IfGenerate = shape.Opened 4
shape_of form.Labelled = shape.Parts 2
shape_of form.Assignment = shape.Parts 3
shape_of form.If = shape.Opened 3
shape_of form.IfArm = shape.Parts 2
shape_of form.Case = shape.Opened 3
shape_of form.CaseArm = shape.Parts 2
shape_of form.For = shape.Opened 4
shape_of form.While = shape.Opened 3
shape_of form.Loop = shape.Opened 2
shape_of form.Exit = shape.Opened 2
shape_of form.Next = shape.Opened 2
shape_of form.Return = shape.Opened 1
shape_of form.Null = shape.Opened 0
shape_of form.Wait = shape.Opened 1
shape_of form.ReportStatement = shape.Opened 2
shape_of form.LabelledStatement = shape.Parts 2
shape_of form.Entity = shape.Opened 4
shape_of form.Architecture = shape.Opened 5
shape_of form.Package = shape.Opened 3
shape_of form.PackageBody = shape.Opened 3
shape_of form.Unit = shape.Parts 2
shape_of form.Bare = shape.Bare

-- a node of n values and of the parts behind them
abbrev pub node_of : ℕ → Form → Span → Trees → List Tree → List Tree
node_of zero f last ts V = node f ts (up_to last (starts ts last.at)) ∷ V
node_of (suc n) f last ts [] = node f ts (up_to last (starts ts last.at)) ∷ []
node_of (suc n) f last ts (t ∷ V) = node_of n f last (more t ts) V

abbrev pub opened_node : Form → Span → Trees → List Tree → List Tree
opened_node f last ts [] = []
opened_node f last ts (t ∷ V) = node f ts (up_to last (start t last.at)) ∷ V

abbrev pub opened_of : ℕ → Form → Span → Trees → List Tree → List Tree
opened_of zero f last ts V = opened_node f last ts V
opened_of (suc n) f last ts [] = []
opened_of (suc n) f last ts (t ∷ V) = opened_of n f last (more t ts) V

abbrev pub by_shape : Shape → Form → Span → List Tree → List Tree
by_shape shape.Absent f last V = absent ∷ V
by_shape shape.Empty f last V = list none ∷ V
by_shape shape.Add f last (t ∷ list ts ∷ V) = list (joined ts (more t none)) ∷ V
by_shape shape.Add f last V = V
by_shape shape.One f last (t ∷ V) = list (more t none) ∷ V
by_shape shape.One f last [] = []
by_shape shape.Same f last V = V
by_shape shape.Bare f last (t ∷ V) = node form.Unit (more (list none) (more t none)) (up_to last (start t last.at)) ∷ V
by_shape shape.Bare f last [] = []
by_shape (shape.Parts n) f last V = node_of n f last none V
by_shape (shape.Opened n) f last V = opened_of n f last none V

-- What a form makes of the values that were made last; the newest stands first. The token that was read last ends it.
abbrev pub make : Form → Span → List Tree → List Tree
make f = by_shape (shape_of f) f

-- what stands in place of the values when these events have come over these tokens
abbrev pub replay : List Event → List Token → Span → List Tree → List Tree
replay [] ts last V = V
replay (event.Make f ∷ es) ts last V = replay es ts last (make f last V)
replay (event.Skip ∷ es) [] last V = V
replay (event.Skip ∷ es) (t ∷ ts) last V = replay es ts t.span V
replay (event.Keep ∷ es) [] last V = V
replay (event.Keep ∷ es) (t ∷ ts) last V = replay es ts t.span (leaf t ∷ V)
