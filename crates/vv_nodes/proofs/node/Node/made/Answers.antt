use Rattle.std.proofs.Common.{◌∙◌, sym}
use denote.Enum.Bare.{same_true}
use Rattle.vv_grammar.specs.contracts.form.Form as form
use Rattle.vv_nodes.proofs.NodeKinds.{made_as}
use Rattle.vv_nodes.specs.Nodes.{node_tree}
use Rattle.vv_nodes.proofs.node.Node.made.Goals as goal

pub returns-then-eq-clause-tree : goal.returns-then-eq-clause-tree
returns-then-eq-clause-tree c =
    made_as (node_tree c.args.self) c.kind.result.now c.in-Made.form c.args.wanted c.in-Made.parts c.in-Made.span c.kind.ensures.tree c.in-Made.is
    (same_true form.the_type tt c.in-Made.form c.args.wanted (sym c.eq.ensures ∙ c.if-eq.true))
