use Rattle.std.proofs.Common.{◌∙◌, [], drop, ap, sym}
use Rattle.vv_grammar.specs.Trees.{replay}
use Rattle.vv_nodes.specs.Nodes.{node_tree}
use Rattle.vv_productions.specs.Readings.{nowhere}
use Rattle.vv_reading.proofs.Told.{rest_of, read_as, not_read}
use Rattle.vv_reading.proofs.reading.read.Goals as goal

pub returns-in-Ok-clause-read : goal.returns-in-Ok-clause-read
returns-in-Ok-clause-read c = λ s p.
    read_as c.args.edition s c.args.tokens.now c.as_slice.result.now c.args.steps.now c.args.at c.in-Ok.reading.at c.in-Ok.reading.events.items
    (node_tree c.in_ok-node-in-Ok.node) (c.as_slice.ensures.value ∙ c.in_ok-kinds.ensures) p c.in-Ok.ensures.read
    (ap (λ z. replay z (drop c.args.at c.args.tokens.now) nowhere []) (sym c.as_slice-in-Ok.ensures.value)
    ∙ ap (λ z. replay c.as_slice-in-Ok.result.now z nowhere []) (sym (rest_of c.args.at c.args.tokens.now))
    ∙ c.in_ok-node-in-Ok.ensures)

pub returns-clause-refused : goal.returns-clause-refused
returns-clause-refused c = λ s p.
    not_read c.args.edition s c.args.tokens.now c.as_slice.result.now c.args.steps.now c.args.at c.in-Err.stop c.fault_of.result
    (c.as_slice.ensures.value ∙ c.in_ok-kinds.ensures) p c.in-Err.ensures.halts c.fault_of.ensures
