use Rattle.std.proofs.Common.{◌≡◌, ap, sym, ◌∙◌, true, false, not}
use Rattle.vv_gate_check.specs.Places.{first, place_if, is_among, unknown_operand}
use Rattle.vv_gate_check.proofs.Among.{among_keys}
use Rattle.vv_gate_check.specs.Names.{inputs_in}
use Rattle.vv_gate.specs.View.{operand_of}
use Rattle.vv_gate_check.proofs.names.Names.unknown.Goals as goal

pub returns-then-contains : goal.returns-then-contains
returns-then-contains c =
    let names = inputs_in c.args.self.now in
    let e : is_among c.in-Port.ident.text.now names ≡ true = among_keys c.in-Port.ident.text.now c.args.self.now.inputs.keys ∙ sym c.contains.ensures ∙ c.if-contains.true in
    sym (ap (λ o. first (unknown_operand names (operand_of o))) c.in-Port.is ∙ ap (λ b. first (place_if (not b) c.in-Port.ident.at)) e)

pub returns-else-contains : goal.returns-else-contains
returns-else-contains c =
    let names = inputs_in c.args.self.now in
    let e : is_among c.in-Port.ident.text.now names ≡ false = among_keys c.in-Port.ident.text.now c.args.self.now.inputs.keys ∙ sym c.contains.ensures ∙ c.if-contains.false in
    sym (ap (λ o. first (unknown_operand names (operand_of o))) c.in-Port.is ∙ ap (λ b. first (place_if (not b) c.in-Port.ident.at)) e)
