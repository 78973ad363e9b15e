use Rattle.std.proofs.Common.{ap, ◌∙◌}
use Rattle.vv_bits.specs.Four.{abs_rule}
use Rattle.vv_bits.proofs.Sources.{several_abs}
use Rattle.vv_bits.proofs.resolution.resolve9.Goals as goal

pub returns-in_default-clause-abstraction : goal.returns-in_default-clause-abstraction
returns-in_default-clause-abstraction c six = ap abs_rule c.resolve_all9.ensures ∙ several_abs c.args.list.now six
