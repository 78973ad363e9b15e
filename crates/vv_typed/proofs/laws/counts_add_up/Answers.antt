use Rattle.vv_typed.proofs.Counts.{stmt_count, typed_count}
use Rattle.vv_typed.proofs.laws.counts_add_up.Goals as goal

pub returns : goal.returns
returns c = record { typed = typed_count; stmt = stmt_count }
