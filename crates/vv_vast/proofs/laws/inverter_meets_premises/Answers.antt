use Rattle.vv_vast.proofs.Inverter.{inverter_is_text, inverter_is_flat}
use Rattle.vv_vast.proofs.laws.inverter_meets_premises.Goals as goal

pub returns : goal.returns
returns c = record { text = inverter_is_text; flat = inverter_is_flat }
