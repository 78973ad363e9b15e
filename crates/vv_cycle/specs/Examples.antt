-- Three small designs: a register, a latch, and a chain of three inverters.
use Rattle.std.specs.Prelude.{ℕ, zero, suc, Bool, true, false, cond, not, ◌&&◌, List, [], ◌∷◌, slice_index_or, Option, Some, None}
use Rattle.vv_bits.specs.declared.nine.S9.{S9}
use Rattle.vv_bits.specs.declared.nine.S9.TheVariants.{U, Zero, One, Z}
use Rattle.vv_bits.specs.Nine.{same, not_rule}
use Rattle.vv_cycle.specs.Processes.{Process, Clock, Control, Data, Design, at, pick}
use Rattle.vv_cycle.specs.Turns.{VState}
use Rattle.vv_cycle.specs.Rows.{Entry}

-- ---- a register: clock 0, data 1, output 2

abbrev pub register : Process
register = record { sensitive = 0 ∷ []; targets = 2 ∷ []; first_drivers = U ∷ []; first_variables = []; body = λ nets drivers variables. Some (record { drivers = cond (slice_index_or nets.events 0 false && same (at nets.values 0) One) (at nets.values 1 ∷ []) drivers; variables = variables; clash = false }) }

abbrev pub one_register : Design
one_register = record { processes = register ∷ []; constants = []; initial = Zero ∷ Zero ∷ U ∷ []; inputs = record { class = Clock; nets = 0 ∷ [] } ∷ record { class = Data; nets = 1 ∷ [] } ∷ [] }

abbrev pub all_held : List S9 → ℕ → Bool
all_held vs i = true

abbrev pub rank_0 : ℕ → ℕ
rank_0 x = 0

abbrev pub give_none : ℕ → ℕ → List S9 → List S9
give_none i x vs = []

-- ---- a latch: enable 0, data 1, output 2

abbrev pub latch : Process
latch = record { sensitive = 0 ∷ 1 ∷ []; targets = 2 ∷ []; first_drivers = U ∷ []; first_variables = []; body = λ nets drivers variables. Some (record { drivers = cond (same (at nets.values 0) One) (at nets.values 1 ∷ []) drivers; variables = variables; clash = false }) }

abbrev pub one_latch : Design
one_latch = record { processes = latch ∷ []; constants = []; initial = Zero ∷ Zero ∷ U ∷ []; inputs = record { class = Control; nets = 0 ∷ [] } ∷ record { class = Data; nets = 1 ∷ [] } ∷ [] }

-- the latch is closed
abbrev pub closed_held : List S9 → ℕ → Bool
closed_held vs i = not (same (at vs 0) One)

abbrev pub latch_give : ℕ → ℕ → List S9 → List S9
latch_give i x vs = pick (2 ∷ []) (at vs 1 ∷ []) x

-- ---- inverters from net 0 to net 3, which has a constant source Z besides

abbrev pub inverter : ℕ → Process
inverter k = record { sensitive = k ∷ []; targets = suc k ∷ []; first_drivers = U ∷ []; first_variables = []; body = λ nets drivers variables. Some (record { drivers = not_rule (at nets.values k) ∷ []; variables = variables; clash = false }) }

abbrev pub chain : Design
chain = record { processes = inverter 0 ∷ inverter 1 ∷ inverter 2 ∷ []; constants = (3, Z) ∷ []; initial = Zero ∷ U ∷ U ∷ U ∷ []; inputs = record { class = Data; nets = 0 ∷ [] } ∷ [] }

abbrev pub none_held : List S9 → ℕ → Bool
none_held vs i = false

abbrev pub chain_rank : ℕ → ℕ
chain_rank (suc zero) = 1
chain_rank (suc (suc zero)) = 2
chain_rank (suc (suc (suc zero))) = 3
chain_rank _ = 0

abbrev pub chain_give : ℕ → ℕ → List S9 → List S9
chain_give i x vs = pick (suc i ∷ []) (not_rule (at vs i) ∷ []) x

-- a row that sets the chain's input to 1
abbrev pub one_row : List (List Entry)
one_row = (record { input = 0; bits = One ∷ [] } ∷ []) ∷ []

abbrev pub chain_end : List S9
chain_end = One ∷ Zero ∷ One ∷ Zero ∷ []

abbrev pub values_of : Option VState → List S9
values_of None = []
values_of (Some s) = s.nets.values
