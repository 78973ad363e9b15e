-- Three small designs.
use Rattle.std.specs.Prelude.{ℕ, nat_eq, Bool, false, List, [], ◌∷◌}
use Rattle.vv_bits.specs.declared.four.V4.TheVariants.{Zero, One}
use Rattle.vv_bits.specs.Four.{and4_rule, not4_rule}
use Rattle.vv_events.specs.Items.{Item, Assign, Always, Rise}
use Rattle.vv_events.specs.Steps.{State, writes, Choice, Act, Batch}
use Rattle.vv_events.specs.Equations.{at}
use Rattle.vv_events.specs.Rows.{Declared, Input, Register, Wire}

-- assign 2 = 0 & 1
abbrev pub gate : List Item
gate = Assign (0 ∷ 1 ∷ []) (2 ∷ []) (λ bits. and4_rule (at bits 0) (at bits 1) ∷ []) ∷ []

abbrev pub inverter : ℕ → ℕ → Item
inverter from to = Assign (from ∷ []) (to ∷ []) (λ bits. not4_rule (at bits from) ∷ [])

-- three inverters from bit 0 to bit 3, the last one first in the text
abbrev pub chain : List Item
chain = inverter 2 3 ∷ inverter 0 1 ∷ inverter 1 2 ∷ []

abbrev pub chain_order : List ℕ
chain_order = 1 ∷ 2 ∷ 0 ∷ []

-- bits: clock 0, data 1, register 2, wire 3: always @(posedge clock) register <= data; and an inverter behind it
abbrev pub register : List Item
register =
    Always (Rise 0 ∷ []) (2 ∷ []) (λ bits. record { writes = []; updates = (2, at bits 1) ∷ [] })
    ∷ inverter 2 3
    ∷ []

abbrev pub register_before : State
register_before =
    record { bits = Zero ∷ One ∷ Zero ∷ One ∷ []; drivers = [] ∷ (One ∷ []) ∷ []; active = false ∷ false ∷ []; updates = [] }

-- the clock rises
abbrev pub register_start : State
register_start = writes register register_before ((0, One) ∷ [])

-- the construct runs, its update is made, the inverter acts
abbrev pub register_steps : List Choice
register_steps = Act 0 ∷ Batch ∷ Act 1 ∷ []

-- inputs alone trigger the construct
abbrev pub register_edge : ℕ → Bool
register_edge i = nat_eq i 0

-- before the first batch nothing moves
abbrev pub nothing_moves : ℕ → Bool
nothing_moves b = false

abbrev pub register_declared : List Declared
register_declared = Input Zero ∷ Input One ∷ Register Zero ∷ Wire ∷ []
