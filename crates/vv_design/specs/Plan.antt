-- The plan: the level at which an input starts, and the controls of a process.
use Rattle.std.specs.Prelude.{Bool, true, false, List, []}
use Rattle.vv_bits.specs.declared.nine.S9.{S9}
use Rattle.vv_bits.specs.declared.nine.S9.TheVariants.{Zero, One, U as Unset}
use Rattle.vv_design.specs.declared.plan.Class.{Class}
use Rattle.vv_design.specs.declared.plan.Class.TheVariants as c
use Rattle.vv_design.specs.declared.plan.Kind.{Kind}
use Rattle.vv_design.specs.declared.plan.Kind.TheVariants as k
use Rattle.vv_design.specs.declared.plan.Control.{Control}

-- '1' or '0'
abbrev pub level_of : Bool → S9
level_of true = One
level_of false = Zero

-- the value of each element of an input at power-on
abbrev pub start_of : Class → S9
start_of (c.Clock level) = level_of level
start_of (c.Control level) = level_of level
start_of c.Data = Unset

-- the controls of a process, the first one that acts first
abbrev pub controls_of : Kind → List Control
controls_of k.Comb = []
controls_of (k.Clocked clock rising controls) = controls
controls_of (k.Latch enable level controls) = controls
