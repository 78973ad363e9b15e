-- What a file of gates says, as a tree with one field for each part of the grammar, in order.
use Rattle.std.specs.Prelude.{ℕ, Bool, List, Option, flat_map, map}
use Rattle.vv_gate.specs.declared.tree.Operator.{Operator}

-- an identifier with its letters folded to lower case, and the offset of its first byte
pub record Ident : Type 0 where
  pub text : List ℕ
  pub at : ℕ

-- ports that are declared together
pub record Group : Type 0 where
  pub idents : List Ident
  pub input : Bool

pub data Operand : Type 0 where
  low : Operand
  high : Operand
  port : Ident → Operand

-- an operand, or `not` of it
pub record Term : Type 0 where
  pub negated : Bool
  pub operand : Operand

pub record Assignment : Type 0 where
  pub target : Ident
  pub operator : Operator
  pub terms : List Term

pub record GateFile : Type 0 where
  pub logic : Ident
  pub numeric : Option Ident
  pub entity : Ident
  pub groups : List Group
  pub architecture : Ident
  pub of : Ident
  pub assignments : List Assignment

-- a port with its direction
pub record Port : Type 0 where
  pub ident : Ident
  pub input : Bool

abbrev pub ports_of_group : Group → List Port
ports_of_group g = map (λ i. record { ident = i; input = g.input }) g.idents

-- the ports in the order of the text
abbrev pub ports_of : GateFile → List Port
ports_of f = flat_map ports_of_group f.groups
