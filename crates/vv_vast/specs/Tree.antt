-- What a Verilog text says, as a tree with one field for each part of the grammar, in order.
use Rattle.std.specs.Prelude.{ℕ, List, [], ◌∷◌, ◌++◌}

-- the four values of a bit
pub data Bit : Type 0 where
  bit0 : Bit
  bit1 : Bit
  bitx : Bit
  bitz : Bit

pub data Unary : Type 0 where
  not' : Unary

pub data Binary : Type 0 where
  and' : Binary
  or' : Binary
  xor' : Binary

-- an expression, where an object is named by an N
pub data Expr (N : Type 0) : Type 0 where
  literal : Bit → Expr N
  name : N → Expr N
  unary : Unary → Expr N → Expr N
  binary : Binary → Expr N → Expr N → Expr N

-- an item, likewise
pub data Item (N : Type 0) : Type 0 where
  assign : N → Expr N → Item N

pub data Direction : Type 0 where
  input : Direction
  output : Direction

pub record Port : Type 0 where
  pub direction : Direction
  pub name : List ℕ

pub record Module : Type 0 where
  pub name : List ℕ
  pub ports : List Port
  pub items : List (Item (List ℕ))

-- the names that an expression reads, in the order of the text
abbrev pub reads : {N : Type 0} → Expr N → List N
reads (literal b) = []
reads (name n) = n ∷ []
reads (unary o e) = reads e
reads (binary o e g) = reads e ++ reads g

-- the name that an item drives
abbrev pub target_of : {N : Type 0} → Item N → N
target_of (assign n e) = n

-- the names that an item reads
abbrev pub reads_of : {N : Type 0} → Item N → List N
reads_of (assign n e) = reads e

-- all names of an item
abbrev pub names_of_item : {N : Type 0} → Item N → List N
names_of_item i = target_of i ∷ reads_of i

-- the expression with f n for each name n
abbrev pub renamed : {N M : Type 0} → (N → M) → Expr N → Expr M
renamed f (literal b) = literal b
renamed f (name n) = name (f n)
renamed f (unary o e) = unary o (renamed f e)
renamed f (binary o e g) = binary o (renamed f e) (renamed f g)

abbrev pub renamed_item : {N M : Type 0} → (N → M) → Item N → Item M
renamed_item f (assign n e) = assign (f n) (renamed f e)
