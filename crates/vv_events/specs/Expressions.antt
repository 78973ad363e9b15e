-- Expressions over numbered bits, and their values.
use Rattle.std.specs.Prelude.{ℕ, List, [], ◌∷◌, ◌++◌}
use Rattle.vv_bits.specs.declared.four.V4.{V4}
use Rattle.vv_bits.specs.declared.four.V4.TheVariants.{X}
use Rattle.vv_events.specs.Items.{Item, Assign}
use Rattle.vv_events.specs.Equations.{at}
use Rattle.vv_events.specs.Values.{and_bits, or_bits, xor_bits, not_bits, and_all, or_all, xor_all, add, subtract, multiply, less, less_or_equal, greater, greater_or_equal, equal, unequal, case_equal, case_unequal, choose, part, joined, repeated}

pub data Unary : Type 0 where
  BitNot : Unary
  AllAnd : Unary
  AllOr : Unary
  AllXor : Unary

pub data Binary : Type 0 where
  BitAnd : Binary
  BitOr : Binary
  BitXor : Binary
  Plus : Binary
  Minus : Binary
  Times : Binary
  Less : Binary
  LessOrEqual : Binary
  Greater : Binary
  GreaterOrEqual : Binary
  Equal : Binary
  Unequal : Binary
  CaseEqual : Binary
  CaseUnequal : Binary

-- places are the numbers of a vector's bits, bit 0 first; a function is applied to its joined arguments
pub data Expr : Type 0 where
  Bits : (bits : List V4) → Expr
  Read : (places : List ℕ) → Expr
  Part : (places : List ℕ) (index : Expr) (size : ℕ) → Expr
  Join : (high low : Expr) → Expr
  Repeat : (count : ℕ) (e : Expr) → Expr
  OfOne : (operator : Unary) (e : Expr) → Expr
  OfTwo : (operator : Binary) (left right : Expr) → Expr
  Choose : (condition when_one when_zero : Expr) → Expr
  Call : (function : List V4 → List V4) (arguments : Expr) → Expr

-- a result of one bit
abbrev pub one_bit : V4 → List V4
one_bit v = v ∷ []

abbrev pub unary_value : Unary → List V4 → List V4
unary_value BitNot xs = not_bits xs
unary_value AllAnd xs = one_bit (and_all xs)
unary_value AllOr xs = one_bit (or_all xs)
unary_value AllXor xs = one_bit (xor_all xs)

abbrev pub binary_value : Binary → List V4 → List V4 → List V4
binary_value BitAnd xs ys = and_bits xs ys
binary_value BitOr xs ys = or_bits xs ys
binary_value BitXor xs ys = xor_bits xs ys
binary_value Plus xs ys = add xs ys
binary_value Minus xs ys = subtract xs ys
binary_value Times xs ys = multiply xs ys
binary_value Less xs ys = one_bit (less xs ys)
binary_value LessOrEqual xs ys = one_bit (less_or_equal xs ys)
binary_value Greater xs ys = one_bit (greater xs ys)
binary_value GreaterOrEqual xs ys = one_bit (greater_or_equal xs ys)
binary_value Equal xs ys = one_bit (equal xs ys)
binary_value Unequal xs ys = one_bit (unequal xs ys)
binary_value CaseEqual xs ys = one_bit (case_equal xs ys)
binary_value CaseUnequal xs ys = one_bit (case_unequal xs ys)

-- the bits at these places
abbrev pub bits_at : List ℕ → List V4 → List V4
bits_at [] bits = []
bits_at (b ∷ bs) bits = at bits b ∷ bits_at bs bits

-- the bit of a condition
abbrev pub condition_bit : List V4 → V4
condition_bit [] = X
condition_bit (c ∷ cs) = c

-- the value of an expression where the bits are these
abbrev pub value : Expr → List V4 → List V4
value (Bits vs) bits = vs
value (Read places) bits = bits_at places bits
value (Part places index size) bits = part (bits_at places bits) (value index bits) size
value (Join high low) bits = joined (value high bits) (value low bits)
value (Repeat count e) bits = repeated count (value e bits)
value (OfOne operator e) bits = unary_value operator (value e bits)
value (OfTwo operator left right) bits = binary_value operator (value left bits) (value right bits)
value (Choose condition when_one when_zero) bits = choose (condition_bit (value condition bits)) (value when_one bits) (value when_zero bits)
value (Call function arguments) bits = function (value arguments bits)

-- the bits that an expression reads: by +: each bit of the vector
abbrev pub reads : Expr → List ℕ
reads (Bits vs) = []
reads (Read places) = places
reads (Part places index size) = places ++ reads index
reads (Join high low) = reads high ++ reads low
reads (Repeat count e) = reads e
reads (OfOne operator e) = reads e
reads (OfTwo operator left right) = reads left ++ reads right
reads (Choose condition when_one when_zero) = reads condition ++ (reads when_one ++ reads when_zero)
reads (Call function arguments) = reads arguments

-- assign targets = e
abbrev pub assignment : List ℕ → Expr → Item
assignment targets e = Assign (reads e) targets (value e)
