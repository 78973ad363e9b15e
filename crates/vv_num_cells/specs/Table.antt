-- The row of each operator and function of `numeric_std`.
use Rattle.vv_types.specs.declared.numeric.NumFn.{NumFn}
use Rattle.vv_types.specs.declared.numeric.NumFn.TheVariants as f
use Rattle.vv_num_arithmetic.specs.declared.operands.Operator.TheVariants.{Add, Subtract, Multiply}
use Rattle.vv_num_arithmetic.specs.declared.operands.VectorKind.TheVariants.{Unsigned, Signed}
use Rattle.vv_num_vectors.specs.declared.comparison.Relation.TheVariants as r
use Rattle.vv_num_vectors.specs.declared.logic.Gate.TheVariants as g
use Rattle.vv_num_cells.specs.declared.table.Operands.TheVariants.{Vectors, VectorAndNumber, NumberAndVector}
use Rattle.vv_num_cells.specs.declared.table.Row.{Row}
use Rattle.vv_num_cells.specs.declared.table.Row.TheVariants.{Arithmetic, Absolute, Negate, Compare, Logic, Not, ShiftLeft, ShiftRight, RotateLeft, RotateRight, Resize, ToInteger, ToVector}

abbrev pub row_of : NumFn → Row
row_of f.AddUnsignedUnsigned = Arithmetic Add Unsigned Vectors
row_of f.AddSignedSigned = Arithmetic Add Signed Vectors
row_of f.AddUnsignedNatural = Arithmetic Add Unsigned VectorAndNumber
row_of f.AddNaturalUnsigned = Arithmetic Add Unsigned NumberAndVector
row_of f.AddSignedInteger = Arithmetic Add Signed VectorAndNumber
row_of f.AddIntegerSigned = Arithmetic Add Signed NumberAndVector
row_of f.SubtractUnsignedUnsigned = Arithmetic Subtract Unsigned Vectors
row_of f.SubtractSignedSigned = Arithmetic Subtract Signed Vectors
row_of f.SubtractUnsignedNatural = Arithmetic Subtract Unsigned VectorAndNumber
row_of f.SubtractNaturalUnsigned = Arithmetic Subtract Unsigned NumberAndVector
row_of f.SubtractSignedInteger = Arithmetic Subtract Signed VectorAndNumber
row_of f.SubtractIntegerSigned = Arithmetic Subtract Signed NumberAndVector
row_of f.MultiplyUnsignedUnsigned = Arithmetic Multiply Unsigned Vectors
row_of f.MultiplySignedSigned = Arithmetic Multiply Signed Vectors
row_of f.MultiplyUnsignedNatural = Arithmetic Multiply Unsigned VectorAndNumber
row_of f.MultiplyNaturalUnsigned = Arithmetic Multiply Unsigned NumberAndVector
row_of f.MultiplySignedInteger = Arithmetic Multiply Signed VectorAndNumber
row_of f.MultiplyIntegerSigned = Arithmetic Multiply Signed NumberAndVector
row_of f.AbsoluteSigned = Absolute
row_of f.NegateSigned = Negate
row_of f.EqualUnsignedUnsigned = Compare r.Equal Unsigned Vectors
row_of f.EqualSignedSigned = Compare r.Equal Signed Vectors
row_of f.EqualUnsignedNatural = Compare r.Equal Unsigned VectorAndNumber
row_of f.EqualNaturalUnsigned = Compare r.Equal Unsigned NumberAndVector
row_of f.EqualSignedInteger = Compare r.Equal Signed VectorAndNumber
row_of f.EqualIntegerSigned = Compare r.Equal Signed NumberAndVector
row_of f.NotEqualUnsignedUnsigned = Compare r.NotEqual Unsigned Vectors
row_of f.NotEqualSignedSigned = Compare r.NotEqual Signed Vectors
row_of f.NotEqualUnsignedNatural = Compare r.NotEqual Unsigned VectorAndNumber
row_of f.NotEqualNaturalUnsigned = Compare r.NotEqual Unsigned NumberAndVector
row_of f.NotEqualSignedInteger = Compare r.NotEqual Signed VectorAndNumber
row_of f.NotEqualIntegerSigned = Compare r.NotEqual Signed NumberAndVector
row_of f.LessUnsignedUnsigned = Compare r.Less Unsigned Vectors
row_of f.LessSignedSigned = Compare r.Less Signed Vectors
row_of f.LessUnsignedNatural = Compare r.Less Unsigned VectorAndNumber
row_of f.LessNaturalUnsigned = Compare r.Less Unsigned NumberAndVector
row_of f.LessSignedInteger = Compare r.Less Signed VectorAndNumber
row_of f.LessIntegerSigned = Compare r.Less Signed NumberAndVector
row_of f.LessEqualUnsignedUnsigned = Compare r.LessEqual Unsigned Vectors
row_of f.LessEqualSignedSigned = Compare r.LessEqual Signed Vectors
row_of f.LessEqualUnsignedNatural = Compare r.LessEqual Unsigned VectorAndNumber
row_of f.LessEqualNaturalUnsigned = Compare r.LessEqual Unsigned NumberAndVector
row_of f.LessEqualSignedInteger = Compare r.LessEqual Signed VectorAndNumber
row_of f.LessEqualIntegerSigned = Compare r.LessEqual Signed NumberAndVector
row_of f.GreaterUnsignedUnsigned = Compare r.Greater Unsigned Vectors
row_of f.GreaterSignedSigned = Compare r.Greater Signed Vectors
row_of f.GreaterUnsignedNatural = Compare r.Greater Unsigned VectorAndNumber
row_of f.GreaterNaturalUnsigned = Compare r.Greater Unsigned NumberAndVector
row_of f.GreaterSignedInteger = Compare r.Greater Signed VectorAndNumber
row_of f.GreaterIntegerSigned = Compare r.Greater Signed NumberAndVector
row_of f.GreaterEqualUnsignedUnsigned = Compare r.GreaterEqual Unsigned Vectors
row_of f.GreaterEqualSignedSigned = Compare r.GreaterEqual Signed Vectors
row_of f.GreaterEqualUnsignedNatural = Compare r.GreaterEqual Unsigned VectorAndNumber
row_of f.GreaterEqualNaturalUnsigned = Compare r.GreaterEqual Unsigned NumberAndVector
row_of f.GreaterEqualSignedInteger = Compare r.GreaterEqual Signed VectorAndNumber
row_of f.GreaterEqualIntegerSigned = Compare r.GreaterEqual Signed NumberAndVector
row_of f.AndUnsigned = Logic g.And
row_of f.AndSigned = Logic g.And
row_of f.OrUnsigned = Logic g.Or
row_of f.OrSigned = Logic g.Or
row_of f.XorUnsigned = Logic g.Xor
row_of f.XorSigned = Logic g.Xor
row_of f.NandUnsigned = Logic g.Nand
row_of f.NandSigned = Logic g.Nand
row_of f.NorUnsigned = Logic g.Nor
row_of f.NorSigned = Logic g.Nor
row_of f.XnorUnsigned = Logic g.Xnor
row_of f.XnorSigned = Logic g.Xnor
row_of f.NotUnsigned = Not
row_of f.NotSigned = Not
row_of f.ShiftLeftUnsigned = ShiftLeft
row_of f.ShiftLeftSigned = ShiftLeft
row_of f.ShiftRightUnsigned = ShiftRight Unsigned
row_of f.ShiftRightSigned = ShiftRight Signed
row_of f.RotateLeftUnsigned = RotateLeft
row_of f.RotateLeftSigned = RotateLeft
row_of f.RotateRightUnsigned = RotateRight
row_of f.RotateRightSigned = RotateRight
row_of f.ResizeUnsigned = Resize Unsigned
row_of f.ResizeSigned = Resize Signed
row_of f.ToIntegerUnsigned = ToInteger Unsigned
row_of f.ToIntegerSigned = ToInteger Signed
row_of f.ToUnsigned = ToVector
row_of f.ToSigned = ToVector
