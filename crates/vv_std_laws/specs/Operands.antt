-- The operands that a row has.
use Rattle.std.specs.Prelude.{◌<◌}
use Rattle.std.specs.List.{AllByRecursion}
use Rattle.vv_types.specs.Codec.{IsBool, IsLogic, IsValueOf}
use Rattle.vv_types.specs.declared.codec.Codec.{Codec}
use Rattle.vv_types.specs.declared.standard.StdFn.{StdFn}
use Rattle.vv_types.specs.declared.standard.StdFn.TheVariants as f
use Rattle.vv_types.specs.declared.value.Value.{Value, out-Value}
use Rattle.vv_types.specs.declared.value.Value.TheOpen.{Value-F}
use Rattle.vv_types.specs.declared.value.Value.TheOpen as v
use Rattle.vv_std_laws.specs.Cells.{scalar_count}

abbrev pub IsInt : Value-F Value → Type 0
IsInt (v.Int x) = Unit {0}
IsInt _ = ⊥

abbrev pub IsPosition : Value-F Value → Type 0
IsPosition (v.Enum position) = Unit {0}
IsPosition _ = ⊥

-- an array whose elements are as the fact says
abbrev pub IsArrayWith : (Value → Type 0) → Value-F Value → Type 0
IsArrayWith P (v.Array xs) = AllByRecursion P xs
IsArrayWith P _ = ⊥

abbrev pub IsArray : Value-F Value → Type 0
IsArray x = IsArrayWith (λ _. Unit {0}) x

-- a vector of std_ulogic
abbrev pub IsVector : Value-F Value → Type 0
IsVector x = IsArrayWith (λ y. IsLogic (out-Value y)) x

-- both operands are of one kind
abbrev pub AreBoth : (Value-F Value → Type 0) → Value → Value → Type 0
AreBoth P a b = P (out-Value a) × P (out-Value b)

-- two arrays, whose elements are values of one codec and have a scalar or more
abbrev pub AreAlike : Value → Value → Type 0
AreAlike a b = (elem : Codec) × (0 < scalar_count elem) × AreBoth (IsArrayWith (IsValueOf elem)) a b

-- the one operand of a row
abbrev pub IsOperand : StdFn → Value → Type 0
IsOperand f.NotBool a = IsBool (out-Value a)
IsOperand f.NotLogic a = IsLogic (out-Value a)
IsOperand f.NotVector a = IsVector (out-Value a)
IsOperand _ a = ⊥

-- the two operands of a row
abbrev pub AreOperands : StdFn → Value → Value → Type 0
AreOperands f.EqualLogic a b = AreBoth IsLogic a b
AreOperands f.NotEqualLogic a b = AreBoth IsLogic a b
AreOperands f.AndLogic a b = AreBoth IsLogic a b
AreOperands f.OrLogic a b = AreBoth IsLogic a b
AreOperands f.XorLogic a b = AreBoth IsLogic a b
AreOperands f.NandLogic a b = AreBoth IsLogic a b
AreOperands f.NorLogic a b = AreBoth IsLogic a b
AreOperands f.XnorLogic a b = AreBoth IsLogic a b
AreOperands f.EqualBool a b = AreBoth IsBool a b
AreOperands f.NotEqualBool a b = AreBoth IsBool a b
AreOperands f.LessBool a b = AreBoth IsBool a b
AreOperands f.LessEqualBool a b = AreBoth IsBool a b
AreOperands f.GreaterBool a b = AreBoth IsBool a b
AreOperands f.GreaterEqualBool a b = AreBoth IsBool a b
AreOperands f.AndBool a b = AreBoth IsBool a b
AreOperands f.OrBool a b = AreBoth IsBool a b
AreOperands f.XorBool a b = AreBoth IsBool a b
AreOperands f.NandBool a b = AreBoth IsBool a b
AreOperands f.NorBool a b = AreBoth IsBool a b
AreOperands f.XnorBool a b = AreBoth IsBool a b
AreOperands f.EqualInt a b = AreBoth IsInt a b
AreOperands f.NotEqualInt a b = AreBoth IsInt a b
AreOperands f.LessInt a b = AreBoth IsInt a b
AreOperands f.LessEqualInt a b = AreBoth IsInt a b
AreOperands f.GreaterInt a b = AreBoth IsInt a b
AreOperands f.GreaterEqualInt a b = AreBoth IsInt a b
AreOperands f.EqualEnum a b = AreBoth IsPosition a b
AreOperands f.NotEqualEnum a b = AreBoth IsPosition a b
AreOperands f.LessEnum a b = AreBoth IsPosition a b
AreOperands f.LessEqualEnum a b = AreBoth IsPosition a b
AreOperands f.GreaterEnum a b = AreBoth IsPosition a b
AreOperands f.GreaterEqualEnum a b = AreBoth IsPosition a b
AreOperands f.AndVector a b = AreBoth IsVector a b
AreOperands f.OrVector a b = AreBoth IsVector a b
AreOperands f.XorVector a b = AreBoth IsVector a b
AreOperands f.NandVector a b = AreBoth IsVector a b
AreOperands f.NorVector a b = AreBoth IsVector a b
AreOperands f.XnorVector a b = AreBoth IsVector a b
AreOperands f.EqualArray a b = AreAlike a b
AreOperands f.NotEqualArray a b = AreAlike a b
AreOperands f.ConcatenateArrays a b = AreBoth IsArray a b
AreOperands f.ConcatenateArrayElement a b = IsArray (out-Value a)
AreOperands f.ConcatenateElementArray a b = IsArray (out-Value b)
AreOperands f.ConcatenateElements a b = Unit {0}
AreOperands _ a b = ⊥
