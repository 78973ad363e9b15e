-- What contracts see of a flat design in the program.
use Rattle.std.specs.Prelude.{ℕ, map}
use Rattle.vv_bits.specs.declared.four.V4.{V4}
use Rattle.vv_bits.specs.declared.four.V4.TheVariants.{Zero, One, X, Z}
use Rattle.vv_gate_text.specs.Made.{binary_of, direction_of}
use Rattle.vv_vast.specs.Flat as flat
use Rattle.vv_vast.specs.Tree as vast
use Rattle.vv_gate_run.specs.declared.flat.Expr.{Expr, Literal, Read, Not', Both'}
use Rattle.vv_gate_run.specs.declared.flat.Flat.{Flat}
use Rattle.vv_gate_run.specs.declared.flat.Item.{Item}
use Rattle.vv_gate_run.specs.declared.flat.Object.{Object}

abbrev pub bit_of : V4 → vast.Bit
bit_of Zero = vast.bit0
bit_of One = vast.bit1
bit_of X = vast.bitx
bit_of Z = vast.bitz

abbrev pub expr_of : Expr → vast.Expr ℕ
expr_of (Literal b) = vast.literal (bit_of b)
expr_of (Read n) = vast.name n
expr_of (Not' p e) = vast.unary vast.not' (expr_of e)
expr_of (Both' o p e q g) = vast.binary (binary_of o) (expr_of e) (expr_of g)

abbrev pub item_of : Item → vast.Item ℕ
item_of i = vast.assign i.target (expr_of i.value)

abbrev pub object_of : Object → vast.Port
object_of o = record { direction = direction_of o.input; name = o.name.items }

abbrev pub flat_of : Flat → flat.Flat
flat_of f = record { objects = map object_of f.objects.items; items = map item_of f.items.items }
