-- Operands and a result that lie one behind the other.
use Rattle.std.specs.Prelude.{◌≡◌, ℕ, ◌+◌, ◌<◌, ◌^◌}
use Rattle.vv_num.specs.declared.operands.Layout.{Layout}

-- the places begin at cell 0, have these sizes and end below 2 to the 32
pub record IsLayout (places : Layout) (a b to : ℕ) : Type 0 where
  pub first_a : places.a.first ≡ 0
  pub size_a : places.a.size ≡ a
  pub first_b : places.b.first ≡ a
  pub size_b : places.b.size ≡ b
  pub first_to : places.to.first ≡ a + b
  pub size_to : places.to.size ≡ to
  pub few : a + b + to < 2 ^ 32
