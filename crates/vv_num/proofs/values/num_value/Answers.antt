use Rattle.std.proofs.Common.{◌≡◌, ◌<◌, ◌≤◌, List, [], ◌∷◌, length, get_or, sym, subst, arith, refl}
use Rattle.vv_types.specs.declared.value.Value.{Value}
use Rattle.vv_num_cells.specs.Table.{row_of}
use Rattle.vv_num.specs.Values.{FitsCells, FitsValues, cells_of}
use Rattle.vv_num.proofs.values.num_value.Goals as goal

one_item : (xs : List Value) (a : Value) → 1 ≤ length xs → length xs < 2 → a ≡ get_or xs 0 a → xs ≡ a ∷ []
one_item [] a low high is = absurd (omega (arith, low))
one_item (x ∷ []) a low high is = λ i. sym is i ∷ []
one_item (x ∷ y ∷ xs) a low high is = absurd (omega (arith, high))

pub returns-in-len1-clause-unfit : goal.returns-in-len1-clause-unfit
returns-in-len1-clause-unfit c =
    let row = row_of c.args.f in
    let a = c.a-item.result in
    let one : c.args.args.now ≡ a ∷ [] = one_item c.args.args.now a c.in-len1.len_at_least c.in-len1.len_below c.a-item.is in
    let Missing : Value → Type 0 = λ y. FitsCells row (cells_of a) (cells_of y) in
    let Fits : List Value → Type 0 = λ xs. FitsValues row xs in
    λ unfit. c.of_operands.ensures.unfit (λ fits. unfit (subst Fits (sym one) (subst Missing c.nothing.ensures fits)))
