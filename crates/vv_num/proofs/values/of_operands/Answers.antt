use Rattle.std.proofs.Common.{◌≡◌, IfOk, subst, ap, ◌∙◌, w32}
use Rattle.std.proofs.lemmas.Int.{to_z-of_z}
use Rattle.vv_num_cells.specs.Table.{row_of}
use Rattle.vv_num.specs.declared.values.Outcome.{Outcome}
use Rattle.vv_num.specs.Results.{outcome_back}
use Rattle.vv_num.specs.Values.{cells_of, outcome_for, size_given}
use Rattle.vv_num.proofs.Back.{outcome_is}
use Rattle.vv_num.proofs.values.of_operands.Goals as goal

pub returns-clause-fits : goal.returns-clause-fits
returns-clause-fits c =
    let row = c.row_of-row.result in
    let places = c.in_ok-places.places in
    let cells = c.in_ok-cells.cells in
    let new = c.num_in-inside.new.cells in
    let za = cells_of c.args.a.now in
    let zb = cells_of c.args.b.now in
    let n = c.first_cell-n.result in
    let sized : c.size_given.result ≡ size_given row c.in_ok-size_a.size_a c.in_ok-size_b.size_b n
    = c.size_given.ensures ∙ ap (size_given row c.in_ok-size_a.size_a c.in_ok-size_b.size_b) (to_z-of_z w32 n (record { sfits = c.first_cell-n.type_inv })) in
    let is : outcome_back row c.num_in-inside.result new places.to ≡ outcome_for (row_of c.args.f) za zb
    = outcome_is (row_of c.args.f) row za zb c.in_ok-size_a.size_a c.in_ok-size_b.size_b c.size_given.result n places cells new c.num_in-inside.result
    c.row_of-row.ensures c.in_ok-size_a.ensures c.in_ok-size_b.ensures c.first_cell-n.ensures sized
    c.in_ok-places.ensures c.in_ok-cells.ensures.left c.in_ok-cells.ensures.right c.in_ok-cells.ensures.length
    c.num_in-inside.ensures.value c.num_in-inside.ensures.answer c.num_in-inside.ensures.length in
    let Gives : Outcome → Type 0 = λ y. IfOk c.outcome_in.result (λ o. o ≡ y) in
    λ fits. subst Gives is c.outcome_in.ensures
