use Rattle.std.proofs.Common.{rules, ◌≡◌, ◌++◌, [], ◌∷◌, ℕ, Some, None, slice_get, map, refl, sym, ap, ◌∙◌, length}
use Rattle.std.specs.Option.{option_copied}
use Rattle.std.proofs.lemmas.Option.{slice_get_read}
use Rattle.std.specs.List.{zip}
use Rattle.vv_types.specs.declared.value.Value.{Value, the_lemmas}
use Rattle.vv_std_values.specs.Rows.{logic_row}
use Rattle.vv_std_values.proofs.Lists.{made_more, made_past, made_all}
use Rattle.vv_std_values.proofs.gates.vectors.Goals as goal
use Rattle.vv_std_values.proofs.gates.vectors.Goals.{in-Some+in_ok-push-in-Array-Array, in_default-at}

pub loop-i-preserved : goal.loop-i-preserved
loop-i-preserved c =
    let xs = c.as_slice-x-items.result.now in
    let ys = c.in-Array-Array.ys in
    let i : ℕ = c.loop-i.i in
    let x : Value = c.x-item.result in
    let g = λ (p : Value × Value). logic_row c.args.gate p.0 p.1 in
    elim c.match-at.branch [
      | in-Some+in_ok-push-in-Array-Array w ↦
          let y : Value = w.in-Some.y.now in
          let here : slice_get xs i ≡ Some x = slice_get_read xs (length xs) i x refl c.loop-i-test.true c.x-item.is in
          let there : slice_get ys i ≡ Some y =
          ap (λ ys. slice_get ys i) (sym c.as_slice.ensures) ∙ sym c.at.ensures ∙ ap option_copied w.in-Some.is in
          w.elements-is ∙ w.in_ok-push-in-Array-Array.ensures.ok
          ∙ ap (λ item. c.loop-i.elements ++ item ∷ []) w.logics.ensures
          ∙ made_more g xs ys i c.loop-i.elements c.loop-i.invariant x y here there
      | in_default-at w ↦
          let past : slice_get ys i ≡ None =
          ap (λ ys. slice_get ys i) (sym c.as_slice.ensures) ∙ sym c.at.ensures ∙ ap option_copied w.in_default-at.is in
          w.elements-is ∙ made_past g xs ys i c.loop-i.elements c.loop-i.invariant past
    ]

pub returns-after-loop-i : goal.returns-after-loop-i
returns-after-loop-i c =
    let xs = c.as_slice-x-items.result.now in
    let g = λ (p : Value × Value). logic_row c.args.gate p.0 p.1 in
    let all = made_all g xs c.in-Array-Array.ys c.loop-i.i c.loop-i.elements c.loop-i.invariant c.loop-i-test.false in
    let made : c.loop-i.elements ≡ map g (zip c.in-Array-Array.xs c.in-Array-Array.ys) =
    all ∙ ap (λ xs. map g (zip xs c.in-Array-Array.ys)) c.as_slice-x-items.ensures in
    rw (c.in-Array-Array.is-0, c.in-Array-Array.is-1, made) (search (rules, the_lemmas))
