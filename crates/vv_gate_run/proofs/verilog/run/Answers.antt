use Rattle.std.proofs.Common.{◌≡◌, ◌<◌, ◌+◌, ◌++◌, ◌∷◌, [], ap, ◌∙◌, sym, subst, Bool, List, length, map, arith, rules}
use Rattle.std.proofs.lemmas.List.{length-map, length-append, map-append}
use Rattle.vv_events.specs.Steps as steps
use Rattle.vv_events.specs.Steps.{Act}
use Rattle.vv_gate_verilog.specs.Events.{events_of}
use Rattle.vv_gate_run.specs.Flat.{item_of, flat_of}
use Rattle.vv_gate_run.specs.Order.{IsChosen}
use Rattle.vv_gate_run.specs.Verilog.{state_of, AllNext}
use Rattle.vv_gate_run.proofs.Events.{events_length, run_more, can_run_more, next_run_more}
use Rattle.vv_gate_run.proofs.Few.{flags_stay, set_inside}
use Rattle.vv_gate_run.proofs.Turns.{chosen_set}
use Rattle.vv_gate_run.proofs.verilog.run.Goals as goal

pub steps-preserved : goal.steps-preserved
steps-preserved c =
    let d = events_of (flat_of c.args.flat.now) in
    let items = c.args.flat.now.items.items in
    let start = state_of c.args.start in
    let old = map Act c.steps.items.items in
    let i = c.in-Some.item in
    let e : map Act c.push.new.self.items ≡ old ++ Act i ∷ [] = ap (map Act) c.in_ok-push.ensures.items ∙ map-append Act c.steps.items.items (i ∷ []) in
    let n : c.len.result ≡ length items = search rules in
    let m : length d ≡ length items = events_length (map item_of items) ∙ length-map items item_of in
    let inside : i < length d = omega (arith, n, m) in
    let chosen : IsChosen c.args.order c.steps.state.active.items i = subst (λ (l : List Bool). IsChosen c.args.order l i) c.deref.ensures.value c.in-Some.ensures in
    let active = chosen_set c.args.order c.steps.state.active.items i chosen in
    let can : steps.CanStep d (steps.run d start old) (Act i) = subst (λ (s : steps.State). steps.CanStep d s (Act i)) (sym c.steps.invariant.after) (inside, active) in
    let next : IsChosen c.args.order (steps.run d start old).active i = subst (λ (s : steps.State). IsChosen c.args.order s.active i) (sym c.steps.invariant.after) chosen in
    record {
      can = subst (steps.CanRun d start) (sym e) (can_run_more d start old (Act i) c.steps.invariant.can can);
      ordered = subst (AllNext c.args.order d start) (sym e) (next_run_more c.args.order d start old (Act i) c.steps.invariant.ordered next);
      taken = ap length c.in_ok-push.ensures.items ∙ (length-append c.steps.items.items (i ∷ []) ∙ ap (λ k. k + 1) c.steps.invariant.taken);
      flags = ap (λ (s : steps.State). length s.active) c.in_ok-state.ensures ∙ (flags_stay (map item_of items) (state_of c.steps.state) i ∙ c.steps.invariant.flags);
      after = ap (steps.run d start) e ∙ (run_more d start old (Act i) ∙ (ap (λ (s : steps.State). steps.step d s (Act i)) c.steps.invariant.after ∙ sym c.in_ok-state.ensures));
    }

pub returns-then-item-len-clause-endless : goal.returns-then-item-len-clause-endless
returns-then-item-len-clause-endless c = λ e short.
    let items = c.args.flat.now.items.items in
    let n : c.len.result ≡ length items = search rules in
    let m : length (map item_of items) ≡ length items = length-map items item_of in
    let chosen : IsChosen c.args.order c.steps.state.active.items c.in-Some.item = subst (λ (l : List Bool). IsChosen c.args.order l c.in-Some.item) c.deref.ensures.value c.in-Some.ensures in
    let inside : c.in-Some.item < length c.steps.state.active.items = set_inside c.steps.state.active.items c.in-Some.item (chosen_set c.args.order c.steps.state.active.items c.in-Some.item chosen) in
    let same = c.steps.invariant.flags in
    absurd (omega (arith, n, m, inside, same, short))

pub returns-clause-endless : goal.returns-clause-endless
returns-clause-endless c = λ e short. (
  map Act c.steps.items.items,
  c.steps.invariant.can,
  length-map c.steps.items.items Act ∙ (c.steps.invariant.taken ∙ omega arith),
  omega (arith, c.steps.items.ok, c.steps.items.small, c.steps.invariant.taken),
)
