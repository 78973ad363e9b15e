use Rattle.std.proofs.Common.{◌≡◌, map, ap, ◌∙◌, sym, subst, Bool, List}
use Rattle.vv_gate_run.specs.Order.{NoneSet, IsChosen}
use Rattle.vv_gate_run.specs.declared.vhdl.Part.{Part}
use Rattle.vv_gate_run.proofs.Turns.{none_ready, one_ready, same_flags, chosen_set}
use Rattle.vv_gate_run.proofs.vhdl.next_turn.Goals as goal

pub returns-in-Some-clause-can : goal.returns-in-Some-clause-can
returns-in-Some-clause-can c =
    let parts = c.args.state.now.parts.items in
    let flags : c.deref-2.result.now ≡ map (λ (p : Part). p.ready) parts = c.deref-2.ensures.value ∙ (c.in_ok-ready.ensures ∙ ap (map (λ (p : Part). p.ready)) c.deref.ensures.value) in
    one_ready parts c.in-Some.process (chosen_set c.args.order (map (λ (p : Part). p.ready) parts) c.in-Some.process (subst (λ (l : List Bool). IsChosen c.args.order l c.in-Some.process) flags c.in-Some.ensures))

pub returns-in-Some-clause-chosen : goal.returns-in-Some-clause-chosen
returns-in-Some-clause-chosen c =
    let parts = c.args.state.now.parts.items in
    let flags : c.deref-2.result.now ≡ map (λ (p : Part). p.ready) parts = c.deref-2.ensures.value ∙ (c.in_ok-ready.ensures ∙ ap (map (λ (p : Part). p.ready)) c.deref.ensures.value) in
    subst (λ (l : List Bool). IsChosen c.args.order l c.in-Some.process) (flags ∙ same_flags parts) c.in-Some.ensures

pub returns-then-branch-clause-can : goal.returns-then-branch-clause-can
returns-then-branch-clause-can c =
    let parts = c.args.state.now.parts.items in
    let flags : c.deref-2.result.now ≡ map (λ (p : Part). p.ready) parts = c.deref-2.ensures.value ∙ (c.in_ok-ready.ensures ∙ ap (map (λ (p : Part). p.ready)) c.deref.ensures.value) in
    (none_ready parts (subst NoneSet flags c.in_default.ensures), sym c.in_ok-differs.ensures ∙ c.if-branch.true)

pub returns-clause-can : goal.returns-clause-can
returns-clause-can c =
    let parts = c.args.state.now.parts.items in
    let flags : c.deref-2.result.now ≡ map (λ (p : Part). p.ready) parts = c.deref-2.ensures.value ∙ (c.in_ok-ready.ensures ∙ ap (map (λ (p : Part). p.ready)) c.deref.ensures.value) in
    (none_ready parts (subst NoneSet flags c.in_default.ensures), sym c.in_ok-differs.ensures ∙ c.if-branch.false)
