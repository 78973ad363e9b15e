use Rattle.std.proofs.Common.{◌≡◌, ◌++◌, ◌∷◌, [], ◌+◌, map, length, Some, ap, ◌∙◌, sym, subst, arith}
use Rattle.std.proofs.lemmas.List.{map-append, length-append, length-map}
use Rattle.vv_cycle.specs.Turns as turns
use Rattle.vv_gate_run.specs.Circuit.{design_of}
use Rattle.vv_gate_run.specs.Vhdl.{state_of, turn_of, AllNext}
use Rattle.vv_gate_run.proofs.Turns.{after_more, can_more, next_more}
use Rattle.vv_gate_run.proofs.vhdl.run.Goals as goal

pub turns-preserved : goal.turns-preserved
turns-preserved c =
    let d = design_of c.args.circuit.now in
    let start = Some (state_of c.args.start) in
    let old = map turn_of c.turns.turns.items in
    let t = turn_of c.in-Some.turn in
    let e : map turn_of c.push.new.self.items ≡ old ++ t ∷ [] = ap (map turn_of) c.in_ok-push.ensures.items ∙ map-append turn_of c.turns.turns.items (c.in-Some.turn ∷ []) in
    let can = rw c.in-Some.is at c.in_ok-turn.ensures.can in
    let chosen = rw c.in-Some.is at c.in_ok-turn.ensures.chosen in
    record {
      can = subst (turns.CanTurns d start) (sym e) (can_more d start old t (state_of c.turns.state) c.turns.invariant.can c.turns.invariant.after can);
      after = ap (turns.after_turns d start) e ∙ after_more d start old t (state_of c.turns.state) (state_of c.in_ok-state.state) c.turns.invariant.after c.in_ok-state.ensures;
      ordered = subst (AllNext c.args.order d start) (sym e) (next_more c.args.order d start old t (state_of c.turns.state) c.turns.invariant.ordered c.turns.invariant.after chosen);
      taken = ap length c.in_ok-push.ensures.items ∙ (length-append c.turns.turns.items (c.in-Some.turn ∷ []) ∙ ap (λ n. n + 1) c.turns.invariant.taken);
    }

pub returns-clause-endless : goal.returns-clause-endless
returns-clause-endless c =
    λ e. (
      map turn_of c.turns.turns.items,
      c.turns.invariant.can,
      length-map c.turns.turns.items turn_of ∙ (c.turns.invariant.taken ∙ omega arith),
      omega (arith, c.turns.turns.ok, c.turns.turns.small, c.turns.invariant.taken),
    )
