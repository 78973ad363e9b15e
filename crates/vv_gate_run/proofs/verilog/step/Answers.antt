use Rattle.std.proofs.Common.{◌≡◌, ◌∷◌, [], List, map, ap, ◌∙◌, sym}
use Rattle.vv_bits.specs.declared.four.V4.{V4}
use Rattle.vv_events.specs.Expressions.{reads, value}
use Rattle.vv_events.specs.Steps.{act, drivers_of}
use Rattle.vv_gate_verilog.specs.Events.{events_of, bit_value, expr_of as event_expr}
use Rattle.vv_gate_verilog.proofs.Laws.{value_bit}
use Rattle.vv_gate_run.specs.Flat.{expr_of, item_of, flat_of}
use Rattle.vv_gate_run.specs.Verilog.{state_of}
use Rattle.vv_gate_run.proofs.Events.{event_there, event_past, acted}
use Rattle.vv_gate_run.proofs.verilog.step.Goals as goal

pub returns-in_default : goal.returns-in_default
returns-in_default c =
    let past = event_past item_of c.args.flat.now.items.items c.deref.result.now c.args.item c.deref.ensures.value c.in_default.ensures.lookup.3 in
    c.in_ok-same.ensures ∙ sym (ap (act (events_of (flat_of c.args.flat.now)) (state_of c.args.state.now) c.args.item) past)

pub returns : goal.returns
returns c =
    let d = events_of (flat_of c.args.flat.now) in
    let s = state_of c.args.state.now in
    let acting = c.in-Some.acting.now in
    let expr = expr_of acting.value in
    let h = c.in-Some.ensures.lookup in
    let there = event_there item_of c.args.flat.now.items.items c.deref.result.now c.args.item acting c.deref.ensures.value h.3.0 h.1 in
    let driver : c.value-driver.result ≡ bit_value expr s.bits = c.value-driver.ensures ∙ ap (bit_value expr) c.deref-2.ensures.value in
    let val : value (event_expr expr) s.bits ≡ c.value-driver.result ∷ [] = value_bit expr s.bits ∙ ap (λ (v : V4). v ∷ []) (sym driver) in
    let evaluated = state_of c.in_ok-evaluated.evaluated in
    let sources : c.deref-4.result.now ≡ drivers_of d evaluated.drivers acting.target =
    c.deref-4.ensures.value ∙ (c.in_ok-sources.ensures ∙ ap (λ (l : List V4). drivers_of d (map (λ (v : V4). v ∷ []) l) acting.target) c.deref-3.ensures.value) in
    c.rested.ensures
    ∙ acted d s evaluated (state_of c.in_ok-written.written) c.args.item acting.target (reads (event_expr expr)) (value (event_expr expr)) c.value-driver.result c.resolve4.result c.deref-4.result.now
    there val c.in_ok-evaluated.ensures sources c.resolve4.ensures.value c.in_ok-written.ensures
