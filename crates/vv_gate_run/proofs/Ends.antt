-- In a run of a sound file over lawful rows few turns are possible.
use Rattle.std.proofs.Common.{◌≡◌, ℕ, ◌+◌, ◌*◌, ◌-◌, ◌^◌, ◌≤◌, List, [], ◌∷◌, length, Option, refl, ap, subst, ◌∙◌, arith, Bool}
use Rattle.std.specs.Prelude.{min, Result, Ok, Err, IfErr}
use Rattle.std.proofs.lemmas.List.{length-map}
use Rattle.vv_bits.specs.declared.nine.S9.{S9}
use Rattle.vv_cycle.specs.Processes.{Design}
use Rattle.vv_cycle.specs.Ranks.{Ranked}
use Rattle.vv_cycle.specs.Rows.{InRun, Powered, Turned, Entered}
use Rattle.vv_cycle.specs.Turns.{VState, after_turns}
use Rattle.vv_cycle.proofs.Bound.{few_from}
use Rattle.vv_cycle.proofs.Runs.{Fine, order_fine, power_fine, row_fine, run_kept}
use Rattle.vv_gate.specs.Tree.{GateFile, ports_of}
use Rattle.vv_gate_vhdl.specs.Design.{gate_design, gate_process, gate_rank, gate_give, none_held, IsSoundGate}
use Rattle.vv_gate_vhdl.proofs.Ranks.{gate_ranked}
use Rattle.vv_gate_run.specs.declared.order.RunFault.{RunFault}
use Rattle.vv_gate_run.specs.declared.order.RunFault.TheVariants.{Endless, Memory}
use Rattle.vv_gate_run.specs.Vhdl.{HasTurns}

in_fine : (d : Design) (rank : ℕ → ℕ) (e : ℕ) (held : List S9 → ℕ → Bool) (give : ℕ → ℕ → List S9 → List S9) → Ranked d (InRun d) rank e held give → (s : VState) → InRun d s → Fine d (InRun d) held give s
in_fine d rank e held give ranked _ Powered = power_fine d held give
in_fine d rank e held give ranked _ (Turned s t u r can to) =
    order_fine d (InRun d) rank e held give s (u ∷ []) ranked (run_kept d) (in_fine d rank e held give ranked s r) (can, tt) t (ap (λ (o : Option VState). after_turns d o []) to)
in_fine d rank e held give ranked _ (Entered s es r end lawful) =
    row_fine d rank e held give s es ranked (in_fine d rank e held give ranked s r) end lawful

few : (f : GateFile) (s : VState) (n : ℕ) → IsSoundGate f → InRun (gate_design f) s → HasTurns (gate_design f) s n → n ≤ (length f.assignments + 1) * 3
few f s n sound r h =
    let d = gate_design f in
    let g = in_fine d (gate_rank f) 2 none_held (gate_give f) (gate_ranked f sound) s r in
    let l : length h.0 ≤ (length d.processes + 1) * 3 = few_from d (InRun d) (gate_rank f) 2 none_held (gate_give f) s h.0 (gate_ranked f sound) (run_kept d) g.known g.rested g.parts h.1 in
    let p : length d.processes ≡ length f.assignments = length-map f.assignments (gate_process (ports_of f)) in
    omega (arith, l, p, h.2)

-- so many turns as the program allows are not possible
pub too_many : (f : GateFile) (s : VState) (a b most : ℕ) → a ≡ min (length f.assignments + 1) (2 ^ 64 - 1) → b ≡ min (a * 3) (2 ^ 64 - 1) → most ≡ min (b + 1) (2 ^ 64 - 1) → IsSoundGate f → InRun (gate_design f) s → HasTurns (gate_design f) s most → ⊥
too_many f s a b most ea eb em sound r h =
    let l = few f s most sound r h in
    let small = h.3 in
    omega (arith, l, small, ea, eb, em)

-- so a run that has not ended is not one of a sound file
pub ends : {R : Type 0} (f : GateFile) (d : Design) (s : VState) (n a b most : ℕ) (result : Result R RunFault) → d ≡ gate_design f → n ≡ length f.assignments → a ≡ min (n + 1) (2 ^ 64 - 1) → b ≡ min (a * 3) (2 ^ 64 - 1) → most ≡ min (b + 1) (2 ^ 64 - 1) → IfErr result (λ e. e ≡ Endless → HasTurns d s most) → IfErr result (λ e. IsSoundGate f → InRun (gate_design f) s → e ≡ Memory)
ends f d s n a b most (Ok r) de ne ea eb em h = tt
ends f d s n a b most (Err Memory) de ne ea eb em h = λ sound r. refl
ends f d s n a b most (Err Endless) de ne ea eb em h =
    λ sound r. absurd (too_many f s a b most (ea ∙ ap (λ k. min (k + 1) (2 ^ 64 - 1)) ne) eb em sound r (subst (λ (g : Design). HasTurns g s most) de (h refl)))
