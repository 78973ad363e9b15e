-- The flat design of a sound file's text keeps the file's meaning.
use Rattle.std.proofs.Common.{◌≡◌, ℕ, ◌+◌, ◌*◌, ◌≤◌, false, List, [], ◌∷◌, length, subst, ◌∙◌}
use Rattle.vv_vast.specs.Flat.{Flat, IsFlat, IsAcyclic, FlatDesign}
use Rattle.vv_gate.specs.Tree.{GateFile, ports_of}
use Rattle.vv_gate.specs.Conditions.{IsSound}
use Rattle.vv_cycle.specs.Processes as vhdl
use Rattle.vv_cycle.specs.Turns.{VState, Turn, IsSettled, IsClean, any_clash, changes, after_turns}
use Rattle.vv_cycle.specs.Rows.{Entry, InRun, Powered, Entered, LawfulRow, power_on, entered, row}
use Rattle.vv_cycle.proofs.Bound.{few_from}
use Rattle.vv_cycle.proofs.Complete.{stuck_is_settled}
use Rattle.vv_cycle.proofs.Runs.{Fine, run_kept, in_run}
use Rattle.vv_events.specs.Steps.{State, Choice}
use Rattle.vv_gate_vhdl.specs.Design.{gate_design, IsSoundGate, gate_rank, none_held, gate_give}
use Rattle.vv_gate_vhdl.proofs.Clean.{clean_first, clean_readied, turns_clean, gate_quiet}
use Rattle.vv_gate_vhdl.proofs.Ranks.{gate_ranked, process_count}
use Rattle.vv_gate_vhdl.proofs.Settles.{fine_run, later}
use Rattle.vv_gate_vhdl.proofs.Sound.{sound_gate}
use Rattle.vv_gate_verilog.specs.Events.{start_of, row_of, after, AtRest}
use Rattle.vv_gate_verilog.proofs.Ends.{power_on_rests, row_rests, power_on_bound, row_bound, power_on_stuck, row_stuck}
use Rattle.vv_gate_text.specs.Made.{module_of}
use Rattle.vv_gate_agree.specs.Agreement.{InputsAgree, Agrees, row4}
use Rattle.vv_gate_agree.specs.Meaning.{SettlesIn, EndsQuiet, Begins, PowerOn, Row, AlwaysSettles, AlwaysQuiet, KeepsMeaning, MeaningKept}
use Rattle.vv_gate_agree.proofs.Laws.{text_stands}
use Rattle.vv_gate_agree.proofs.Rows.{row_only, power_on_agrees, row_agrees}

-- no state of a run has met a clash
clean_run : (f : GateFile) (s : VState) → InRun (gate_design f) s → any_clash s.parts ≡ false
clean_run f s r =
    in_run (gate_design f) (λ x. any_clash x.parts ≡ false) (clean_first (gate_design f).processes)
    (λ a b u h can to. subst (λ o. IsClean (after_turns (gate_design f) o [])) to (turns_clean (gate_design f) (gate_quiet f) a (u ∷ []) h))
    (λ a es h end lawful. clean_readied (gate_design f).processes (changes a.nets.values (entered (gate_design f) es a.nets.values)) a.parts ∙ h)
    s r

module _ (f : GateFile) (flat : Flat) (sound : IsSoundGate f) (stands : IsFlat (module_of f) flat) (acyclic : IsAcyclic flat) where
  abbrev d : vhdl.Design
  d = gate_design f

  -- what is known where power-on or a row begins
  data Begun : VState → State → Type 0 where
    First : Begun (power_on d) (start_of flat)
    Later : (t : VState) (w : State) (es : List Entry) → InRun d t → IsSettled d t → AtRest flat w → InputsAgree f t.nets.values w.bits → LawfulRow d es → Begun (row d t es) (row_of flat w (row4 f es))

  -- and where it has ended
  record Ended (t : VState) (w : State) : Type 0 where
    run : InRun d t
    rest : AtRest flat w
    inputs : InputsAgree f t.nets.values w.bits
    outputs : Agrees f t.nets.values w.bits

  ended : (s t : VState) (ts : List Turn) (v : State) (cs : List Choice) → Begun s v → SettlesIn f s ts t → EndsQuiet flat v cs → Ended t (after flat v cs)
  ended s t ts v cs First e q =
      let both = power_on_agrees f flat sound stands acyclic ts t cs e.can e.to e.settled q.can q.quiet in
      record {
        run = (later d (power_on d) ts t Powered e.can e.to).run;
        rest = (power_on_rests (module_of f) flat cs stands acyclic q.can q.quiet).0;
        inputs = both.0;
        outputs = both.1;
      }
  ended s t ts v cs (Later a w es run settled rest agree lawful) e q =
      let both = row_agrees f flat sound stands acyclic a w es ts t cs run settled rest agree lawful e.can e.to e.settled q.can q.quiet in
      record {
        run = (later d (row d a es) ts t (Entered a es run settled lawful) e.can e.to).run;
        rest = (row_rests (module_of f) flat w (row4 f es) cs stands acyclic rest (row_only f flat stands es) q.can q.quiet).0;
        inputs = both.0;
        outputs = both.1;
      }

  begun : (s : VState) (v : State) → Begins f flat s v → Begun s v
  begun s v PowerOn = First
  begun s v (Row a t ts w cs es before e q lawful) =
      let end = ended a t ts w cs (begun a w before) e q in
      Later t (after flat w cs) es end.run e.settled end.rest end.inputs lawful

  in_run_at : (s : VState) (v : State) → Begun s v → InRun d s
  in_run_at s v First = Powered
  in_run_at s v (Later a w es run settled rest agree lawful) = Entered a es run settled lawful

  settles : (s : VState) → InRun d s → AlwaysSettles f s
  settles s run =
      record {
        short = λ ts can. subst (λ n. length ts ≤ (n + 1) * 3) (process_count (ports_of f) f.assignments) (few_from d (InRun d) (gate_rank f) 2 none_held (gate_give f) s ts (gate_ranked f sound) (run_kept d) fine.known fine.rested fine.parts can);
        clean = λ ts can. turns_clean d (gate_quiet f) s ts (clean_run f s run);
        settled = λ ts t can to stuck. stuck_is_settled d t stuck;
      }
    where
      fine : Fine d (InRun d) none_held (gate_give f) s
      fine = fine_run f sound s run

  quiets : (s : VState) (v : State) → Begun s v → AlwaysQuiet flat v
  quiets s v First =
      record {
        short = λ cs can. power_on_bound (module_of f) flat cs stands acyclic can;
        quiet = λ cs can stuck. power_on_stuck (module_of f) flat cs stands acyclic can stuck;
      }
  quiets s v (Later a w es run settled rest agree lawful) =
      record {
        short = λ cs can. row_bound (module_of f) flat w (row4 f es) cs stands acyclic rest.quiet can;
        quiet = λ cs can stuck. row_stuck (module_of f) flat w (row4 f es) cs stands acyclic rest (row_only f flat stands es) can stuck;
      }

  pub keeps_meaning : KeepsMeaning f flat
  keeps_meaning =
      record {
        objects = stands.objects;
        vhdl = λ s v b. settles s (in_run_at s v (begun s v b));
        verilog = λ s v b. quiets s v (begun s v b);
        agree = λ s t ts v cs b e q. let end = ended s t ts v cs (begun s v b) e q in (end.inputs, end.outputs);
      }

pub text_keeps_meaning : (top name : List ℕ) (f : GateFile) (flat : Flat) → IsSound top f → FlatDesign (module_of f ∷ []) name flat → MeaningKept f flat
unfolding MeaningKept
text_keeps_meaning top name f flat sound design = keeps_meaning f flat (sound_gate top f sound) (text_stands name f flat design) design.acyclic
