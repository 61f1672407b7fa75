-- The states of a run of the machine, as they are held.
use Rattle.std.proofs.Common.{◌≡◌, ℕ, zero, suc, ◌<◌, List, [], ◌∷◌, length, get_or, map, refl, sym, ap₂, subst, arith}
use Rattle.std.proofs.lemmas.Option.{same_Some, slice_get_within}
use Rattle.pushdown_rules.specs.Configuration.{Configuration}
use Rattle.pushdown_rules.specs.Pushdown.{Pushdown}
use Rattle.pushdown_rules.specs.Firing.{Run}
use Rattle.pushdown_rules.proofs.CallerLemmas.{fired}
use Rattle.lowering_laws.specs.Queries.{IsTrace}
use Rattle.program_traces.specs.Traces.{entry_of, IsRunTrace}
use Rattle.boolean_programs.specs.Lists.{Each}
use Rattle.boolean_programs.specs.Programs.{Program}
use Rattle.boolean_machine.specs.Lawful.{IsLawful}
use Rattle.boolean_machine.specs.Machine.{State, IsStart, Moves, Follow, IsProgramRun}
use Rattle.boolean_machine.specs.States.{IsState}
use Rattle.boolean_meaning.specs.declared.state.State.{State as HeldState}
use Rattle.boolean_meaning.specs.HeldStates.{state_of, held, IsHeld}
use Rattle.boolean_meaning.proofs.CallerLemmas.{state_back, state_held}

module _ (p : Program) (lawful : IsLawful p) (starts : (s : State) → IsStart p s → IsState p s) (moves : (from to : State) → IsState p from → Moves p from to → IsState p to) where
  abbrev AreStates : List State → Type 0
  AreStates ts = Each (IsState p) ts

  follow_states : (s : State) (ts : List State) → IsState p s → Follow p s ts → AreStates (s ∷ ts)
  follow_states s ts is follow zero x at = subst (IsState p) (same_Some s x at) is
  follow_states s [] is follow (suc k) x at = cc
  follow_states s (t ∷ ts) is follow (suc k) x at = follow_states t ts (moves s t is follow.0) follow.1 k x at

  pub run_states : (ts : List State) → IsProgramRun p ts → AreStates ts
  run_states [] run = absurd run
  run_states (s ∷ ts) run = follow_states s ts (starts s run.0) run.1

module _ (p : Program) where
  pub all_back : (ts : List State) → Each (IsState p) ts → map (state_of p) (map held ts) ≡ ts
  all_back [] all = refl
  all_back (t ∷ ts) all = ap₂ (λ (x : State) (xs : List State). x ∷ xs) (state_back p t (all 0 t refl)) (all_back ts (λ k x at. all (suc k) x at))

  pub all_held : (ts : List State) → Each (IsState p) ts → Each (IsHeld p) (map held ts)
  all_held [] all k x at = cc
  all_held (t ∷ ts) all zero x at = subst (λ (s : HeldState). IsHeld p s) (same_Some (held t) x at) (state_held p t (all 0 t refl))
  all_held (t ∷ ts) all (suc k) x at = all_held ts (λ j y here. all (suc j) y here) k x at

-- ---- a run fires rules that are there

pub run_within : {S W Map : Type 0} (system : Pushdown S W Map) (run : List ℕ) (c d : Configuration) → Run system c run d → (i default : ℕ) → i < length run → get_or run i default < length system.rules
run_within system [] c d goes i default below = absurd (omega arith)
run_within system (k ∷ run) c d goes zero default below = slice_get_within system.rules k (fired system k c goes.0 goes.1).rule (fired system k c goes.0 goes.1).there
run_within system (k ∷ run) c d goes (suc i) default below = run_within system run goes.0 d goes.2 i default (omega arith)

pub traced : {S W Map : Type 0} (p : Program) (system : Pushdown S W Map) (run : List ℕ) → IsLawful p → ((s : State) → IsStart p s → IsState p s) → ((from to : State) → IsState p from → Moves p from to → IsState p to)
    → (ts : List State) → IsProgramRun p ts → IsTrace p system (entry_of p) run ts → IsRunTrace p system run (map held ts)
traced p system run lawful starts moves ts is_run is_trace =
    let all = run_states p lawful starts moves ts is_run in
    let back = all_back p ts all in
    record { are_held = all_held p ts all; is_run = subst (IsProgramRun p) (sym back) is_run; is_trace = subst (IsTrace p system (entry_of p) run) (sym back) is_trace }
