-- Runs that fire, and those that were looked at.
use Rattle.std.proofs.Common.{◌≡◌, ◌⊎◌, inl, inr, ℕ, Bool, Option, None, Some, List, [], ◌∷◌, ◌++◌, map, refl, sym, ap, ◌∙◌, append_assoc, append-nil}
use Rattle.std.specs.Prelude.{IsTrue, IsSome, unwrap_or, slice_get}
use Rattle.std.proofs.lemmas.Option.{same_Some}
use Rattle.pushdown_rules.specs.Pushdown.{Pushdown}
use Rattle.relation_laws.specs.Building.{Parts}
use Rattle.relation_weights.specs.declared.rel_map.RelMap.{RelMap}
use Rattle.boolean_programs.specs.Programs.{Procedure, Program}
use Rattle.boolean_programs.specs.Lines.{first_line}
use Rattle.boolean_machine.specs.Machine.{at_line}
use Rattle.boolean_meaning.specs.declared.state.Frame.{Frame as HeldFrame}
use Rattle.boolean_meaning.specs.HeldStates.{held_frame, held}
use Rattle.boolean_meaning.specs.Steps.{first_frames, start_of}
use Rattle.lowering_laws.specs.Queries.{entry_point}
use Rattle.boolean_meaning.specs.declared.state.State.{State}
use Rattle.program_laws.proofs.CallerLemmas.{each_more}
use Rattle.program_traces.specs.Traces.{FiresFromEntry}
use Rattle.program_traces.specs.Firsts.{HasFeasible}
use Rattle.tests_program_traces.specs.Checked.{IsTraced, AreTraced}

-- the point of the first frame of a start, by main
by_main : (main : Option Procedure) (locals : ℕ → Bool) (frame : HeldFrame) → slice_get (map held_frame (first_frames main locals)) 0 ≡ Some frame
    → at_line (first_line (unwrap_or main (record { params = 0; locals = 0; returns = 0; body = [] })).body) ≡ frame.point
by_main None locals frame e = cc
by_main (Some main) locals frame e = ap (λ (f : HeldFrame). f.point) (same_Some _ frame e)

pub begins : (p : Program) (globals locals : ℕ → Bool) (frame : HeldFrame) → slice_get (held (start_of p globals locals)).frames 0 ≡ Some frame → entry_point p ≡ frame.point
begins p globals locals frame e = by_main (slice_get p.procs p.main) locals frame e

module _ (p : Program) (system : Pushdown ℕ Parts RelMap) (runs left : List (List ℕ)) (found : Bool) (are : AreTraced p system runs left found) where
  more_taken : (run : List ℕ) → HasFeasible system are.taken → HasFeasible system (are.taken ++ run ∷ [])
  more_taken run has = (
    has.0,
    has.1,
    has.2 ++ run ∷ [],
    ap (λ l. l ++ run ∷ []) has.3 ∙ append_assoc has.0 (has.1 ∷ has.2) (run ∷ []),
    has.4,
  )

  pub one_more : (run : List ℕ) (rest : List (List ℕ)) (trace : Option (List State)) → left ≡ run ∷ rest → IsTraced p system run trace
      → (now : Bool) → (IsTrue now → IsTrue found ⊎ IsSome trace) → AreTraced p system runs rest now
  one_more run rest trace e is now told = record {
    taken = are.taken ++ run ∷ [];
    joins = are.joins ∙ ap (λ l. are.taken ++ l) e ∙ sym (append_assoc are.taken (run ∷ []) rest);
    fire = each_more (FiresFromEntry p system) are.taken run are.fire is.fires;
    feasible = λ yes. by (told yes);
  }
    where
      by : IsTrue found ⊎ IsSome trace → HasFeasible system (are.taken ++ run ∷ [])
      by (inl before) = more_taken run (are.feasible before)
      by (inr here) = (are.taken, run, [], refl, is.feasible here)

  pub whole : left ≡ [] → runs ≡ are.taken
  whole e = are.joins ∙ ap (λ l. are.taken ++ l) e ∙ append-nil are.taken
