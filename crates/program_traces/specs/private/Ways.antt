-- How far the states along a run have come.
use Rattle.std.specs.Prelude.{◌≡◌, ℕ, Bool, List, map}
use Rattle.pushdown_rules.specs.Configuration.{Configuration}
use Rattle.pushdown_rules.specs.Pushdown.{Pushdown}
use Rattle.pushdown_rules.specs.Firing.{Run}
use Rattle.pushdown_rules.specs.RunValue.{Frame}
use Rattle.pushdown_rules.specs.Values.{rules_of}
use Rattle.diagram_store.specs.Meaning.{bits_of}
use Rattle.relation_laws.specs.Building.{Parts}
use Rattle.relation_laws.specs.Relations.{leads}
use Rattle.relation_weights.specs.declared.rel_map.RelMap.{RelMap}
use Rattle.relation_weights.specs.Relations.{relation_operations}
use Rattle.setting_runs.specs.Relations.{Setting}
use Rattle.boolean_programs.specs.Programs.{Program}
use Rattle.boolean_machine.specs.Machine.{State}
use Rattle.lowering_laws.specs.States.{states_along}
use Rattle.run_settings.specs.Settings.{Along, slot_at, moments, LeadAlong}

-- the states along the rest of a run, from a configuration, the settings at its open calls and those that lead on
abbrev pub states_on : Program → Pushdown ℕ Parts RelMap → List ℕ → Configuration → List (Frame Setting RelMap) → Along → List State
states_on p system run c calls along =
    let s = relation_operations system.semiring in
    let rules = rules_of s system run in
    states_along p system c run (record { accumulator = bits_of along.first; frames = calls }) (moments s rules calls (bits_of along.first) (map bits_of along.later))

-- The rest of the run leads on from the present configuration, and settings lead along it, from those that are saved, the
-- newest first.
pub record IsOnWay (system : Pushdown ℕ Parts RelMap) (run : List ℕ) (here : Configuration) (calls : List (Frame Setting RelMap)) (saved : List (List Bool)) (along : Along) : Type 0 where
  pub runs : (end : Configuration) × Run system here run end
  pub calls_are : map (λ (f : Frame Setting RelMap). f.saved) calls ≡ map bits_of saved
  pub lead : let s = relation_operations system.semiring in
      LeadAlong s system.semiring leads slot_at (rules_of s system run) calls (bits_of along.first) (map bits_of along.later)
