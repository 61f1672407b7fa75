-- How far the way back along a run has come.
use Rattle.std.specs.Prelude.{ℕ, ◌≤◌, Bool, List, length, drop, map}
use Rattle.pushdown_rules.specs.Pushdown.{Pushdown}
use Rattle.pushdown_rules.specs.Values.{rules_of}
use Rattle.diagram_store.specs.Meaning.{bits_of}
use Rattle.relation_laws.specs.Building.{Parts}
use Rattle.relation_laws.specs.Relations.{leads}
use Rattle.relation_weights.specs.declared.rel_map.RelMap.{RelMap}
use Rattle.relation_weights.specs.Relations.{relation_operations}
use Rattle.run_settings.specs.Settings.{slot_at, LeadAlong}
use Rattle.run_settings.specs.declared.machine.Past.{Past}
use Rattle.run_settings.specs.private.Links.{IsLinked, with_maps}
use Rattle.run_settings.specs.private.Moments.{Moment}
use Rattle.run_settings.specs.private.Walks.{machine_at, ArePast}

-- What is kept of the moments before is that of the first rules, the values so far link the present moment, and from it
-- settings lead along the other rules.
pub record IsWayBack (n : ℕ) (p : Pushdown ℕ Parts RelMap) (run : List ℕ) (past : List Past) (at : Moment) (later : List (List Bool)) : Type 0 where
  pub kept : ArePast p run (length past) past
  pub short : length past ≤ length run
  pub linked : IsLinked n (machine_at p run (length past)) at
  pub lead : LeadAlong (relation_operations n) n leads slot_at (rules_of (relation_operations n) p (drop (length past) run))
      (with_maps (machine_at p run (length past)).frames at.saved) (bits_of at.present) (map bits_of later)
