-- Settings that the values of a machine link.
use Rattle.std.specs.Prelude.{◌≡◌, ℕ, Bool, IsTrue, List, [], ◌∷◌, length}
use Rattle.pushdown_rules.specs.declared.rule.Rule.{Rule}
use Rattle.pushdown_rules.specs.RunValue.{Frame, Machine, machine_after}
use Rattle.diagram_store.specs.Meaning.{bits_of}
use Rattle.relation_laws.specs.Building.{Parts}
use Rattle.relation_laws.specs.Relations.{leads}
use Rattle.relation_weights.specs.declared.rel_map.Slot.{Slot}
use Rattle.relation_weights.specs.declared.rel_map.Slot.TheVariants.{Caller, Callee}
use Rattle.relation_weights.specs.declared.rel_map.RelMap.{RelMap}
use Rattle.relation_weights.specs.Relations.{relation_operations}
use Rattle.setting_runs.specs.Relations.{Setting, IsRestored}
use Rattle.setting_runs.specs.Settings.{Goes}
use Rattle.run_settings.specs.Settings.{slot_at, calls_after}
use Rattle.run_settings.specs.private.Moments.{Moment, newest_of, IsWide}

-- the relation leads from one list of bits to the other
abbrev pub Joins : Parts → List Bool → List Bool → Type 0
Joins w x y = IsTrue (leads w (bits_of x) (bits_of y))

-- each saved value leads from one of the settings to the next
abbrev pub AreJoined : List (Frame Parts RelMap) → List Bool → List (List Bool) → Type 0
AreJoined [] x [] = Unit {0}
AreJoined [] x (y ∷ ys) = ⊥
AreJoined (f ∷ fs) x [] = ⊥
AreJoined (f ∷ fs) x (y ∷ ys) = Joins f.saved (newest_of x ys) y × AreJoined fs x ys

-- The saved values link the settings at the open calls, and the accumulator the last of these and the present one.
pub record IsLinked (n : ℕ) (m : Machine Parts RelMap) (at : Moment) : Type 0 where
  pub calls : AreJoined m.frames at.start at.saved
  pub present : Joins m.accumulator (newest_of at.start at.saved) at.present
  pub wide : IsWide n at

-- settings with the maps of the calls at which they are
abbrev pub with_maps : List (Frame Parts RelMap) → List (List Bool) → List (Frame Setting RelMap)
with_maps [] ys = []
with_maps (f ∷ fs) [] = []
with_maps (f ∷ fs) (y ∷ ys) = record { saved = bits_of y; map = f.map } ∷ with_maps fs ys

-- a returned bit comes from the callee's setting, if it comes from the callee
abbrev pub IsBack : Slot → Setting → Bool → Type 0
IsBack Caller y b = Unit {0}
IsBack (Callee u) y b = b ≡ y u

-- The settings at a call and before the rule that returned from it, from the one at the call below and the one behind the
-- return.
pub record IsReturn (n : ℕ) (call : Frame Parts RelMap) (value weight : Parts) (below behind caller last : List Bool) : Type 0 where
  pub calls : Joins call.saved below caller
  pub ends : Joins value caller last
  pub ended : Setting
  pub returns : IsTrue (leads weight (bits_of last) ended)
  pub restored : IsRestored n (slot_at call.map) (bits_of caller) ended (bits_of behind)
  pub long_caller : length caller ≡ n
  pub long_last : length last ≡ n

-- The moment before a rule, and the one behind it.
pub record IsBefore {S : Type 0} (n : ℕ) (r : Rule S Parts RelMap) (m : Machine Parts RelMap) (behind before : Moment) : Type 0 where
  pub linked : IsLinked n m before
  pub calls : with_maps (machine_after (relation_operations n) r m).frames behind.saved ≡ calls_after (relation_operations n) r r.right (with_maps m.frames before.saved) (bits_of before.present)
  pub goes : Goes (relation_operations n) n leads slot_at r r.right (with_maps m.frames before.saved) (bits_of before.present)
      (with_maps (machine_after (relation_operations n) r m).frames behind.saved) (bits_of behind.present)
