-- Settings along a run: a first one, and one behind each rule.
use Rattle.std.specs.Prelude.{◌≡◌, ℕ, Bool, List, [], ◌∷◌, map, unwrap_or, slice_index_or}
use Rattle.semiring_laws.specs.Semiring.{Operations}
use Rattle.pushdown_rules.specs.declared.rule.Rule.{Rule}
use Rattle.pushdown_rules.specs.RunValue.{Frame, Machine}
use Rattle.diagram_store.specs.Meaning.{bits_of}
use Rattle.relation_laws.specs.Building.{Parts}
use Rattle.relation_laws.specs.Relations.{leads}
use Rattle.relation_weights.specs.declared.rel_map.Slot.{Slot}
use Rattle.relation_weights.specs.declared.rel_map.Slot.TheVariants.{Caller, Callee}
use Rattle.relation_weights.specs.declared.rel_map.RelMap.{RelMap}
use Rattle.relation_weights.specs.declared.rel_map.RelMap.TheVariants.{Plain, Slots}
use Rattle.relation_weights.specs.Relations.{relation_operations}
use Rattle.setting_runs.specs.Relations.{Setting}
use Rattle.setting_runs.specs.Settings.{Goes}

-- where a return map takes a variable from
abbrev pub slot_at : RelMap → ℕ → Slot
slot_at Plain v = Callee v
slot_at (Slots slots) v = slice_index_or slots v Caller

-- a first setting, and one behind each rule, each as the list of its bits
pub record Along : Type 0 where
  pub first : List Bool
  pub later : List (List Bool)

abbrev pub first_of : List (List Bool) → List Bool
first_of later = elim later [ [] ↦ [] | y ∷ rest ↦ y ]

-- without the first
abbrev pub rest_of : {X : Type 0} → List X → List X
rest_of xs = elim xs [ [] ↦ [] | x ∷ rest ↦ rest ]

module _ {S W Map : Type 0} (s : Operations W Map) where
  -- the settings at the open calls behind a rule that leaves this word
  abbrev pub calls_after : Rule S W Map → List ℕ → List (Frame Setting Map) → Setting → List (Frame Setting Map)
  calls_after r word gs z = elim word [
    | [] ↦ rest_of gs
    | a ∷ as' ↦ elim as' [ [] ↦ gs | b ∷ bs ↦ record { saved = z; map = unwrap_or r.map s.plain } ∷ gs ]
  ]

  -- the moments of settings
  abbrev pub moments : List (Rule S W Map) → List (Frame Setting Map) → Setting → List Setting → List (Machine Setting Map)
  moments [] gs z later = []
  moments (r ∷ rs) gs z [] = []
  moments (r ∷ rs) gs z (y ∷ later) =
      record { accumulator = y; frames = calls_after r r.right gs z } ∷ moments rs (calls_after r r.right gs z) y later

  module _ (n : ℕ) (relates : W → Setting → Setting → Bool) (slots : Map → ℕ → Slot) where
    -- each rule leads from one setting to the next
    abbrev pub LeadAlong : List (Rule S W Map) → List (Frame Setting Map) → Setting → List Setting → Type 0
    LeadAlong [] gs z later = later ≡ []
    LeadAlong (r ∷ rs) gs z [] = ⊥
    LeadAlong (r ∷ rs) gs z (y ∷ later) =
        Goes s n relates slots r r.right gs z (calls_after r r.right gs z) y × LeadAlong rs (calls_after r r.right gs z) y later

-- Settings of n bits that lead along rules whose weights are relations.
pub record AreSettings {S : Type 0} (n : ℕ) (rules : List (Rule S Parts RelMap)) (along : Along) : Type 0 where
  pub lead : LeadAlong (relation_operations n) n leads slot_at rules [] (bits_of along.first) (map bits_of along.later)
