-- What was found so far, as a state, and how it changes.
use Rattle.std.specs.Prelude.{◌≡◌, ℕ, ◌≤◌, ◌<◌, List, Option, None, Some, IfSome, IsTrue, is_some, ◌||◌, length}
use Rattle.semiring_laws.specs.Semiring.{Operations, Fits}
use Rattle.weighted_automata.specs.declared.place.Place.{Place}
use Rattle.saturation_laws.specs.declared.holding.Holding.{Holding}
use Rattle.saturation_laws.specs.States.{CoreState, Change}
use Rattle.saturation_laws.specs.Openings.{AreKept}
use Rattle.saturation_core.specs.declared.found.Found.{Found}
use Rattle.saturation_core.specs.declared.parts.Parts.{Parts}
use Rattle.saturation_core.specs.declared.plan.Planned.{Planned}
use Rattle.saturation_core.specs.private.Plans.{HaveRoom}

module _ {S W Map : Type 0} where
  -- the state with these hands
  abbrev pub with_hands : Found S W Map → List (Option (Holding S W Map)) → CoreState S W Map
  with_hands f hands = record { transitions = f.transitions.transitions; nodes = f.graph.nodes; queue = f.transitions.queue; hands = hands }

  -- the step makes the one of the other, whatever hands are out
  abbrev pub Becomes : Found S W Map → (CoreState S W Map → CoreState S W Map) → Found S W Map → Type 0
  Becomes old step new = (hands : List (Option (Holding S W Map))) → with_hands new hands ≡ step (with_hands old hands)

  -- each transition has a weight of the semiring and a node of the graph
  abbrev pub IsKept : Operations W Map → Found S W Map → Type 0
  IsKept s f = AreKept s f.transitions.transitions (length f.graph.nodes)

  -- The lowerings of a plan can be made without memory.
  pub record HasRoomFor (plan : List (Planned S W Map)) (f : Found S W Map) : Type 0 where
    pub places : HaveRoom f.transitions.room plan
    pub spare : length plan ≤ f.graph.spare
    pub queue : length plan ≤ f.transitions.spare
    pub marks : length plan ≤ f.transitions.marks

-- the weight of a rule for a place, whose runs get the rule alone
abbrev pub rule_change : {W : Type 0} → Place → W → ℕ → Change W
rule_change place weight rule = record { goal = place; weight = weight; rule = Some rule; first = None; second = None }

-- a weight for a place, whose runs are made of these parts
abbrev pub change_by : {W : Type 0} → Place → W → Parts → Change W
change_by place weight parts = record { goal = place; weight = weight; rule = parts.rule; first = parts.first; second = parts.second }

-- A change with a weight of the semiring, whose parts are earlier nodes.
pub record IsFitChange {W Map : Type 0} (s : Operations W Map) (m : ℕ) (c : Change W) : Type 0 where
  pub weight : Fits s c.weight
  pub first : IfSome c.first (λ k. k < m)
  pub second : IfSome c.second (λ k. k < m)
  pub part : IsTrue (is_some c.rule || (is_some c.first || is_some c.second))
