-- How often a transition can be taken.
use Rattle.std.specs.Prelude.{◌≡◌, ◌⊎◌, ℕ, ◌+◌, ◌-◌, ◌≤◌, List, [], ◌∷◌, length, Some, nat_eq, Bool, true, false, if◌then◌else◌}
use Rattle.semiring_laws.specs.Semiring.{Operations}
use Rattle.weighted_automata.specs.declared.place.Place.{Place}
use Rattle.weighted_automata.specs.declared.transitions.Entry.{Entry}
use Rattle.weighted_automata.specs.Entries.{Present}
use Rattle.saturation_laws.specs.declared.job.Job.{Job}
use Rattle.saturation_laws.specs.declared.event.Event.{Event}
use Rattle.saturation_laws.specs.declared.event.Event.TheVariants.{Take, Settle, GiveBack}
use Rattle.wpds_base.specs.Lists.{IsIn}
use Rattle.saturation_laws.specs.declared.holding.Holding.{Holding}
use Rattle.saturation_laws.specs.States.{CoreState, hand_at, weight_at}

abbrev pub is_take : Event → Bool
is_take (Take seat x) = true
is_take (Settle seat) = false
is_take (GiveBack seat) = false

abbrev pub is_take_of : ℕ → Event → Bool
is_take_of k (Take seat x) = nat_eq seat k
is_take_of k (Settle seat) = false
is_take_of k (GiveBack seat) = false

abbrev pub takes : List Event → ℕ
takes [] = 0
takes (e ∷ es) = (if is_take e then 1 else 0) + takes es

-- those of one seat
abbrev pub takes_of : ℕ → List Event → ℕ
takes_of k [] = 0
takes_of k (e ∷ es) = (if is_take_of k e then 1 else 0) + takes_of k es

abbrev pub gives : List Event → ℕ
gives [] = 0
gives (Take seat x ∷ es) = gives es
gives (Settle seat ∷ es) = gives es
gives (GiveBack seat ∷ es) = 1 + gives es

module _ {S W Map : Type 0} where
  -- how far the ranks at these places have fallen
  abbrev pub fallen : Operations W Map → List (Entry S W Map) → List Place → ℕ
  fallen s ts [] = 0
  fallen s ts (x ∷ xs) = (s.top_rank - s.rank (weight_at s x ts)) + fallen s ts xs

  -- The transitions stand at places of the direction and at opening edges, and jobs lead to places of the direction.
  pub record IsWithin (places edges : List Place) (st : CoreState S W Map) : Type 0 where
    pub transitions : (t : Entry S W Map) → Present st.transitions t → IsIn t.place places ⊎ IsIn t.place edges
    pub hands : (seat : ℕ) (h : Holding S W Map) → hand_at seat st.hands ≡ Some h → (j : Job S W Map) → IsIn j h.jobs → IsIn j.goal places

  -- After these events each take is accounted for, and so is each lowering, of which each adds one node.
  pub record WithinRankBound (s : Operations W Map) (places : List Place) (old : CoreState S W Map) (es : List Event) (new : CoreState S W Map) : Type 0 where
    pub taken : takes es + length new.queue + length old.nodes ≤ length old.queue + length new.nodes + gives es
    pub lowered : length new.nodes + fallen s old.transitions places ≤ length old.nodes + fallen s new.transitions places
