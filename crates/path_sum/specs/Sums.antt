-- The sum over the paths that read a pattern, as a state that grows.
use Rattle.std.specs.List.{list_any}
use Rattle.std.specs.Prelude.{◌≡◌, ℕ, ◌+◌, Bool, ◌&&◌, nat_eq, List, [], ◌∷◌, ◌++◌, length, Option, None, Some, replicate, option_map, option_and_then, if◌then◌else◌}
use Rattle.config_patterns.specs.Edges.{is_final_of}
use Rattle.pattern_openings.specs.PatternOpenings.{place_by, places_by}
use Rattle.config_patterns.specs.Membership.{PatternValue}
use Rattle.config_patterns.specs.declared.edge.Edge.{Edge}
use Rattle.saturation_laws.specs.Paths.{in_order}
use Rattle.saturation_laws.specs.States.{CoreState, Change, apply}
use Rattle.saturation_laws.specs.declared.opening.Opening.{Opening}
use Rattle.semiring_laws.specs.Semiring.{Operations}
use Rattle.wpds_base.specs.Limits.{most_seats}
use Rattle.weighted_automata.specs.Entries.{entry_at, lowered}
use Rattle.weighted_automata.specs.Places.{has_place}
use Rattle.weighted_automata.specs.declared.place.Label.{Label}
use Rattle.weighted_automata.specs.declared.place.Label.TheVariants.{Symbol, Empty}
use Rattle.weighted_automata.specs.declared.place.Place.{Place}
use Rattle.weighted_automata.specs.declared.transitions.Entry.{Entry}
use Rattle.witness_graph.specs.declared.node.Node.{Node}
use Rattle.witness_graph.specs.declared.node.Node.TheVariants.{Start}
use Rattle.witness_graph.specs.declared.node.Side.{Side}
use Rattle.witness_graph.specs.declared.node.Side.TheVariants.{Pre, Post}

-- The automaton of a pattern: its control, how many states it has, its edges, and which states are final. State 0 stands for the control.
pub record Ways : Type 0 where
  pub control : ℕ
  pub states : ℕ
  pub edges : List Place
  pub final : ℕ → Bool

abbrev pub edge_place : Edge → Place
edge_place e = place_by (λ i. i) e

abbrev pub ways_of : PatternValue → Ways
ways_of d = record {
  control = d.control;
  states = length d.items + 1;
  edges = places_by (λ i. i) d.items;
  final = is_final_of d.items;
}

-- A pair of a state of the pattern and a state of the automaton, as a place, and the place of the answer.
abbrev pub pair_place : ℕ → ℕ → Place
pair_place i q = record { from = i; label = Empty; to = q }

abbrev pub answer_place : Place
answer_place = record { from = 0; label = Symbol 0; to = 0 }

abbrev pub can_move : List Place → ℕ → Label → ℕ → Bool
can_move edges i (Symbol g) j = has_place (record { from = i; label = Symbol g; to = j }) edges
can_move edges i Empty j = nat_eq i j

abbrev pub has_state : ℕ → List ℕ → Bool
has_state q states = list_any (λ r. nat_eq r q) states

-- One move of a sum: along a transition to a pair, from a pair of final states to the answer, or past the first pair that waits.
pub data Move : Type 0 where
  Along : ℕ → ℕ → Place → Move
  End : ℕ → ℕ → Move
  Done : Move

-- the first two parts of a node, in the side's order
abbrev pub first_part : Side → ℕ → ℕ → ℕ
first_part Pre pair transition = pair
first_part Post pair transition = transition

abbrev pub second_part : Side → ℕ → ℕ → ℕ
second_part Pre pair transition = transition
second_part Post pair transition = pair

module _ {S W Map : Type 0} (s : Operations W Map) (side : Side) where
  abbrev pub along_change : ℕ → Entry S W Map → Entry S W Map → Change W
  along_change j u t = record {
    goal = pair_place j t.place.to;
    weight = in_order s side u.weight t.weight;
    rule = None;
    first = Some (first_part side u.node t.node);
    second = Some (second_part side u.node t.node);
  }

  abbrev pub end_change : Entry S W Map → Change W
  end_change u = record { goal = answer_place; weight = u.weight; rule = None; first = Some u.node; second = None }

  module _ (o : Opening) (ts : List (Entry S W Map)) (ways : Ways) where
    -- the sum after an addition, where it may be made
    abbrev pub move : Move → CoreState S W Map → Option (CoreState S W Map)
    move (Along i j x) st =
        if can_move ways.edges i x.label j
        then option_and_then (λ u. option_map (λ t. apply s (along_change j u t) st) (entry_at x ts)) (entry_at (pair_place i x.from) st.transitions)
        else None
    move (End i q) st =
        if ways.final i && has_state q o.finals
        then option_map (λ u. apply s (end_change u) st) (entry_at (pair_place i q) st.transitions)
        else None
    move Done st = elim st.queue [
      | [] ↦ None
      | x ∷ q ↦ Some (record { transitions = st.transitions; nodes = st.nodes; queue = q; hands = st.hands })
    ]

    abbrev pub grow : CoreState S W Map → List Move → Option (CoreState S W Map)
    grow st [] = Some st
    grow st (m ∷ ms) = option_and_then (λ n. grow n ms) (move m st)

  -- the sum that nothing was added to, over the nodes of a book
  abbrev pub bare_sum : List Node → Ways → CoreState S W Map
  bare_sum nodes ways = record {
    transitions = lowered (pair_place 0 ways.control) s.one (length nodes) [];
    nodes = nodes ++ Start ∷ [];
    queue = pair_place 0 ways.control ∷ [];
    hands = replicate most_seats None;
  }

  -- The state is grown from transitions, their graph, an opening and a pattern.
  pub record IsGrown (o : Opening) (ts : List (Entry S W Map)) (nodes : List Node) (ways : Ways) (st : CoreState S W Map) : Type 0 where
    pub moves : List Move
    pub grows : grow o ts ways (bare_sum nodes ways) moves ≡ Some st
