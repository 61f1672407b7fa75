-- What is left to add to a sum, and what goes on from a pair.
use Rattle.std.specs.Prelude.{◌≡◌, ◌⊎◌, ℕ, ◌+◌, map, ◌&&◌, nat_eq, IsTrue, IsFalse, List, [], ◌∷◌, ◌++◌, drop, Option, None, Some, slice_get, IsSome, if◌then◌else◌, zero, suc}
use Rattle.config_patterns.specs.declared.item.Item.{Item}
use Rattle.config_patterns.specs.Membership.{has_symbol}
use Rattle.saturation_laws.specs.Paths.{in_order}
use Rattle.saturation_laws.specs.States.{CoreState, weight_at}
use Rattle.saturation_laws.specs.declared.opening.Opening.{Opening}
use Rattle.semiring_laws.specs.Semiring.{Operations, Below}
use Rattle.weighted_automata.specs.Entries.{entry_at, Present}
use Rattle.weighted_automata.specs.Places.{same_label}
use Rattle.weighted_automata.specs.declared.place.Label.{Label}
use Rattle.weighted_automata.specs.declared.place.Label.TheVariants.{Symbol, Empty}
use Rattle.weighted_automata.specs.declared.place.Place.{Place}
use Rattle.weighted_automata.specs.declared.transitions.Entry.{Entry}
use Rattle.witness_graph.specs.declared.node.Side.{Side}
use Rattle.wpds_base.specs.Lists.{IsIn}
use Rattle.path_sum.specs.Pairs.{states_of}
use Rattle.path_sum.specs.Sums.{Ways, answer_place, pair_place, can_move, has_state, Move, Along, End, Done}
use Rattle.path_sum.specs.private.Paths.{Moves}

module _ {S W Map : Type 0} (s : Operations W Map) (side : Side) where
  -- Nothing more is to be added.
  pub record IsSummed (o : Opening) (ts : List (Entry S W Map)) (ways : Ways) (sums : List (Entry S W Map)) : Type 0 where
    pub along : (i j : ℕ) (u t : Entry S W Map) → entry_at (pair_place i t.place.from) sums ≡ Some u → Present ts t → Moves ways.edges i t.place.label j
        → Below s (weight_at s (pair_place j t.place.to) sums) (in_order s side u.weight t.weight)
    pub ends : (i q : ℕ) (u : Entry S W Map) → entry_at (pair_place i q) sums ≡ Some u → IsTrue (ways.final i) → IsIn q o.finals → Below s (weight_at s answer_place sums) u.weight

  -- What is not yet added waits.
  pub record IsAwaited (o : Opening) (ts : List (Entry S W Map)) (ways : Ways) (st : CoreState S W Map) : Type 0 where
    pub along : (i j : ℕ) (u t : Entry S W Map) → entry_at (pair_place i t.place.from) st.transitions ≡ Some u → Present ts t → Moves ways.edges i t.place.label j
        → Below s (weight_at s (pair_place j t.place.to) st.transitions) (in_order s side u.weight t.weight) ⊎ IsIn (pair_place i t.place.from) st.queue
    pub ends : (i q : ℕ) (u : Entry S W Map) → entry_at (pair_place i q) st.transitions ≡ Some u → IsTrue (ways.final i) → IsIn q o.finals
        → Below s (weight_at s answer_place st.transitions) u.weight ⊎ IsIn (pair_place i q) st.queue

module _ {S W Map : Type 0} where
  -- the transitions stand at these places alone
  abbrev pub IsAmong : List Place → List (Entry S W Map) → Type 0
  IsAmong places ts = (x : Place) → IsSome (entry_at x ts) → IsIn x places

  -- The places have the first pair, each pair to which a transition leads from one of them, and the answer.
  pub record AreReachable (ts : List (Entry S W Map)) (ways : Ways) (places : List Place) : Type 0 where
    pub first : IsIn (pair_place 0 ways.control) places
    pub pairs : (i j : ℕ) (t : Entry S W Map) → IsIn (pair_place i t.place.from) places → Present ts t → Moves ways.edges i t.place.label j → IsIn (pair_place j t.place.to) places
    pub answer : IsIn answer_place places

  -- Moves that are no Done, with all that goes on from a pair among them.
  pub record IsWork (o : Opening) (ts : List (Entry S W Map)) (ways : Ways) (x : Place) (ms : List Move) : Type 0 where
    pub adds : IsIn Done ms → ⊥
    pub along : (i j : ℕ) (t : Entry S W Map) → x ≡ pair_place i t.place.from → Present ts t → Moves ways.edges i t.place.label j → IsIn (Along i j t.place) ms
    pub ends : (i q : ℕ) → x ≡ pair_place i q → IsTrue (ways.final i) → IsIn q o.finals → IsIn (End i q) ms

-- What goes on from a pair: along each transition from its state that the pattern goes with, and to the answer.
abbrev pub edge_moves : ℕ → ℕ → Place → List Place → List Move
edge_moves i g x [] = []
edge_moves i g x (e ∷ es) = if nat_eq e.from i && same_label e.label (Symbol g) then Along i e.to x ∷ edge_moves i g x es else edge_moves i g x es

-- The same by the items of a pattern: along a transition into an item, if it takes the symbol.
abbrev pub into_moves : ℕ → ℕ → Place → ℕ → Item → List Move
into_moves i g x to y = if has_symbol g y.set then Along i to x ∷ [] else []

-- into the items above, up to the first without star; `to` is the state of the first of them
abbrev pub on_moves : ℕ → ℕ → Place → ℕ → List Item → List Move
on_moves i g x to [] = []
on_moves i g x to (y ∷ ys) = into_moves i g x to y ++ (if y.star then on_moves i g x (suc to) ys else [])

-- from the state of an item to itself, if it is starred
abbrev pub back_moves : ℕ → ℕ → Place → Option Item → List Move
back_moves i g x None = []
back_moves i g x (Some y) = if y.star then into_moves i g x i y else []

-- the item whose state this is
abbrev pub item_at : ℕ → List Item → Option Item
item_at zero items = None
item_at (suc k) items = slice_get items k

-- along a transition that reads a symbol, from a state of the pattern
abbrev pub item_moves : ℕ → ℕ → Place → List Item → List Move
item_moves i g x items = back_moves i g x (item_at i items) ++ on_moves i g x (i + 1) (drop i items)

-- the edges lead from a state over no other label
abbrev pub ReadsAlone : List Place → ℕ → Label → Type 0
ReadsAlone edges i label = (h : ℕ) (x : Place) → IsFalse (same_label (Symbol h) label) → edge_moves i h x edges ≡ []

-- the edges have each of these moves along a transition that reads a symbol
abbrev pub HaveMoves : List Place → ℕ → ℕ → Place → List Move → Type 0
HaveMoves edges i g x ms = (j : ℕ) → IsIn (Along i j x) ms → IsTrue (can_move edges i (Symbol g) j)

module _ {S W Map : Type 0} (o : Opening) (ways : Ways) where
  abbrev pub moves_by : ℕ → Entry S W Map → List Move
  moves_by i t = elim t.place.label [ Empty ↦ Along i i t.place ∷ [] | Symbol g ↦ edge_moves i g t.place ways.edges ]

  abbrev pub pair_moves : ℕ → ℕ → List (Entry S W Map) → List Move
  pair_moves i q [] = []
  pair_moves i q (t ∷ ts) = if nat_eq t.place.from q then moves_by i t ++ pair_moves i q ts else pair_moves i q ts

module _ (o : Opening) (ways : Ways) where
  abbrev pub end_moves : ℕ → ℕ → List Move
  end_moves i q = if ways.final i && has_state q o.finals then End i q ∷ [] else []

-- the moves from a pair, and none from the answer
abbrev pub moves_of : {S W Map : Type 0} → Opening → Ways → List (Entry S W Map) → Place → List Move
moves_of o ways ts x = elim x.label [ Empty ↦ pair_moves o ways x.from x.to ts ++ end_moves o ways x.from x.to | Symbol g ↦ [] ]

-- each of so many states with each of these
abbrev pub pairs_of : ℕ → List ℕ → List Place
pairs_of zero states = []
pairs_of (suc n) states = map (pair_place n) states ++ pairs_of n states

-- each state of the pattern with each state of the automaton, and the answer
abbrev pub sum_places : {S W Map : Type 0} → Ways → List (Entry S W Map) → List Place
sum_places ways ts = answer_place ∷ pairs_of ways.states (states_of ways.control ts)
