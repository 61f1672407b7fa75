-- What an answer to a query is, and what a sum answers.
use Rattle.std.specs.Prelude.{◌≡◌, ℕ, ◌+◌, ◌<◌, Bool, IsTrue, List, ◌++◌, length, Option, None, Some, ◌↔◌, ◌*◌, ◌≤◌}
use Rattle.pushdown_rules.specs.Answers.{Answers}
use Rattle.pushdown_rules.specs.Configuration.{Configuration}
use Rattle.pushdown_rules.specs.Pushdown.{Pushdown}
use Rattle.saturation_laws.specs.Paths.{IsOpened}
use Rattle.saturation_laws.specs.States.{CoreState, weight_at}
use Rattle.saturation_laws.specs.declared.opening.Opening.{Opening}
use Rattle.semiring_laws.specs.Semiring.{Operations}
use Rattle.witness_graph.specs.Shorter.{shortened}
use Rattle.weighted_automata.specs.Entries.{entry_at}
use Rattle.weighted_automata.specs.declared.transitions.Entry.{Entry}
use Rattle.witness_graph.specs.Runs.{runs_of}
use Rattle.witness_graph.specs.declared.listing.Listing.{Listing}
use Rattle.witness_graph.specs.declared.node.Node.{Node}
use Rattle.witness_graph.specs.declared.node.Side.{Side}
use Rattle.witness_graph.specs.declared.node.Side.TheVariants.{Pre, Post}
use Rattle.path_sum.specs.Pairs.{states_of}
use Rattle.path_sum.specs.Sums.{Ways, IsGrown, answer_place}
use Rattle.path_sum.specs.declared.answer.Answer.{Answer}
pub use Rattle.witness_graph.specs.Runs.{listing_runs, listed_runs}

-- where runs begin, and where they end
abbrev pub first_of : Side → (Configuration → Bool) → (Configuration → Bool) → Configuration → Bool
first_of Pre near far = near
first_of Post near far = far

abbrev pub last_of : Side → (Configuration → Bool) → (Configuration → Bool) → Configuration → Bool
last_of Pre near far = far
last_of Post near far = near

-- The answers between a pattern and what the opening reads, by way of the side: for whichever test says what the opening reads.
abbrev pub AnswersOpening : {S W Map : Type 0} → Operations W Map → Side → Pushdown S W Map → Opening → (Configuration → Bool) → W → List (List ℕ) → Type 0
AnswersOpening s side p o near v runs = (far : Configuration → Bool) → ((d : Configuration) → IsTrue (far d) ↔ (IsOpened o d × (d.control < p.controls)))
    → Answers s p (first_of side near far) (last_of side near far) v runs

module _ {S W Map : Type 0} (side : Side) (nodes added : List Node) where
  -- the listing of the answer's node, made shorter, and none where there is no answer
  abbrev pub IsListingOf : Option (Entry S W Map) → Option Listing → Type 0
  IsListingOf None listing = listing ≡ None
  IsListingOf (Some t) listing = (l : Listing) × (listing ≡ Some l) × (l.side ≡ side) × (l.nodes ≡ shortened nodes added t.node)
      × (listing_runs l ≡ runs_of side (nodes ++ added) t.node)

module _ {S W Map : Type 0} where
  -- The answer is that of a sum which is grown from these transitions, nodes, opening and pattern.
  pub record IsGrownAnswer (s : Operations W Map) (side : Side) (o : Opening) (ts : List (Entry S W Map)) (nodes : List Node) (ways : Ways) (a : Answer S W Map) : Type 0 where
    pub state : CoreState S W Map
    pub grown : IsGrown s side o ts nodes ways state
    pub value : a.value ≡ weight_at s answer_place state.transitions
    -- its nodes and those that the sum added
    pub added : List Node
    pub nodes_are : state.nodes ≡ nodes ++ added
    pub listing : IsListingOf side nodes added (entry_at answer_place state.transitions) a.listing
    -- how many nodes are added at most
    pub few : length state.nodes ≤ length nodes + (ways.states * length (states_of ways.control ts) + 1) * (s.top_rank + 1)

  -- What is shown of an answer: its value, and all of it where its listing is asked for.
  pub record IsShown (listed : Bool) (a shown : Answer S W Map) : Type 0 where
    pub value : shown.value ≡ a.value
    pub whole : IsTrue listed → shown ≡ a

  -- an answer of which this holds is shown so
  abbrev pub Shows : Bool → (Answer S W Map → Type 0) → Answer S W Map → Type 0
  Shows listed holds shown = (a : Answer S W Map) × holds a × IsShown listed a shown

  -- it is the value of an answer of which this holds
  abbrev pub IsValueOf : (Answer S W Map → Type 0) → W → Type 0
  IsValueOf holds value = (a : Answer S W Map) × holds a × (value ≡ a.value)
