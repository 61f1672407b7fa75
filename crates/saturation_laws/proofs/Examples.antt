-- Small states and lists on which the definitions are worked out.
use Rattle.std.proofs.Common.{◌≡◌, inl, inr, ℕ, ◌+◌, true, List, [], ◌∷◌, ◌++◌, refl}
use Rattle.std.specs.Prelude.{Option, None, Some, nat_eq, nat_le, replicate, slice_set, if◌then◌else◌}
use Rattle.semiring_laws.specs.Semiring.{Operations}
use Rattle.weighted_automata.specs.declared.place.Place.{Place}
use Rattle.weighted_automata.specs.declared.place.Label.TheVariants.{Symbol, Empty}
use Rattle.weighted_automata.specs.declared.transitions.Entry.{Entry}
use Rattle.weighted_automata.specs.Places.{same_place}
use Rattle.witness_graph.specs.declared.node.Node.{Node}
use Rattle.witness_graph.specs.declared.node.Node.TheVariants.{Start, Lower}
use Rattle.witness_graph.specs.declared.node.Side.TheVariants.{Pre, Post}
use Rattle.pushdown_rules.specs.declared.rule.Rule.{Rule}
use Rattle.pushdown_rules.specs.Pushdown.{Pushdown}
use Rattle.saturation_laws.specs.declared.job.JobKind.{JobKind}
use Rattle.saturation_laws.specs.declared.job.JobKind.TheVariants.{PreStep, PostEnter, PostLeave}
use Rattle.saturation_laws.specs.declared.job.Job.{Job}
use Rattle.saturation_laws.specs.declared.holding.Holding.{Holding}
use Rattle.saturation_laws.specs.declared.event.Event.{Event}
use Rattle.saturation_laws.specs.declared.event.Event.TheVariants.{Take, Settle, GiveBack}
use Rattle.saturation_laws.specs.Jobs.{Tables, named_rule, named_first}
use Rattle.saturation_laws.specs.Queues.{queued}
use Rattle.saturation_laws.specs.States.{CoreState, replay}
use Rattle.saturation_laws.specs.Bound.{takes, takes_of, gives, fallen}
use Rattle.saturation_laws.specs.Openings.{opening_state}
use Rattle.saturation_laws.specs.Paths.{IsPath, joined, along, IsOpened}

-- Costs: the less of two, and the sum along a run. 100 stands for no run.
abbrev costs : Operations ℕ ℕ
costs = record {
  zero = 100;
  one = 0;
  combine = λ a b. if nat_le a b then a else b;
  extend = ◌+◌;
  after = λ h w. h + w;
  plain = 0;
  same = nat_eq;
  fits = λ w. true;
  fits_map = λ h. true;
  rank = λ w. w;
  top_rank = 100;
}

-- Weights that tell how a product was put together.
abbrev told : Operations (List ℕ) ℕ
told = record {
  zero = [];
  one = [];
  combine = λ a b. a;
  extend = ◌++◌;
  after = λ h w. w;
  plain = 0;
  same = λ a b. true;
  fits = λ w. true;
  fits_map = λ h. true;
  rank = λ w. 0;
  top_rank = 0;
}

abbrev arrow : ℕ → ℕ → Place
arrow from to = record { from = from; label = Symbol 0; to = to }

abbrev silent : ℕ → ℕ → Place
silent from to = record { from = from; label = Empty; to = to }

abbrev entry : Place → ℕ → ℕ → Entry ℕ ℕ ℕ
entry x weight node = record { place = x; weight = weight; node = node }

abbrev no_hands : List (Option (Holding ℕ ℕ ℕ))
no_hands = replicate 64 None

abbrev rule : ℕ → ℕ → List ℕ → ℕ → Rule ℕ ℕ ℕ
rule control to right weight = record { control = control; symbol = 0; to = to; right = right; weight = weight; map = None }

-- rules 0, 2 and 3 pop at one place, 1 is a step, and 4 pops at no cost that counts
abbrev system : Pushdown ℕ ℕ ℕ
system = record {
  semiring = 0;
  controls = 2;
  symbols = 1;
  rules = rule 0 1 [] 5 ∷ rule 1 1 (0 ∷ []) 1 ∷ rule 0 1 [] 3 ∷ rule 0 1 [] 7 ∷ rule 1 1 [] 100 ∷ [];
}

-- An edge that is given twice stands once. Pops at one place are combined, with a node for each that lowers, and one of
-- weight zero adds nothing. All wait.
pub opened_backwards : opening_state {S = ℕ} costs Pre system (arrow 0 2 ∷ arrow 2 3 ∷ arrow 0 2 ∷ []) ≡ record {
  transitions = entry (arrow 0 2) 0 0 ∷ entry (arrow 2 3) 0 0 ∷ entry (arrow 0 1) 3 2 ∷ [];
  nodes = Start ∷ Lower None (Some 0) None None ∷ Lower (Some 1) (Some 2) None None ∷ [];
  queue = arrow 0 2 ∷ arrow 2 3 ∷ arrow 0 1 ∷ [];
  hands = no_hands;
}
unfolding same_place
opened_backwards = refl

-- forwards the edges stand alone
pub opened_forwards : opening_state {S = ℕ} costs Post system (arrow 0 2 ∷ []) ≡ record {
  transitions = entry (arrow 0 2) 0 0 ∷ [];
  nodes = Start ∷ [];
  queue = arrow 0 2 ∷ [];
  hands = no_hands;
}
unfolding same_place
opened_forwards = refl

abbrev hub : Place
hub = arrow 0 0

abbrev gathering : Entry ℕ ℕ ℕ → Job ℕ ℕ ℕ
gathering t = record { kind = PostLeave; rule = Some 0; frame = None; first = Some t; second = None; goal = hub }

abbrev first_weight : Job ℕ ℕ ℕ → ℕ
first_weight j = elim j.first [ None ↦ 100 | Some t ↦ t.weight ]

-- Each transition gives its weight to the hub.
abbrev tables : Tables ℕ ℕ ℕ
tables = record { side = Post; rows = λ r. true; candidate = first_weight; jobs = λ ts t. gathering t ∷ [] }

abbrev a : Place
a = arrow 0 1

abbrev b : Place
b = arrow 1 2

abbrev state : List (Entry ℕ ℕ ℕ) → List Node → List Place → List (Option (Holding ℕ ℕ ℕ)) → CoreState ℕ ℕ ℕ
state more nodes queue hands = record {
  transitions = entry a 5 1 ∷ entry b 3 2 ∷ more;
  nodes = Start ∷ Lower None (Some 0) None None ∷ Lower None (Some 1) None None ∷ nodes;
  queue = queue;
  hands = hands;
}

abbrev start : CoreState ℕ ℕ ℕ
start = state [] [] (a ∷ b ∷ []) no_hands

-- the dearer hand is settled first: the hub is lowered twice, waits once, and its second node names the first
pub lowered_twice : replay costs tables start (Take 3 a ∷ Take 5 b ∷ Settle 3 ∷ Settle 5 ∷ [])
    ≡ Some (state (entry hub 3 4 ∷ []) (Lower None None (Some 1) None ∷ Lower (Some 3) None (Some 2) None ∷ []) (hub ∷ []) no_hands)
unfolding same_place
lowered_twice = refl

-- the cheaper hand is settled first: the other changes nothing
pub lowered_once : replay costs tables start (Take 3 a ∷ Take 5 b ∷ Settle 5 ∷ Settle 3 ∷ [])
    ≡ Some (state (entry hub 3 3 ∷ []) (Lower None None (Some 2) None ∷ []) (hub ∷ []) no_hands)
unfolding same_place
lowered_once = refl

-- a place that is given back waits last
pub given_back : replay costs tables start (Take 3 a ∷ GiveBack 3 ∷ []) ≡ Some (state [] [] (b ∷ a ∷ []) no_hands)
unfolding same_place
given_back = refl

-- a hand keeps its input as it was, and the event that lowers the input queues it again
pub lowered_meanwhile : replay costs tables start (Take 3 a ∷ Take 5 b ∷ Settle 3 ∷ Take 7 hub ∷ Settle 5 ∷ [])
    ≡ Some (state (entry hub 3 4 ∷ []) (Lower None None (Some 1) None ∷ Lower (Some 3) None (Some 2) None ∷ []) (hub ∷ [])
    (slice_set no_hands 7 (Some (record { place = hub; jobs = gathering (entry hub 5 3) ∷ [] }))))
unfolding same_place
lowered_meanwhile = refl

-- events that are not legal
pub no_such_seat : replay costs tables start (Take 64 a ∷ []) ≡ None
unfolding same_place
no_such_seat = refl

pub not_in_front : replay costs tables start (Take 3 b ∷ []) ≡ None
unfolding same_place
not_in_front = refl

pub has_a_hand : replay costs tables start (Take 3 a ∷ Take 3 b ∷ []) ≡ None
unfolding same_place
has_a_hand = refl

pub settled_already : replay costs tables start (Take 3 a ∷ Settle 3 ∷ Settle 3 ∷ []) ≡ None
unfolding same_place
settled_already = refl

pub given_by_another : replay costs tables start (Take 3 a ∷ GiveBack 5 ∷ []) ≡ None
unfolding same_place
given_by_another = refl

-- counts
abbrev events : List Event
events = Take 3 a ∷ Settle 3 ∷ Take 5 b ∷ GiveBack 5 ∷ Take 5 b ∷ []

pub three_takes : takes events ≡ 3
three_takes = refl

pub two_by_one_seat : takes_of 5 events ≡ 2
two_by_one_seat = refl

pub one_given_back : gives events ≡ 1
one_given_back = refl

-- ranks have fallen by 95 at one place, by 97 at another, and not at all where nothing is
pub fallen_so_far : fallen costs (entry a 5 1 ∷ entry b 3 2 ∷ []) (a ∷ b ∷ hub ∷ []) ≡ 192
unfolding same_place
fallen_so_far = refl

pub waits_once : queued a (a ∷ b ∷ []) ≡ a ∷ b ∷ []
unfolding same_place
waits_once = refl

pub waits_last : queued a (b ∷ hub ∷ []) ≡ b ∷ hub ∷ a ∷ []
unfolding same_place
waits_last = refl

-- what the node of a job names
abbrev job : JobKind → Job ℕ ℕ ℕ
job kind = record { kind = kind; rule = Some 4; frame = None; first = Some (entry a 5 1); second = None; goal = hub }

pub step_names_both : (named_rule (job PreStep) ≡ Some 4) × (named_first (job PreStep) ≡ Some (entry a 5 1))
step_names_both = (refl, refl)

pub enter_names_the_rule : (named_rule (job PostEnter) ≡ Some 4) × (named_first (job PostEnter) ≡ None)
enter_names_the_rule = (refl, refl)

pub leave_names_the_input : (named_rule (job PostLeave) ≡ None) × (named_first (job PostLeave) ≡ Some (entry a 5 1))
leave_names_the_input = (refl, refl)

-- paths: backwards in reading order, forwards the deepest first
pub joined_backwards : joined Pre ((1 ∷ 2 ∷ []) ∷ (3 ∷ []) ∷ []) ≡ 1 ∷ 2 ∷ 3 ∷ []
joined_backwards = refl

pub joined_forwards : joined Post ((1 ∷ 2 ∷ []) ∷ (3 ∷ []) ∷ []) ≡ 3 ∷ 1 ∷ 2 ∷ []
joined_forwards = refl

pub product_backwards : along told Pre ((1 ∷ []) ∷ (2 ∷ []) ∷ (3 ∷ []) ∷ []) ≡ 1 ∷ 2 ∷ 3 ∷ []
product_backwards = refl

pub product_forwards : along told Post ((1 ∷ []) ∷ (2 ∷ []) ∷ (3 ∷ []) ∷ []) ≡ 3 ∷ 2 ∷ 1 ∷ []
product_forwards = refl

-- an empty transition reads nothing
pub reads_two : IsPath (arrow 0 1 ∷ silent 1 2 ∷ arrow 2 3 ∷ []) 0 (0 ∷ 0 ∷ []) 3
reads_two = (0 ∷ [], refl, refl, (0 ∷ [], refl, refl, ([], refl, refl, (refl, refl))))

-- only a path through the stack to a final state opens a configuration
pub opens_one : IsOpened (record { edges = arrow 0 2 ∷ arrow 2 3 ∷ []; finals = 3 ∷ [] }) (record { control = 0; stack = 0 ∷ 0 ∷ [] })
opens_one = (3, (2, inl refl, (3, inr (inl refl), refl)), inl refl)
