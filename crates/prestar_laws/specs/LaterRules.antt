-- A rule that comes to a backward search later.
use Rattle.std.specs.Prelude.{◌≡◌, ℕ, ◌<◌, List, [], ◌∷◌, ◌++◌, length, map, filter, Option, None, Some, IfSome, slice_get}
use Rattle.semiring_laws.specs.Semiring.{Operations}
use Rattle.weighted_automata.specs.declared.place.Place.{Place}
use Rattle.weighted_automata.specs.declared.place.Label.TheVariants.{Symbol}
use Rattle.weighted_automata.specs.declared.transitions.Entry.{Entry}
use Rattle.weighted_automata.specs.Entries.{is_from}
use Rattle.witness_graph.specs.declared.node.Node.{Node}
use Rattle.witness_graph.specs.declared.node.Node.TheVariants.{Start, Lower}
use Rattle.pushdown_rules.specs.declared.rule.Rule.{Rule}
use Rattle.pushdown_rules.specs.Pushdown.{Pushdown}
use Rattle.saturation_laws.specs.Jobs.{place_of}
use Rattle.saturation_laws.specs.Queues.{queued}
use Rattle.saturation_laws.specs.States.{CoreState, apply}
use Rattle.saturation_laws.specs.Openings.{pop_change}
use Rattle.saturation_laws.specs.Searches.{SearchValue}

-- the queue with these places last, each unless it is there
abbrev pub all_queued : List Place → List Place → List Place
all_queued [] q = q
all_queued (x ∷ xs) q = all_queued xs (queued x q)

-- the number of the rule that a node names
abbrev pub rule_named : Node → Option ℕ
rule_named Start = None
rule_named (Lower before rule first second) = rule

-- Each node names a rule below a number, if it names one.
pub record NameRulesBelow (n : ℕ) (nodes : List Node) : Type 0 where
  pub each : (k : ℕ) (node : Node) → slice_get nodes k ≡ Some node → IfSome (rule_named node) (λ i. i < n)

module _ {S W Map : Type 0} where
  -- the system with one rule more
  abbrev pub and_rule : Pushdown S W Map → Rule S W Map → Pushdown S W Map
  and_rule p r = record p { rules = p.rules ++ r ∷ [] }

  -- the places of the transitions from a state over a symbol
  abbrev pub places_from : ℕ → ℕ → List (Entry S W Map) → List Place
  places_from state symbol ts = map place_of (filter (is_from state (Symbol symbol)) ts)

  -- the state where these places wait, too
  abbrev pub waiting : List Place → CoreState S W Map → CoreState S W Map
  waiting xs st = record { transitions = st.transitions; nodes = st.nodes; queue = all_queued xs st.queue; hands = st.hands }

  -- The state to which the rule with a number comes. A pop rule lowers its own place. Of any other rule, the transitions wait that
  -- it reads first: those from where it goes, over the symbol that it leaves on top.
  abbrev pub with_rule : Operations W Map → ℕ → Rule S W Map → CoreState S W Map → CoreState S W Map
  with_rule s k r st = elim r.right [ [] ↦ apply s (pop_change k r) st | g ∷ gs ↦ waiting (places_from r.to g st.transitions) st ]

  module _ {D : Type 0} (operations : S → Operations W Map) where
    -- the search to which a rule comes
    abbrev pub with_later_rule : Rule S W Map → SearchValue S W Map D → SearchValue S W Map D
    with_later_rule r v = record {
      system = and_rule v.system r;
      direction = v.direction;
      opening = v.opening;
      state = with_rule (operations v.system.semiring) (length v.system.rules) r v.state;
    }
