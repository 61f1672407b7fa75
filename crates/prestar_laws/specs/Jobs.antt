-- The jobs of a transition, backwards.
use Rattle.std.specs.Prelude.{ℕ, Bool, ◌&&◌, ◌||◌, not, nat_lt, List, [], ◌++◌, None, Some, if◌then◌else◌}
use Rattle.std.specs.List.{flat_map}
use Rattle.semiring_laws.specs.Semiring.{Operations}
use Rattle.weighted_automata.specs.declared.place.Label.TheVariants.{Symbol}
use Rattle.weighted_automata.specs.declared.transitions.Entry.{Entry}
use Rattle.weighted_automata.specs.Places.{same_label, same_place}
use Rattle.weighted_automata.specs.Entries.{is_from}
use Rattle.witness_graph.specs.declared.node.Side.TheVariants.{Pre}
use Rattle.pushdown_rules.specs.declared.rule.Rule.{Rule}
use Rattle.pushdown_rules.specs.Pushdown.{Pushdown}
use Rattle.saturation_laws.specs.declared.job.JobKind.{JobKind}
use Rattle.saturation_laws.specs.declared.job.JobKind.TheVariants.{PreStep, PrePushControl, PrePushOther}
use Rattle.saturation_laws.specs.declared.job.Job.{Job}
use Rattle.saturation_laws.specs.Jobs.{Tables}
use Rattle.prestar_laws.specs.Rows.{pre_rows, pre_candidate}
use Rattle.direction_parts.specs.Places.{arrow}
use Rattle.direction_parts.specs.Passes.{only_if, one_symbol, two_symbols, by_rule}

-- whether a push of this kind goes on in the state that its callee comes to
abbrev pub goes_on : ℕ → JobKind → ℕ → Bool
goes_on controls kind q = elim kind [ PrePushControl ↦ nat_lt q controls | _ ↦ not (nat_lt q controls) ]

module _ {S W Map : Type 0} where
  abbrev pub step_job : ℕ → Rule S W Map → Entry S W Map → Job S W Map
  step_job k r t = record { kind = PreStep; rule = Some k; frame = None; first = Some t; second = None; goal = arrow r.control r.symbol t.place.to }

  abbrev pub push_job : JobKind → ℕ → Rule S W Map → Entry S W Map → Entry S W Map → Job S W Map
  push_job kind k r t u = record { kind = kind; rule = Some k; frame = None; first = Some t; second = Some u; goal = arrow r.control r.symbol u.place.to }

  -- a step rule's job
  abbrev pub step_of : Entry S W Map → ℕ → Rule S W Map → List (Job S W Map)
  step_of t k r = elim (one_symbol r.right) [ None ↦ [] | Some g ↦ only_if (is_from r.to (Symbol g) t) (step_job k r t) ]

  -- the two transitions are the inputs of a push that leaves g on top of h
  abbrev pub are_inputs : ℕ → JobKind → Rule S W Map → ℕ → ℕ → Entry S W Map → Entry S W Map → Bool
  are_inputs controls kind r g h t u = is_from r.to (Symbol g) t && (is_from t.place.to (Symbol h) u && goes_on controls kind t.place.to)

  -- the jobs of a push rule of which these two are the inputs, in either order. Where both are one, there is one such job.
  abbrev pub pair_jobs : ℕ → JobKind → ℕ → Rule S W Map → ℕ → ℕ → Entry S W Map → Entry S W Map → List (Job S W Map)
  pair_jobs controls kind k r g h t u =
      only_if (are_inputs controls kind r g h t u) (push_job kind k r t u)
      ++ only_if (not (same_place u.place t.place) && are_inputs controls kind r g h u t) (push_job kind k r u t)

  -- the transition can be an input of a push that leaves g on top of h
  abbrev pub may_be_input : Rule S W Map → ℕ → ℕ → Entry S W Map → Bool
  may_be_input r g h t = is_from r.to (Symbol g) t || same_label t.place.label (Symbol h)

  -- the jobs of a push that leaves g on top of h, by the other transition
  abbrev pub pairs_of : ℕ → JobKind → List (Entry S W Map) → Entry S W Map → ℕ → Rule S W Map → ℕ → ℕ → List (Job S W Map)
  pairs_of controls kind ts t k r g h = if may_be_input r g h t then flat_map (pair_jobs controls kind k r g h t) ts else []

  -- a push rule's jobs
  abbrev pub push_of : ℕ → JobKind → List (Entry S W Map) → Entry S W Map → ℕ → Rule S W Map → List (Job S W Map)
  push_of controls kind ts t k r = elim (two_symbols r.right) [ None ↦ [] | Some w ↦ pairs_of controls kind ts t k r w.0 w.1 ]

  -- by kind, by rule, and then by the other transition
  abbrev pub pre_jobs : Pushdown S W Map → List (Entry S W Map) → Entry S W Map → List (Job S W Map)
  pre_jobs p ts t =
      by_rule (step_of t) 0 p.rules
      ++ (by_rule (push_of p.controls PrePushControl ts t) 0 p.rules ++ by_rule (push_of p.controls PrePushOther ts t) 0 p.rules)

  -- what the backward direction makes of a system
  abbrev pub pre_tables : Operations W Map → Pushdown S W Map → Tables S W Map
  pre_tables s p = record { side = Pre; rows = pre_rows p; candidate = pre_candidate s p; jobs = pre_jobs p }
