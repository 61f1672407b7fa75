-- The jobs of a transition, forwards.
use Rattle.std.specs.Prelude.{ℕ, List, [], ◌++◌, Option, None, Some}
use Rattle.std.specs.List.{flat_map}
use Rattle.semiring_laws.specs.Semiring.{Operations}
use Rattle.weighted_automata.specs.declared.place.Label.TheVariants.{Symbol}
use Rattle.weighted_automata.specs.declared.transitions.Entry.{Entry}
use Rattle.weighted_automata.specs.Entries.{is_from}
use Rattle.witness_graph.specs.declared.node.Side.TheVariants.{Post}
use Rattle.pushdown_rules.specs.declared.rule.Rule.{Rule}
use Rattle.pushdown_rules.specs.Pushdown.{Pushdown}
use Rattle.saturation_laws.specs.declared.job.JobKind.{JobKind}
use Rattle.saturation_laws.specs.declared.job.JobKind.TheVariants.{PostStep, PostPopMiddle, PostPopOther, PostEnter, PostLeave, PostGlue}
use Rattle.saturation_laws.specs.declared.job.Job.{Job}
use Rattle.saturation_laws.specs.Jobs.{Tables}
use Rattle.direction_parts.specs.Passes.{only_if, by_rule}
use Rattle.poststar_laws.specs.Middles.{middle_of, frame_of}
use Rattle.poststar_laws.specs.declared.drawn.Drawn.{Drawn}
use Rattle.poststar_laws.specs.Rows.{drawn, are_glued, glued, post_rows, post_candidate}

module _ {S W Map : Type 0} where
  -- the job that a rule draws from a transition
  abbrev pub drawn_job : JobKind → ℕ → Drawn → Entry S W Map → Job S W Map
  drawn_job kind k d t = record { kind = kind; rule = Some k; frame = d.frame; first = Some t; second = None; goal = d.goal }

  abbrev pub jobs_drawn : JobKind → ℕ → Rule S W Map → Entry S W Map → Option Drawn → List (Job S W Map)
  jobs_drawn kind k r t None = []
  jobs_drawn kind k r t (Some d) = only_if (is_from r.control (Symbol r.symbol) t) (drawn_job kind k d t)

  -- the job of a kind of the rule of number k, whose middle state is given, and so is the frame of which the transition
  -- leads to the middle
  abbrev pub rule_jobs : JobKind → Option ℕ → ℕ → Entry S W Map → ℕ → Rule S W Map → List (Job S W Map)
  rule_jobs kind frame middle t k r = jobs_drawn kind k r t (drawn kind frame middle r t.place.to)

  -- the job of a transition that reads a symbol, and an empty one
  abbrev pub glue_job : Entry S W Map → Entry S W Map → Job S W Map
  glue_job t u = record { kind = PostGlue; rule = None; frame = None; first = Some t; second = Some u; goal = glued t.place u.place }

  -- of two transitions, whichever of them reads a symbol
  abbrev pub glue_jobs : Entry S W Map → Entry S W Map → List (Job S W Map)
  glue_jobs t u = only_if (are_glued t.place u.place) (glue_job t u) ++ only_if (are_glued u.place t.place) (glue_job u t)

module _ {S W Map : Type 0} (base : ℕ) (p : Pushdown S W Map) where
  -- the jobs of one kind, by rule
  abbrev pub of_kind : JobKind → Entry S W Map → ℕ → Rule S W Map → List (Job S W Map)
  of_kind kind t k r = rule_jobs kind (frame_of base p.rules t.place.to) (middle_of base p.rules k) t k r

  abbrev pub kind_jobs : JobKind → Entry S W Map → List (Job S W Map)
  kind_jobs kind t = by_rule (of_kind kind t) 0 p.rules

  -- by kind, by rule, and then by the other transition
  abbrev pub post_jobs : List (Entry S W Map) → Entry S W Map → List (Job S W Map)
  post_jobs ts t =
      kind_jobs PostStep t ++ (kind_jobs PostPopMiddle t ++ (kind_jobs PostPopOther t ++ (kind_jobs PostEnter t ++ (kind_jobs PostLeave t ++ flat_map (glue_jobs t) ts))))

  -- what the forward direction makes of a system
  abbrev pub post_tables : Operations W Map → Tables S W Map
  post_tables s = record { side = Post; rows = post_rows base p; candidate = post_candidate s p; jobs = post_jobs }
