-- The rows of the forward table.
use Rattle.std.specs.Prelude.{ℕ, Bool, true, false, ◌&&◌, nat_eq, List, [], ◌∷◌, Option, None, Some, is_none, slice_get, if◌then◌else◌}
use Rattle.semiring_laws.specs.Semiring.{Operations}
use Rattle.weighted_automata.specs.declared.place.Place.{Place}
use Rattle.weighted_automata.specs.declared.place.Label.TheVariants.{Empty}
use Rattle.weighted_automata.specs.Places.{same_label, same_place}
use Rattle.pushdown_rules.specs.declared.rule.Rule.{Rule}
use Rattle.pushdown_rules.specs.Pushdown.{Pushdown}
use Rattle.saturation_laws.specs.declared.job.JobKind.{JobKind}
use Rattle.saturation_laws.specs.declared.job.JobKind.TheVariants.{PostStep, PostPopMiddle, PostPopOther, PostEnter, PostLeave, PostGlue}
use Rattle.saturation_laws.specs.declared.job.Job.{Job}
use Rattle.saturation_laws.specs.Jobs.{Row}
use Rattle.saturation_laws.specs.States.{weight_of}
use Rattle.direction_parts.specs.Places.{arrow, reads_symbol}
use Rattle.direction_parts.specs.Passes.{one_symbol, two_symbols}
use Rattle.direction_parts.specs.Worths.{after_return}
use Rattle.poststar_laws.specs.declared.drawn.Drawn.{Drawn}
use Rattle.poststar_laws.specs.Middles.{middle_of, frame_of}

-- the place between two states that reads nothing
abbrev pub skip : ℕ → ℕ → Place
skip from to = record { from = from; label = Empty; to = to }

abbrev pub drawn_to : Place → Option Drawn
drawn_to goal = Some (record { frame = None; goal = goal })

module _ {S W Map : Type 0} where
  abbrev pub is_pop : Rule S W Map → Bool
  is_pop r = elim r.right [ [] ↦ true | g ∷ gs ↦ false ]

  -- a step, from (p, g, q) to (p', g', q)
  abbrev pub step_drawn : Rule S W Map → ℕ → Option Drawn
  step_drawn r q = elim (one_symbol r.right) [ None ↦ None | Some g ↦ drawn_to (arrow r.to g q) ]

  -- a pop that returns to the push rule of which q is the middle, from (p, g, q) to (p', empty, q)
  abbrev pub return_drawn : Option ℕ → Rule S W Map → ℕ → Option Drawn
  return_drawn frame r q = elim frame [ None ↦ None | Some m ↦ if is_pop r then Some (record { frame = Some m; goal = skip r.to q }) else None ]

  -- a pop where q is no middle
  abbrev pub pop_drawn : Option ℕ → Rule S W Map → ℕ → Option Drawn
  pop_drawn frame r q = if is_none frame && is_pop r then drawn_to (skip r.to q) else None

  -- what a push leaves on top leads to the push's middle state
  abbrev pub enter_drawn : ℕ → Rule S W Map → Option Drawn
  enter_drawn middle r = elim (two_symbols r.right) [ None ↦ None | Some w ↦ drawn_to (arrow r.to w.0 middle) ]

  -- what it leaves below leads on from there
  abbrev pub leave_drawn : ℕ → Rule S W Map → ℕ → Option Drawn
  leave_drawn middle r q = elim (two_symbols r.right) [ None ↦ None | Some w ↦ drawn_to (arrow middle w.1 q) ]

  -- what a rule with a middle state draws to q, by kind, where q is the middle of a frame
  abbrev pub drawn : JobKind → Option ℕ → ℕ → Rule S W Map → ℕ → Option Drawn
  drawn kind frame middle r q = elim kind [
    | PostStep ↦ step_drawn r q
    | PostPopMiddle ↦ return_drawn frame r q
    | PostPopOther ↦ pop_drawn frame r q
    | PostEnter ↦ enter_drawn middle r
    | PostLeave ↦ leave_drawn middle r q
    | _ ↦ None
  ]

  -- the place over a rule's head, to q
  abbrev pub head_to : Rule S W Map → ℕ → Place
  head_to r q = arrow r.control r.symbol q

abbrev pub same_number : Option ℕ → Option ℕ → Bool
same_number None None = true
same_number None (Some m) = false
same_number (Some k) None = false
same_number (Some k) (Some m) = nat_eq k m

-- the row's frame and goal are what was drawn
abbrev pub is_drawn : Option Drawn → Row → Bool
is_drawn None row = false
is_drawn (Some d) row = same_number row.frame d.frame && same_place row.goal d.goal

-- an empty place leads to where the other begins, which reads a symbol
abbrev pub are_glued : Place → Place → Bool
are_glued x y = reads_symbol x.label && (same_label y.label Empty && nat_eq y.to x.from)

-- both as one
abbrev pub glued : Place → Place → Place
glued x y = record { from = y.from; label = x.label; to = x.to }

module _ {S W Map : Type 0} (base : ℕ) (p : Pushdown S W Map) where
  -- what the rule of number k draws from a place to q
  abbrev pub draws : JobKind → ℕ → Rule S W Map → ℕ → Option Drawn
  draws kind k r q = drawn kind (frame_of base p.rules q) (middle_of base p.rules k) r q

  abbrev pub rule_row : ℕ → Rule S W Map → Row → Bool
  rule_row k r row = elim row.first [
    | None ↦ false
    | Some x ↦ same_place x (head_to r x.to) && (is_none row.second && is_drawn (draws row.kind k r x.to) row)
  ]

  abbrev pub head_row : Row → Bool
  head_row row = elim row.rule [ None ↦ false | Some k ↦ elim (slice_get p.rules k) [ None ↦ false | Some r ↦ rule_row k r row ] ]

  abbrev pub glue_inputs : Row → Option Place → Option Place → Bool
  glue_inputs row first second = elim first [
    | None ↦ false
    | Some x ↦ elim second [ None ↦ false | Some y ↦ are_glued x y && same_place row.goal (glued x y) ]
  ]

  -- which rows there are: first the one that reads a symbol, then the empty one, and no rule
  abbrev pub glue_row : Row → Bool
  glue_row row = is_none row.rule && (is_none row.frame && glue_inputs row row.first row.second)

  -- which rows there are
  abbrev pub post_rows : Row → Bool
  post_rows row = elim row.kind [ PostGlue ↦ glue_row row | _ ↦ head_row row ]

module _ {S W Map : Type 0} (s : Operations W Map) where
  -- the input, and then the rule
  abbrev pub step_worth : Rule S W Map → Job S W Map → W
  step_worth r j = s.extend (weight_of s j.first) r.weight

  -- what the return map of the frame's push rule makes of a pop
  abbrev pub returned_worth : Option (Rule S W Map) → Rule S W Map → Job S W Map → W
  returned_worth None r j = s.zero
  returned_worth (Some u) r j = after_return s u (step_worth r j)

  -- where two meet, the deeper one first
  abbrev pub glue_worth : Job S W Map → W
  glue_worth j = s.extend (weight_of s j.first) (weight_of s j.second)

  -- of a job of a rule, with the rule of its frame, by kind
  abbrev pub rule_candidate : Option (Rule S W Map) → Rule S W Map → Job S W Map → W
  rule_candidate frame r j = elim j.kind [
    | PostStep ↦ step_worth r j
    | PostPopMiddle ↦ returned_worth frame r j
    | PostPopOther ↦ step_worth r j
    | PostEnter ↦ r.weight
    | PostLeave ↦ weight_of s j.first
    | _ ↦ s.zero
  ]

  -- of a job of the rule, if it is there
  abbrev pub at_rule : Option (Rule S W Map) → Option (Rule S W Map) → Job S W Map → W
  at_rule frame None j = s.zero
  at_rule frame (Some r) j = rule_candidate frame r j

  abbrev pub worth_by : Option (Rule S W Map) → Option (Rule S W Map) → Job S W Map → W
  worth_by frame rule j = elim j.kind [ PostGlue ↦ glue_worth j | _ ↦ at_rule frame rule j ]

-- the rule of a number
abbrev pub rule_named : {S W Map : Type 0} → List (Rule S W Map) → Option ℕ → Option (Rule S W Map)
rule_named rules None = None
rule_named rules (Some k) = slice_get rules k

abbrev pub post_candidate : {S W Map : Type 0} → Operations W Map → Pushdown S W Map → Job S W Map → W
post_candidate s p j = worth_by s (rule_named p.rules j.frame) (rule_named p.rules j.rule) j

module _ {S W Map : Type 0} (operations : S → Operations W Map) (p : Pushdown S W Map) where
  -- the same over the system's own semiring
  abbrev pub candidate_of : Job S W Map → W
  candidate_of j = post_candidate (operations p.semiring) p j

  -- of a job of the rule with this number
  abbrev pub rule_worth_of : Option ℕ → Job S W Map → W
  rule_worth_of rule j = at_rule (operations p.semiring) (rule_named p.rules j.frame) (rule_named p.rules rule) j

  -- of a pop of the rule that returns to the push rule with this number
  abbrev pub returned_worth_of : Option ℕ → Rule S W Map → Job S W Map → W
  returned_worth_of frame r j = returned_worth (operations p.semiring) (rule_named p.rules frame) r j
