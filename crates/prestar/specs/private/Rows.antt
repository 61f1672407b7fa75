-- What passes by rows cite.
use Rattle.std.specs.Prelude.{ℕ, Bool, ◌&&◌}
use Rattle.saturation_laws.specs.declared.job.JobKind.{JobKind}
use Rattle.weighted_automata.specs.declared.place.Label.TheVariants.{Symbol}
use Rattle.weighted_automata.specs.declared.transitions.Entry.{Entry}
use Rattle.weighted_automata.specs.Places.{same_label, same_place}
use Rattle.weighted_automata.specs.Entries.{is_from}
use Rattle.pushdown_rules.specs.declared.rule.Rule.{Rule}
use Rattle.pushdown_rules.specs.Rows.{goes_onto, pushes_over}
use Rattle.direction_parts.specs.Places.{arrow}
use Rattle.prestar_laws.specs.Jobs.{goes_on}

module _ {S W Map : Type 0} (controls : ℕ) (kind : JobKind) where
  -- a transition from one state over a symbol to another may be the first input of the rule
  abbrev pub may_be_first : ℕ → ℕ → ℕ → Rule S W Map → Bool
  may_be_first from symbol to r = goes_on controls kind to && goes_onto from symbol r

  -- it may be the second input
  abbrev pub may_be_second : ℕ → ℕ → Rule S W Map → Bool
  may_be_second from symbol r = goes_on controls kind from && pushes_over symbol r

  -- the second input of a push that leaves g on top of h, where the first is taken
  abbrev pub is_second : Rule S W Map → ℕ → ℕ → Entry S W Map → Entry S W Map → Bool
  is_second r g h t u = (is_from r.to (Symbol g) t && goes_on controls kind t.place.to) && is_from t.place.to (Symbol h) u

  -- the first input, where the second is taken
  abbrev pub is_first : Rule S W Map → ℕ → ℕ → Entry S W Map → Entry S W Map → Bool
  is_first r g h t u = (same_label t.place.label (Symbol h) && goes_on controls kind t.place.from) && same_place u.place (arrow r.to g t.place.from)
