-- The kinds of the passes over the rules, the rules that they go over, and states that fit in 32 bits.
use Rattle.std.specs.Prelude.{ℕ, Bool, false, Option, None, Some, ◌+◌, ◌≤◌}
use Rattle.wpds_base.specs.Limits.{most_controls, most_items}
use Rattle.weighted_automata.specs.declared.place.Label.{Label}
use Rattle.weighted_automata.specs.declared.place.Label.TheVariants.{Symbol, Empty}
use Rattle.pushdown_rules.specs.declared.rule.Rule.{Rule}
use Rattle.pushdown_rules.specs.Rows.{has_head}
use Rattle.saturation_laws.specs.declared.job.JobKind.{JobKind}
use Rattle.saturation_laws.specs.declared.job.JobKind.TheVariants.{PostStep, PostPopMiddle, PostPopOther, PostEnter, PostLeave}
use Rattle.poststar.specs.declared.pass.Pass.{Pass}
use Rattle.poststar.specs.declared.pass.Pass.TheVariants.{Steps, Returns, Pops, Enters, Leaves}

abbrev pub kind_of : Pass → JobKind
kind_of Steps = PostStep
kind_of Returns = PostPopMiddle
kind_of Pops = PostPopOther
kind_of Enters = PostEnter
kind_of Leaves = PostLeave

-- how many symbols the rules of a pass have on the right
abbrev pub pushed_by : Pass → ℕ
pushed_by Steps = 1
pushed_by Returns = 0
pushed_by Pops = 0
pushed_by Enters = 2
pushed_by Leaves = 2

-- the pass over the pop rules that a transition may draw from, where it leads to the middle of a frame
abbrev pub pops_of : Option ℕ → Pass
pops_of None = Pops
pops_of (Some m) = Returns

-- whether a rule fires where a transition begins that reads a symbol
abbrev pub fires_on : {S W Map : Type 0} → ℕ → Label → Rule S W Map → Bool
fires_on from (Symbol g) r = has_head from g r
fires_on from Empty r = false

-- behind the controls and the items of a pattern at most
abbrev pub IsBase : ℕ → Type 0
IsBase base = base ≤ most_controls + most_items
