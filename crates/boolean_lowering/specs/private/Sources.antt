-- What is made from the source of a weight.
use Rattle.std.specs.Prelude.{ℕ, ◌+◌, ◌≤◌, ◌++◌, length, map, replicate}
use Rattle.std.specs.List.{range_with_len}
use Rattle.wpds_base.specs.Limits.{most_related}
use Rattle.truth_tables.specs.Formulas.{renamed}
use Rattle.relation_laws.specs.Building.{Parts}
use Rattle.boolean_programs.specs.declared.statement.Choice.TheVariants.{Star}
use Rattle.lowering_laws.specs.Lowering.{Effect, Assumes, Assigns, renamed_choice}
use Rattle.boolean_lowering.specs.declared.source.Source.{Source}
use Rattle.boolean_lowering.specs.declared.source.Source.TheVariants.{Assumption, Assignment, Filling}
use Rattle.boolean_lowering.specs.declared.layout.Layout.{Layout}
use Rattle.boolean_lowering.specs.private.Layouts.{variables_in, slot_in}
use Rattle.boolean_lowering.specs.private.Effects.{HasEffect, HasEffect-prop}
use Rattle.boolean_lowering.specs.private.Ways.{condition_of}

-- the effect of a source, each of whose names has such a variable
abbrev pub effect_by : (ℕ → ℕ) → Source → Effect
effect_by f (Assumption condition) = Assumes (renamed f (condition_of condition))
effect_by f (Assignment targets values) = Assigns (map f targets.now) (map (renamed_choice f) values.now)
effect_by f (Filling first values free) = Assigns (range_with_len first (length values.now + free)) (map (renamed_choice f) values.now ++ replicate free Star)

-- variables that are filled end where all do
abbrev pub IsShort : Source → Type 0
IsShort (Assumption condition) = Unit {0}
IsShort (Assignment targets values) = Unit {0}
IsShort (Filling first values free) = first + length values.now + free ≤ most_related

-- the weight of a source by a layout
abbrev pub IsWeightOf : Layout → Source → Parts → Type 0
IsWeightOf l source w = HasEffect (variables_in l) w (effect_by (slot_in l) source)

-- it is one in one way at most, so that a field may say it
pub IsWeightOf-prop : (l : Layout) (source : Source) (w : Parts) → IsProp (IsWeightOf l source w)
IsWeightOf-prop l source w = HasEffect-prop (variables_in l) w (effect_by (slot_in l) source)
