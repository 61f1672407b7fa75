use Rattle.std.proofs.Common.{◌≡◌, ◌++◌, drop, map}
use Rattle.lowering_laws.specs.Lowering.{renamed_choice}
use Rattle.lowering_laws.specs.Weights.{targets_of, values_of}
use Rattle.boolean_lowering.specs.private.Layouts.{slot_in}
use Rattle.boolean_lowering.proofs.names.assigned.Given as goal

abbrev pub invariant-loop-place : goal.invariant-loop-place
invariant-loop-place l = record {
  targets : map (slot_in l.layout) l.targets ≡ targets_of l.pairs.items ++ map (slot_in l.layout) (drop l.place l.targets);
  values : map (renamed_choice (slot_in l.layout)) l.values ≡ values_of l.pairs.items ++ map (renamed_choice (slot_in l.layout)) (drop l.place l.values);
}
