use Rattle.std.proofs.Common.{◌≡◌, ◌+◌, ◌++◌, length, drop, map}
use Rattle.std.specs.List.{range_with_len}
use Rattle.lowering_laws.specs.Lowering.{renamed_choice}
use Rattle.lowering_laws.specs.Weights.{targets_of, values_of}
use Rattle.boolean_lowering.specs.private.Layouts.{slot_in}
use Rattle.boolean_lowering.proofs.names.push_values.Given as goal

abbrev pub invariant-loop-place : goal.invariant-loop-place
invariant-loop-place l = record {
  targets : targets_of l.initial.pairs.items ++ range_with_len l.first (length l.values) ≡ targets_of l.pairs.items ++ range_with_len (l.first + l.place) (length (drop l.place l.values));
  values : values_of l.initial.pairs.items ++ map (renamed_choice (slot_in l.layout)) l.values ≡ values_of l.pairs.items ++ map (renamed_choice (slot_in l.layout)) (drop l.place l.values);
}
