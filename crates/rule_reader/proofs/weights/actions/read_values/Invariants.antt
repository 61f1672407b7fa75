use Rattle.std.proofs.Common.{◌≡◌, List, ◌++◌, length}
use Rattle.std.specs.Prelude.{option_map}
use Rattle.document_forms.specs.Words.{is_comma, parted_outside, each}
use Rattle.document_forms.specs.Weights.{ValueForm, value_of}
use Rattle.rule_reader.specs.private.ActionReads.{HasValues}
use Rattle.rule_reader.proofs.weights.actions.read_values.Given as goal

-- The values are those that were read, and those of the pieces that are left.
abbrev pub invariant-loop-piece : goal.invariant-loop-piece
invariant-loop-piece l =
    (done : List ValueForm)
    × HasValues l.items l.targets done l.values
    × (each value_of (parted_outside 0 is_comma l.words) ≡ option_map (λ more. done ++ more) (each value_of l.pieces))

abbrev pub decreases-loop-piece : goal.decreases-loop-piece
decreases-loop-piece l = length l.pieces
