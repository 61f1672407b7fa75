use Rattle.std.proofs.Common.{◌≡◌, ℕ, List, ◌++◌, length}
use Rattle.std.specs.Prelude.{option_map}
use Rattle.document_forms.specs.Words.{is_comma, parted, each}
use Rattle.document_forms.specs.Weights.{target_of}
use Rattle.rule_reader.specs.private.ActionReads.{HasTargets}
use Rattle.rule_reader.proofs.weights.actions.read_targets.Given as goal

-- The targets are those that were read, and those of the pieces that are left.
abbrev pub invariant-loop-piece : goal.invariant-loop-piece
invariant-loop-piece l =
    (done : List (List ℕ))
    × HasTargets l.items done l.targets
    × (each target_of (parted is_comma l.words) ≡ option_map (λ more. done ++ more) (each target_of l.pieces))

abbrev pub decreases-loop-piece : goal.decreases-loop-piece
decreases-loop-piece l = length l.pieces
