use Rattle.std.proofs.Common.{◌≡◌, ℕ, List, ◌++◌, length, Some}
use Rattle.document_forms.specs.Words.{each}
use Rattle.document_forms.specs.Weights.{target_of}
use Rattle.program_forms.specs.Forms.{list_of}
use Rattle.program_statements.specs.Parts.{HasTargets}
use Rattle.program_statements.proofs.targets.read_targets.Given as goal

-- The targets are those that were read, and those of the pieces that are left.
abbrev pub invariant-loop-piece : goal.invariant-loop-piece
invariant-loop-piece l = (vs : List (List ℕ)) → list_of l.words ≡ Some vs
    → (done : List (List ℕ)) × (left : List (List ℕ)) × HasTargets l.names done l.read
    × (each target_of l.pieces ≡ Some left) × (done ++ left ≡ vs)

abbrev pub decreases-loop-piece : goal.decreases-loop-piece
decreases-loop-piece l = length l.pieces
