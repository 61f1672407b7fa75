use Rattle.std.proofs.Common.{◌≡◌, List, ◌++◌, length, Some}
use Rattle.document_forms.specs.Words.{each}
use Rattle.document_forms.specs.Weights.{ValueForm, value_of}
use Rattle.program_forms.specs.Forms.{values_of}
use Rattle.program_statements.specs.Parts.{HasChoices}
use Rattle.program_statements.proofs.choices.read_choices.Given as goal

-- The values are those that were read, and those of the pieces that are left.
abbrev pub invariant-loop-piece : goal.invariant-loop-piece
invariant-loop-piece l = (vs : List ValueForm) → values_of l.words ≡ Some vs
    → (done : List ValueForm) × (left : List ValueForm) × HasChoices l.names done l.read
    × (each value_of l.pieces ≡ Some left) × (done ++ left ≡ vs)

abbrev pub decreases-loop-piece : goal.decreases-loop-piece
decreases-loop-piece l = length l.pieces
