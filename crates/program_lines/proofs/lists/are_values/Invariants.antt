use Rattle.std.proofs.Common.{◌≡◌, length}
use Rattle.std.specs.Prelude.{is_some}
use Rattle.document_forms.specs.Words.{each}
use Rattle.document_forms.specs.Weights.{value_of}
use Rattle.program_forms.specs.Forms.{values_of}
use Rattle.program_lines.proofs.lists.are_values.Given as goal

abbrev pub invariant-loop-piece : goal.invariant-loop-piece
invariant-loop-piece l = is_some (each value_of l.pieces) ≡ is_some (values_of l.words)

abbrev pub decreases-loop-piece : goal.decreases-loop-piece
decreases-loop-piece l = length l.pieces
