use Rattle.std.proofs.Common.{◌≡◌, length}
use Rattle.std.specs.List.{list_all}
use Rattle.document_forms.specs.Words.{is_comma, parted}
use Rattle.program_lines.proofs.ListLemmas.{is_free_piece}
use Rattle.program_lines.proofs.lists.is_free_list.Given as goal

abbrev pub invariant-loop-piece : goal.invariant-loop-piece
invariant-loop-piece l = list_all is_free_piece l.pieces ≡ list_all is_free_piece (parted is_comma l.words)

abbrev pub decreases-loop-piece : goal.decreases-loop-piece
decreases-loop-piece l = length l.pieces
