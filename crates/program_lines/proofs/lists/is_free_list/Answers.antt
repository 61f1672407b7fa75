use Rattle.std.proofs.Common.{sym, ◌∙◌}
use Rattle.std.specs.List.{list_all}
use Rattle.document_forms.specs.Words.{is_comma, parted}
use Rattle.program_lines.proofs.ListLemmas.{is_free_piece, free_pieces, free_stops, free_end}
use Rattle.program_lines.proofs.lists.is_free_list.Goals as goal

pub returns-then-not-is_free_name : goal.returns-then-not-is_free_name
returns-then-not-is_free_name c =
    free_stops c.loop-piece.pieces c.in-Some.piece c.next.new.self (list_all is_free_piece (parted is_comma c.args.words.now))
    c.loop-piece.invariant c.in-Some.ensures.piece (sym c.if-not-is_free_name.ensures)
    ∙ sym (free_pieces (parted is_comma c.args.words.now))

pub returns : goal.returns
returns c =
    free_end c.loop-piece.pieces (list_all is_free_piece (parted is_comma c.args.words.now)) c.loop-piece.invariant c.in_default.ensures.piece
    ∙ sym (free_pieces (parted is_comma c.args.words.now))
