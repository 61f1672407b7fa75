use Rattle.std.proofs.Common.{◌++◌, ◌∷◌, [], sym, ap, ◌∙◌}
use Rattle.document_forms.specs.Words.{is_comma, parted_outside, each}
use Rattle.document_forms.specs.Weights.{value_of}
use Rattle.rule_reader.proofs.EachLemmas.{read_none, piece_more}
use Rattle.rule_reader.proofs.weights.actions.read_values.Goals as goal

pub loop-piece-init : goal.loop-piece-init
loop-piece-init c =
    ([], c.new-values.ensures c.args.items.now c.args.targets.now, ap (each value_of) (sym c.new-pieces.ensures) ∙ read_none (each value_of c.new-pieces.result))

pub loop-piece-preserved : goal.loop-piece-preserved
loop-piece-preserved c =
    let done = c.loop-piece.invariant.0 in
    let read = rw c.in-Some-2.is at c.in_ok-value.ensures in
    let v = read.0 in (
      done ++ v ∷ [],
      c.in_ok-add-in-Some-2.ensures c.args.items.now done v c.loop-piece.invariant.1 read.2,
      piece_more value_of (λ vs. vs) (each value_of (parted_outside 0 is_comma c.args.words.now)) done c.loop-piece.pieces c.in-Some.piece c.next.new.self v
          c.loop-piece.invariant.2 c.in-Some.ensures.piece read.1,
    )
