use Rattle.std.proofs.Common.{◌++◌, ◌∷◌, [], sym, ap, ◌∙◌}
use Rattle.document_forms.specs.Words.{is_comma, parted, each}
use Rattle.document_forms.specs.Weights.{target_of}
use Rattle.rule_reader.proofs.EachLemmas.{read_none, piece_more}
use Rattle.rule_reader.proofs.weights.actions.read_targets.Goals as goal

pub loop-piece-init : goal.loop-piece-init
loop-piece-init c =
    ([], c.new-targets.ensures c.args.items.now, ap (each target_of) (sym c.new-pieces.ensures) ∙ read_none (each target_of c.new-pieces.result))

pub loop-piece-preserved : goal.loop-piece-preserved
loop-piece-preserved c =
    let done = c.loop-piece.invariant.0 in
    let x = c.in-Some-only_name.name.now in (
      done ++ x ∷ [],
      c.in_ok-add-in-Some-only_name.ensures done c.loop-piece.invariant.1,
      piece_more target_of (λ xs. xs) (each target_of (parted is_comma c.args.words.now)) done c.loop-piece.pieces c.in-Some.piece c.next.new.self x
          c.loop-piece.invariant.2 c.in-Some.ensures.piece c.in-Some-only_name.ensures,
    )
