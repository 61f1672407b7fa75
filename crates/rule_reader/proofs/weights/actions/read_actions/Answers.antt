use Rattle.std.proofs.Common.{◌++◌, ◌∷◌, [], sym, ap}
use Rattle.std.specs.Prelude.{option_map}
use Rattle.document_forms.specs.Words.{each}
use Rattle.document_forms.specs.Weights.{ActionsForm, action_of, relation_of}
use Rattle.rule_reader.proofs.EachLemmas.{piece_more}
use Rattle.rule_reader.proofs.weights.actions.read_actions.Goals as goal

pub loop-piece-init : goal.loop-piece-init
loop-piece-init c =
    ([], c.in_ok-actions.ensures c.args.items.now, sym (ap (λ ps. option_map ActionsForm (each action_of ps)) c.new-pieces.ensures))

pub loop-piece-preserved : goal.loop-piece-preserved
loop-piece-preserved c =
    let done = c.loop-piece.invariant.0 in
    let read = rw c.in-Some-2.is at c.in_ok-action.ensures in
    let a = read.0 in (
      done ++ a ∷ [],
      c.in_ok-add-in-Some-2.ensures c.args.items.now done a c.loop-piece.invariant.1 read.2,
      piece_more action_of ActionsForm (relation_of c.args.words.now) done c.loop-piece.pieces c.in-Some.piece c.next.new.self a
          c.loop-piece.invariant.2 c.in-Some.ensures.piece read.1,
    )
