use Rattle.std.proofs.Common.{◌≡◌, List, ◌++◌, length}
use Rattle.std.specs.Prelude.{option_map}
use Rattle.document_forms.specs.Words.{each}
use Rattle.document_forms.specs.Weights.{ActionForm, ActionsForm, action_of, relation_of}
use Rattle.rule_reader.specs.private.ActionReads.{HasActions}
use Rattle.rule_reader.proofs.weights.actions.read_actions.Given as goal

-- The actions are those that were read, and those of the pieces that are left.
abbrev pub invariant-loop-piece : goal.invariant-loop-piece
invariant-loop-piece l =
    (done : List ActionForm)
    × HasActions l.items done l.actions
    × (relation_of l.words ≡ option_map (λ more. ActionsForm (done ++ more)) (each action_of l.pieces))

abbrev pub decreases-loop-piece : goal.decreases-loop-piece
decreases-loop-piece l = length l.pieces
