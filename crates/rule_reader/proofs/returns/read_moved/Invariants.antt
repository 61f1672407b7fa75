use Rattle.std.proofs.Common.{◌≡◌, ◌++◌, List, ℕ, true, length, map}
use Rattle.document_forms.specs.Returns.{MoveForm}
use Rattle.rule_reader.specs.NameReads.{HasNames}
use Rattle.rule_reader.specs.private.Returns.{moves_said, AreMovesRead}
use Rattle.rule_reader.proofs.ReturnLemmas.{all_pairs}
use Rattle.rule_reader.proofs.returns.read_moved.Given as goal

-- These pairs were read, and those of the words that are left come behind them.
abbrev pub invariant-loop-pair : goal.invariant-loop-pair
invariant-loop-pair l =
    (done : List MoveForm)
    × (done ++ moves_said l.left ≡ moves_said l.words)
    × (all_pairs l.left ≡ true)
    × AreMovesRead l.items done l.read
    × ((seen : List (List ℕ)) → HasNames seen l.fn.names → HasNames (seen ++ map (λ m. m.to) done) l.names)

abbrev pub decreases-loop-pair : goal.decreases-loop-pair
decreases-loop-pair l = length l.left
