use Rattle.std.proofs.Common.{◌≡◌, ◌++◌, false, map, drop, nat_lt, codes}
use Rattle.document_forms.specs.Writing.{action_text}
use Rattle.document_writer.specs.private.Rows.{marked}
use Rattle.document_writer.proofs.weights.actions.push_actions.Given as goal

abbrev pub invariant-loop-place : goal.invariant-loop-place
invariant-loop-place l =
    l.out.items ++ marked (codes " ; ") (nat_lt 0 l.place) (map (action_text l.names) (drop l.place l.actions))
    ≡ l.initial.out.items ++ marked (codes " ; ") false (map (action_text l.names) l.actions)
