use Rattle.std.proofs.Common.{ℕ, List, ◌++◌}
use Rattle.copy_weights.specs.Forms.{has}
use Rattle.document_systems.specs.private.Rows.{IsRow}
use Rattle.document_systems.proofs.RowLemmas.{names_below}
use Rattle.document_systems.proofs.constants.push_variables.Given as goal

abbrev pub invariant-loop-variable : goal.invariant-loop-variable
invariant-loop-variable l =
    (mark : ℕ) (texts : List (List ℕ)) → IsRow mark texts l.initial.row → IsRow mark (texts ++ names_below l.items (has l.from) l.variable) l.row
