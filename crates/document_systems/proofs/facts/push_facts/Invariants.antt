use Rattle.std.proofs.Common.{◌≡◌, ℕ, List, ◌++◌, not}
use Rattle.document_systems.specs.private.Facts.{has_effect}
use Rattle.document_systems.specs.private.Rows.{IsRow, has_some}
use Rattle.document_systems.proofs.RowLemmas.{names_below}
use Rattle.document_systems.proofs.facts.push_facts.Given as goal

abbrev pub invariant-loop-number : goal.invariant-loop-number
invariant-loop-number g l =
    let found = names_below l.items (has_effect g.row.N l.effect l.weight) l.number in
    (l.none ≡ not (has_some found))
    × ((mark : ℕ) (texts : List (List ℕ)) → IsRow mark texts l.initial.row → IsRow mark (texts ++ found) l.row)
