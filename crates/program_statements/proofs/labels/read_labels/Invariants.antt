use Rattle.std.proofs.Common.{◌≡◌, ℕ, List, ◌++◌, length, Some}
use Rattle.document_forms.specs.Words.{name_of, each, each_of_some}
use Rattle.program_forms.specs.Declared.{Whole}
use Rattle.program_tables.specs.Tables.{AreTablesOf}
use Rattle.program_statements.specs.Parts.{HasLabels}
use Rattle.program_statements.proofs.labels.read_labels.Given as goal

-- The labels are those that were read, and those among the words that are left.
abbrev pub invariant-loop-name : goal.invariant-loop-name
invariant-loop-name l = (w : Whole) (xs : List (List ℕ)) → AreTablesOf w l.tables → each_of_some name_of l.words ≡ Some xs
    → (done : List (List ℕ)) × (left : List (List ℕ)) × HasLabels w l.begun done l.read
    × (each name_of l.left ≡ Some left) × (done ++ left ≡ xs)

abbrev pub decreases-loop-name : goal.decreases-loop-name
decreases-loop-name l = length l.left
