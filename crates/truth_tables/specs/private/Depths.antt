-- How deep an expression is at least while it is read.
use Rattle.std.specs.Prelude.{ℕ, ◌+◌, max, List, [], ◌∷◌}
use Rattle.truth_tables.specs.Grammar.{depth}
use Rattle.truth_tables.specs.Stacks.{Pending, AfterNot, AfterOperator, InBracket, First2, Second2, First3, Second3, Third3, Reading, Wants, Word2, Word3, Number2, Number3, Has}

-- with an operand of this depth behind what is open
abbrev pub least : List Pending → ℕ → ℕ
least [] d = d
least (AfterNot ∷ ps) d = least ps (d + 1)
least (AfterOperator o a ∷ ps) d = least ps (max (depth a) d + 1)
least (InBracket ∷ ps) d = least ps (d + 1)
least (First2 n ∷ ps) d = least ps (d + 1)
least (Second2 n a ∷ ps) d = least ps (max (depth a) d + 1)
least (First3 n ∷ ps) d = least ps (d + 1)
least (Second3 n a ∷ ps) d = least ps (max (depth a) d + 1)
least (Third3 n a b ∷ ps) d = least ps (max (depth a) (max (depth b) d) + 1)

abbrev pub least_of : Reading → ℕ
least_of (Wants ps) = least ps 1
least_of (Word2 ps) = least ps 1
least_of (Word3 ps) = least ps 1
least_of (Number2 ps n) = least ps 1
least_of (Number3 ps n) = least ps 1
least_of (Has ps e) = least ps (depth e)
