use Rattle.std.proofs.Common.{◌≡◌, ◌++◌, List, ℕ, length}
use Rattle.rule_reader.specs.Names.{names_in_front, behind_names}
use Rattle.rule_reader.specs.NameReads.{AreNumbersRead}
use Rattle.rule_reader.proofs.name_reads.read_names.Given as goal

-- These names were read, and those in front of the words that are left come behind them.
abbrev pub invariant-loop-name : goal.invariant-loop-name
invariant-loop-name l =
    (done : List (List ℕ))
    × AreNumbersRead l.table done l.read
    × (done ++ names_in_front l.left ≡ names_in_front l.words)
    × (behind_names l.left ≡ behind_names l.words)

abbrev pub decreases-loop-name : goal.decreases-loop-name
decreases-loop-name l = length l.left
