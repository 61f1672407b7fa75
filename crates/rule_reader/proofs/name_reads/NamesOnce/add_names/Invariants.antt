use Rattle.std.proofs.Common.{◌≡◌, ◌++◌, List, ℕ, length}
use Rattle.rule_reader.specs.Names.{names_in_front}
use Rattle.rule_reader.specs.NameReads.{HasNames}
use Rattle.rule_reader.proofs.name_reads.NamesOnce.add_names.Given as goal

-- These names were added, and those in front of the words that are left come behind them.
abbrev pub invariant-loop-name : goal.invariant-loop-name
invariant-loop-name l =
    (done : List (List ℕ))
    × (done ++ names_in_front l.left ≡ names_in_front l.words)
    × ((names : List (List ℕ)) → HasNames names l.fn.self → HasNames (names ++ done) l.self)

abbrev pub decreases-loop-name : goal.decreases-loop-name
decreases-loop-name l = length l.left
