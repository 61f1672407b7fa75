use Rattle.std.proofs.Common.{List, ℕ, length}
use Rattle.rule_reader.specs.NameReads.{AreNumbersRead}
use Rattle.rule_reader.specs.private.Rules.{HasRight}
use Rattle.rule_reader.proofs.rules.read_right.Given as goal

-- These names were read, and behind them the words that are left.
abbrev pub invariant-loop-name : goal.invariant-loop-name
invariant-loop-name l =
    (done : List (List ℕ)) × AreNumbersRead l.symbols done l.read × HasRight l.words done l.left

abbrev pub decreases-loop-name : goal.decreases-loop-name
decreases-loop-name l = length l.left
