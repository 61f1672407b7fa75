use Rattle.std.proofs.Common.{◌≡◌, drop}
use Rattle.config_patterns.specs.Validity.{is_set}
use Rattle.config_patterns.proofs.item.is_set.Given as goal

abbrev pub invariant-loop-i : goal.invariant-loop-i
invariant-loop-i l = is_set (drop l.i l.symbols) ≡ is_set l.symbols
