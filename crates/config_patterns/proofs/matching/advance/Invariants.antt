use Rattle.std.proofs.Common.{◌≡◌, ◌++◌, false, take, drop}
use Rattle.config_patterns.specs.private.Places.{advanced}
use Rattle.config_patterns.proofs.matching.advance.Given as goal

abbrev pub invariant-loop-i : goal.invariant-loop-i
invariant-loop-i l = take l.i l.places ++ advanced l.symbol l.skipped l.entered (drop l.i l.items) (drop l.i l.places) ≡ advanced l.symbol false false l.items l.initial.places
