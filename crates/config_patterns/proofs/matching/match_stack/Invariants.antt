use Rattle.std.proofs.Common.{◌≡◌, length, drop}
use Rattle.config_patterns.specs.Membership.{items_match}
use Rattle.config_patterns.specs.private.Places.{place_matches}
use Rattle.config_patterns.proofs.matching.match_stack.Given as goal

abbrev pub invariant-loop-k : goal.invariant-loop-k
invariant-loop-k l = (length l.places ≡ 1001) × (place_matches l.items l.places (drop l.k l.config.stack) ≡ items_match l.items l.config.stack)
