use Rattle.std.proofs.Common.{◌≡◌, ◌||◌, ◌&&◌, [], drop}
use Rattle.config_patterns.specs.Membership.{items_match}
use Rattle.config_patterns.specs.private.Places.{place_matches}
use Rattle.config_patterns.proofs.matching.may_end.Given as goal

abbrev pub invariant-loop-i : goal.invariant-loop-i
invariant-loop-i l = ((l.reached && items_match (drop l.i l.items) []) || place_matches (drop l.i l.items) (drop l.i l.places) []) ≡ place_matches l.items l.places []
