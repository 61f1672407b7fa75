use Rattle.std.proofs.Common.{reverse, vec_len}
use Rattle.run_settings.specs.private.Progress.{IsWayBack}
use Rattle.run_settings.proofs.settings.walk_back.Given as goal

abbrev pub invariant-back : goal.invariant-back
invariant-back l = IsWayBack l.n l.system l.run l.past.items l.moment (reverse l.later.items)

abbrev pub decreases-back : goal.decreases-back
decreases-back l = vec_len l.past
