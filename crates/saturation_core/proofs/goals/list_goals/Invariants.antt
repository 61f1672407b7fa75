use Rattle.std.proofs.Common.{◌≡◌, take}
use Rattle.saturation_core.specs.Goals.{goals_of}
use Rattle.saturation_core.proofs.goals.list_goals.Given as goal

abbrev pub invariant-loop-job : goal.invariant-loop-job
invariant-loop-job g l = l.goals.items ≡ goals_of (take l.job-index l.jobs) l.transitions.transitions
