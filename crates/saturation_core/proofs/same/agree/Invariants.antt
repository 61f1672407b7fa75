use Rattle.std.proofs.Common.{take}
use Rattle.std.specs.Prelude.{All}
use Rattle.saturation_laws.specs.Directions.{AgreeOn}
use Rattle.saturation_core.proofs.same.agree.Given as goal

abbrev pub invariant-loop-job : goal.invariant-loop-job
invariant-loop-job g l = All (AgreeOn l.one l.other) (take l.job-index l.jobs)
