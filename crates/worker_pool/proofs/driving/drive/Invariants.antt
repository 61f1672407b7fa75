use Rattle.worker_pool.specs.Passes.{IsSame}
use Rattle.worker_pool.proofs.DrivingLemmas.{IsBetween}
use Rattle.worker_pool.proofs.driving.drive.Given as goal

abbrev pub invariant-loop : goal.invariant-loop
invariant-loop g l = IsSame l.initial.pass l.pass × IsBetween l.initial.pass.seat.me.0 l.pass.seat.me.0
