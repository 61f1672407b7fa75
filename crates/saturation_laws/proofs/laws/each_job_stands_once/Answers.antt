use Rattle.saturation_laws.proofs.laws.each_job_stands_once.Goals as goal

pub returns : goal.returns
returns g c = g.met.D.Direction.jobs_once
