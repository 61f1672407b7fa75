use Rattle.poststar_laws.proofs.OnceLemmas.{jobs_once}
use Rattle.poststar_laws.proofs.laws.forward_jobs_stand_once.Goals as goal

pub returns : goal.returns
returns g c = λ base p ts t distinct. jobs_once base p ts t distinct
