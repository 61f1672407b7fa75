use Rattle.prestar_laws.proofs.OnceLemmas.{jobs_once}
use Rattle.prestar_laws.proofs.laws.backward_jobs_stand_once.Goals as goal

pub returns : goal.returns
returns g c = λ p ts t distinct. jobs_once p ts t distinct
