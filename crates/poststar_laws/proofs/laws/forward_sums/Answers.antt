use Rattle.poststar_laws.proofs.LawLemmas.{post_has_sums}
use Rattle.poststar_laws.proofs.laws.forward_sums.Goals as goal

pub returns : goal.returns
returns g c = λ items p o valid fits. post_has_sums valid (g.S.Semiring.laws p.semiring) items o fits
