use Rattle.value_laws.proofs.PopLemmas.{pop_below}
use Rattle.value_laws.proofs.laws.settled_pops_are_sums.Goals as goal

pub returns : goal.returns
returns g c = λ p weight valid fits sound settled from h to. record {
  sums = sound from h to;
  below = λ run goes. pop_below valid (g.S.Semiring.laws p.semiring) weight fits settled run from h to goes;
}
