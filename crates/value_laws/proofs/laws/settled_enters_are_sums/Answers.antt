use Rattle.value_laws.proofs.EnterLemmas.{enter_below}
use Rattle.value_laws.proofs.laws.settled_enters_are_sums.Goals as goal

pub returns : goal.returns
returns g c = λ p control edges pops weight valid fits_pops fits known sound settled from h to. record {
  sums = sound from h to;
  below = λ run leads. enter_below valid (g.S.Semiring.laws p.semiring) control edges pops weight fits_pops fits
      (λ a q b i goes. (known q b i).below a goes) settled run from h to leads;
}
