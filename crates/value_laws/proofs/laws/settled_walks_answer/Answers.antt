use Rattle.value_laws.proofs.WalkLemmas.{answer_below, sum_answers}
use Rattle.value_laws.proofs.laws.settled_walks_answer.Goals as goal

pub returns : goal.returns
returns g c = λ p from to pops enters down across answer valid fits_pops fits_enters known known' fits_down fits_across fits_answer settled sums.
    let laws = g.S.Semiring.laws p.semiring in
    sum_answers valid laws from to answer sums
    (answer_below valid laws from to pops enters fits_pops fits_enters (λ a q b i goes. (known q b i).below a goes) (λ a q b i leads. (known' q b i).below a leads)
    down across fits_down fits_across answer fits_answer settled)
