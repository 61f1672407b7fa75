use Rattle.path_sum.proofs.BookLemmas.{book_saturated}
use Rattle.path_sum.proofs.ExistLemmas.{answer_exists}
use Rattle.path_sum.proofs.laws.sums_have_answers.Goals as goal

pub returns : goal.returns
returns g c = λ b pattern is closed control.
    answer_exists g.S.Semiring.laws is.system
    (book_saturated g.S.Semiring.operations g.S.Semiring.laws g.D.Direction.way g.met.D.Direction.laws b is closed)
    (g.met.D.Direction.sums b.direction b.system b.opening is.system is.fits) pattern control
