use Rattle.query_answers.proofs.AnsweredLemmas.{values_are}
use Rattle.query_answers.proofs.laws.answers_are_values.Goals as goal

pub returns : goal.returns
returns g c = λ p side workers from tos values valid some few over overs are.
    values_are g.S.Semiring.operations c.openings_read_members.ensures
    c.one_worker_closes.ensures.closes c.one_worker_closes.ensures.opens c.sums_have_answers.ensures
    c.one_worker_closes-2.ensures.closes c.one_worker_closes-2.ensures.opens c.sums_have_answers-2.ensures
    c.answers_agree.ensures p valid workers some from few over side tos values overs are
