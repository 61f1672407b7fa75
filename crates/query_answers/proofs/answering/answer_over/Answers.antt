use Rattle.std.proofs.Common.{subst}
use Rattle.query_answers.specs.Answering.{opened_of, IsSaturated}
use Rattle.query_answers.proofs.AnswerLemmas.{backward_answers, forward_answers}
use Rattle.query_answers.proofs.answering.answer_over.Goals as goal

pub returns-in-Backward : goal.returns-in-Backward
returns-in-Backward g c = λ p side workers from to below same saturated.
    let operations = g.S.Semiring.operations in
    backward_answers operations c.openings_read_members.ensures p c.in-Backward.book c.sum.result c.args.summed.now side workers from to c.sum.ensures below same
    (subst (IsSaturated operations p side workers (opened_of side from to)) c.in-Backward.is saturated)

pub returns-in-Forward : goal.returns-in-Forward
returns-in-Forward g c = λ p side workers from to below same saturated.
    let operations = g.S.Semiring.operations in
    forward_answers operations c.openings_read_members.ensures p c.in-Forward.book c.sum-in-Forward.result c.args.summed.now side workers from to c.sum-in-Forward.ensures below same
    (subst (IsSaturated operations p side workers (opened_of side from to)) c.in-Forward.is saturated)
