use Rattle.query_answers.proofs.JointLemmas.{walk_answers}
use Rattle.query_answers.proofs.joint.walks_answer.Goals as goal

pub returns : goal.returns
returns g c = λ p from tos d values over are. walk_answers g.S.Semiring.operations c.later_openings_read_members.ensures p from tos d values over are
