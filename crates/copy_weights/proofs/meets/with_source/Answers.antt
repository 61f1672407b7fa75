use Rattle.copy_weights.specs.Forms.{form}
use Rattle.copy_weights.proofs.meets.with_source.Goals as goal

pub returns-then-k-list-clause-there : goal.returns-then-k-list-clause-there
unfolding form
returns-then-k-list-clause-there c = λ _. c.meet.ensures
