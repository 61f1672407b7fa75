use Rattle.copy_weights.proofs.MakingLemmas.{set_of_has}
use Rattle.copy_weights.proofs.copy_const.CopyConst.restore.Goals as goal

pub returns-clause-variables : goal.returns-clause-variables
returns-clause-variables c = set_of_has c.args.self.now c.args.vars.now
