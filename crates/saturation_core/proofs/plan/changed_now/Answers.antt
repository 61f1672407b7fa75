use Rattle.saturation_core.proofs.ChangeLemmas.{found_within}
use Rattle.saturation_core.proofs.plan.changed_now.Goals as goal

pub node_at-before-requires : goal.node_at-before-requires
node_at-before-requires g c = found_within c.args.worked.now.job.now.goal c.args.transitions.now.transitions c.find-at.result c.find-at.ensures.index

pub changed_at-requires-clause-at : goal.changed_at-requires-clause-at
changed_at-requires-clause-at g c = found_within c.args.worked.now.job.now.goal c.args.transitions.now.transitions c.find-at.result c.find-at.ensures.index
