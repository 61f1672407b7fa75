use Rattle.relation_laws.proofs.CallerLemmas.{leads_of}
use Rattle.relation_weights.specs.Actions.{assigned, assumed, frame_pairs}
use Rattle.relation_weights.proofs.PairLemmas.{assigned_reads, assumed_reads, frame_reads}
use Rattle.relation_weights.proofs.laws.actions_are_sets_of_pairs.Goals as goal

pub returns-clause-assign : goal.returns-clause-assign
returns-clause-assign c = λ n ts all. leads_of n (assigned n ts) (assigned_reads n ts all)

pub returns-clause-assume : goal.returns-clause-assume
returns-clause-assume c = λ n f over. leads_of n (assumed n f) (assumed_reads n f over)

pub returns-clause-choose : goal.returns-clause-choose
returns-clause-choose c = λ n vars. leads_of n (frame_pairs n vars) (frame_reads n vars)
