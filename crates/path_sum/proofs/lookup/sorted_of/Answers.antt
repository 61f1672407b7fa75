use Rattle.path_sum.proofs.LookupLemmas.{sorted_are}
use Rattle.path_sum.proofs.lookup.sorted_of.Goals as goal

pub returns : goal.returns
returns c = sorted_are c.args.set.now c.in_ok-sorted.sorted.items c.sort_unstable.new.self.items c.in_ok-sorted.ensures c.sort_unstable.ensures.permutation c.sort_unstable.ensures.sorted
