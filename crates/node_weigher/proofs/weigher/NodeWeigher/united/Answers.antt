use Rattle.node_weigher.proofs.WeigherLemmas.{bits_stay, rules_stay}
use Rattle.node_weigher.proofs.weigher.NodeWeigher.united.Goals as goal

pub invariant_of-self : goal.invariant_of-self
invariant_of-self c =
    let p = c.self.inside.system.now in
    let old = c.self.inside.nodes in
    let new = c.union.new.self in
    let more = c.union.ensures.more in (
      bits_stay p old new c.self.invariant.0 more,
      rules_stay p old new c.self.invariant.0 more c.self.inside.weights.members c.self.inside.returns.members c.self.invariant.1,
    )
