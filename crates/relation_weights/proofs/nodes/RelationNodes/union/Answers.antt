use Rattle.std.proofs.lemmas.Result.{IfOk-weaker}
use Rattle.relation_weights.proofs.NodeLemmas.{union_value}
use Rattle.relation_weights.proofs.nodes.RelationNodes.union.Goals as goal

pub returns-clause-value : goal.returns-clause-value
returns-clause-value c =
    IfOk-weaker c.united-made.result _ _ (λ r is.
    union_value c.args.self.now c.united-made.new.self c.united-made.ensures.more c.bits-bits.ensures.valid c.args.a c.args.b r c.requires.left c.requires.right is)
    c.united-made.ensures.leads
