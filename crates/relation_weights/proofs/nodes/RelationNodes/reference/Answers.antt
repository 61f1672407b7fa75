use Rattle.std.proofs.Common.{◌∙◌}
use Rattle.std.proofs.lemmas.Result.{IfOk-weaker}
use Rattle.relation_weights.specs.RelationLaws.{fits_in}
use Rattle.relation_weights.proofs.NodeLemmas.{loaded_value}
use Rattle.relation_weights.proofs.OperationLemmas.{diagram_below, same_leads}
use Rattle.relation_weights.proofs.nodes.RelationNodes.reference.Goals as goal

pub load-requires : goal.load-requires
load-requires c =
    diagram_below c.args.self.now.bits c.args.w.now (fits_in c.args.self.now.bits c.args.w.now c.requires) c.diagram.result.now.nodes c.diagram.ensures.nodes

pub returns-clause-value : goal.returns-clause-value
returns-clause-value c =
    let v = c.args.self.now in
    IfOk-weaker c.load.result _ _ (λ r is.
    loaded_value v c.load.new.self c.load.ensures.more c.args.w.now (fits_in v.bits c.args.w.now c.requires) r (λ x y.
    is x y ∙ same_leads c.args.w.now c.diagram.result.now.root c.diagram.result.now.nodes c.diagram.ensures.root c.diagram.ensures.nodes x y))
    c.load.ensures.leads
