use Rattle.std.proofs.Common.{ap, ◌∙◌}
use Rattle.std.proofs.lemmas.Result.{IfOk-weaker}
use Rattle.diagram_ops.specs.NodeTables.{leads_at}
use Rattle.relation_laws.proofs.CallerLemmas.{relation_fits}
use Rattle.relation_weights.specs.RelationNodes.{relation_at}
use Rattle.relation_weights.proofs.NodeLemmas.{composition_value}
use Rattle.relation_weights.proofs.OperationLemmas.{extend-identity_left, extend-identity_right}
use Rattle.relation_weights.proofs.nodes.RelationNodes.composition.Goals as goal

pub returns-then-a-identity-clause-value : goal.returns-then-a-identity-clause-value
returns-then-a-identity-clause-value c =
    let v = c.args.self.now in
    extend-identity_left v.bits (relation_at v c.args.a) (relation_at v c.args.b) (relation_fits v.bits (leads_at v.nodes c.args.a)) (relation_fits v.bits (leads_at v.nodes c.args.b))
    (ap (relation_at v) c.if-a-identity.true ∙ c.identity.ensures.value)

pub returns-then-b-identity-clause-value : goal.returns-then-b-identity-clause-value
returns-then-b-identity-clause-value c =
    let v = c.args.self.now in
    extend-identity_right v.bits (relation_at v c.args.a) (relation_at v c.args.b) (relation_fits v.bits (leads_at v.nodes c.args.a)) (relation_fits v.bits (leads_at v.nodes c.args.b))
    (ap (relation_at v) c.if-b-identity.true ∙ c.identity-2.ensures.value)

pub returns-clause-value : goal.returns-clause-value
returns-clause-value c =
    IfOk-weaker c.composed-made.result _ _ (λ r is.
    composition_value c.args.self.now c.composed-made.new.self c.composed-made.ensures.more c.bits-bits.ensures.valid c.args.a c.args.b r c.requires.left c.requires.right is)
    c.composed-made.ensures.leads
