use Rattle.std.proofs.Common.{◌≡◌, sym, subst}
use Rattle.diagram_ops.specs.NodeTables.{leads_at}
use Rattle.relation_laws.proofs.CallerLemmas.{relation_fits}
use Rattle.relation_weights.specs.RelationLaws.{fits_by}
use Rattle.relation_weights.specs.RelationNodes.{IsReturnBy, relation_at}
use Rattle.relation_weights.proofs.nodes.RelationNodes.returned.Goals as goal

pub returns-in-Same-clause-value : goal.returns-in-Same-clause-value
returns-in-Same-clause-value c = λ map is.
    let v = c.args.self.now in
    let here = subst (λ by. IsReturnBy v map by) c.in-Same.is is in
    sym (here (relation_at v c.args.a) (fits_by v.bits (relation_at v c.args.a) (relation_fits v.bits (leads_at v.nodes c.args.a))))
