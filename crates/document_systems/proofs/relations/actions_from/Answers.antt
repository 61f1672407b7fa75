use Rattle.std.proofs.Common.{take, sym, subst}
use Rattle.semiring_laws.specs.Semiring.{Fits}
use Rattle.relation_weights.specs.Relations.{relation_operations}
use Rattle.relation_weights.specs.RelationLaws.{relation_laws}
use Rattle.document_systems.specs.RelationLaws.{done_fits}
use Rattle.document_systems.proofs.relations.actions_from.Goals as goal

pub extend-requires-clause-left : goal.extend-requires-clause-left
extend-requires-clause-left c =
    let n = c.args.relations.now in
    subst (Fits (relation_operations n)) (sym c.loop-action.invariant)
    (done_fits n (take c.loop-action.action-index c.args.actions.now) (relation_operations n).one (relation_laws n).fits-one)

pub returns-clause-fits : goal.returns-clause-fits
returns-clause-fits c =
    let n = c.args.relations.now in
    subst (Fits (relation_operations n)) (sym c.loop-action.invariant)
    (done_fits n (take c.loop-action.action-index c.args.actions.now) (relation_operations n).one (relation_laws n).fits-one)
