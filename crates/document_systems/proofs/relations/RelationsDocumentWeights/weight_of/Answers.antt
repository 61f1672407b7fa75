use Rattle.std.proofs.Common.{sym, subst}
use Rattle.std.proofs.lemmas.Result.{IfOk-weaker}
use Rattle.semiring_laws.specs.Semiring.{Fits}
use Rattle.relation_weights.specs.Relations.{relation_operations}
use Rattle.relation_weights.specs.RelationLaws.{relation_laws}
use Rattle.document_systems.proofs.relations.RelationsDocumentWeights.weight_of.Goals as goal

pub returns-in-Zero-clause-fits : goal.returns-in-Zero-clause-fits
returns-in-Zero-clause-fits c =
    let n = c.args.self.now in
    IfOk-weaker c.zero.result _ _ (λ w is. subst (Fits (relation_operations n)) (sym is) (relation_laws n).fits-zero) c.zero.ensures

pub returns-in-One-clause-fits : goal.returns-in-One-clause-fits
returns-in-One-clause-fits c =
    let n = c.args.self.now in
    IfOk-weaker c.one.result _ _ (λ w is. subst (Fits (relation_operations n)) (sym is) (relation_laws n).fits-one) c.one.ensures
