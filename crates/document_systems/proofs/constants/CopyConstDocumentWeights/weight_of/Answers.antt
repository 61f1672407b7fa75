use Rattle.std.proofs.Common.{subst, sym}
use Rattle.std.proofs.lemmas.Result.{IfOk-weaker}
use Rattle.semiring_laws.specs.Semiring.{Fits}
use Rattle.copy_weights.specs.CopyConst.{copy_operations}
use Rattle.copy_weights.specs.CopyLaws.{copy_laws}
use Rattle.document_systems.proofs.constants.CopyConstDocumentWeights.weight_of.Goals as goal

pub returns-in-One-clause-fits : goal.returns-in-One-clause-fits
returns-in-One-clause-fits c =
    let n = c.args.self.now in
    IfOk-weaker c.one.result _ _ (λ w is. subst (Fits (copy_operations n)) (sym is) (copy_laws n).fits-one) c.one.ensures
