use Rattle.std.proofs.Common.{ℕ, IsTrue, IfOk, subst}
use Rattle.std.proofs.lemmas.Result.{IfOk-weaker}
use Rattle.relation_weights.specs.Relations.{relation_fits}
use Rattle.relation_weights.specs.Actions.{assigned}
use Rattle.relation_weights.proofs.OperationLemmas.{fits_of}
use Rattle.relation_weights.proofs.relations.Relations.assign.Goals as goal

pub returns-clause-fits : goal.returns-clause-fits
returns-clause-fits c =
    let n : ℕ = c.self.inside.n in
    let P : ℕ → Type 0 = λ m. IfOk c.assigned.result (λ w. IsTrue (relation_fits m w)) in
    subst P c.self.view_is (IfOk-weaker c.assigned.result _ _ (λ w e. fits_of n (assigned n c.args.targets.now) w e) c.assigned.ensures)
