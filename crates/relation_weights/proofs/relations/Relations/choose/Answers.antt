use Rattle.std.proofs.Common.{ℕ, IsTrue, IfOk, subst}
use Rattle.std.proofs.lemmas.Result.{IfOk-weaker}
use Rattle.relation_weights.specs.Actions.{frame_pairs}
use Rattle.relation_weights.specs.Relations.{relation_fits}
use Rattle.relation_weights.proofs.OperationLemmas.{fits_of}
use Rattle.relation_weights.proofs.relations.Relations.choose.Goals as goal

pub returns-clause-fits : goal.returns-clause-fits
returns-clause-fits c =
    let n : ℕ = c.self.inside.n in
    let a = frame_pairs n c.args.vars.now in
    let P : ℕ → Type 0 = λ m. IfOk c.new.result (λ w. IsTrue (relation_fits m w)) in
    subst P c.self.view_is
    (IfOk-weaker c.new.result _ _ (λ w h. fits_of n a w (h n a c.in_ok-made.ensures.variables c.in_ok-made.ensures.pairs)) c.new.ensures)
