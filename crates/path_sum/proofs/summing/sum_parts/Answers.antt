use Rattle.std.proofs.Common.{refl, sym, subst}
use Rattle.std.proofs.lemmas.Result.{IfOk-weaker}
use Rattle.path_sum.specs.Results.{IsSumOver}
use Rattle.path_sum.proofs.summing.sum_parts.Goals as goal

pub returns : goal.returns
returns g c =
    let holds = IsSumOver g.S.Semiring.operations g.D.Direction.way c.args.system.now c.args.direction.now c.args.opening.now c.args.transitions.now.transitions c.args.graph.now.nodes c.args.pattern.now in
    IfOk-weaker c.sum_shown.result _ _ (λ r shows. subst holds (sym (shows.2.whole refl)) shows.1) c.sum_shown.ensures
