use Rattle.std.proofs.Common.{refl, sym, subst}
use Rattle.std.proofs.lemmas.Result.{IfOk-weaker}
use Rattle.path_sum.specs.Results.{IsSumOf}
use Rattle.path_sum.proofs.summing.sum.Goals as goal

pub returns : goal.returns
returns g c =
    let b = c.args.book.now in
    let holds = IsSumOf g.S.Semiring.operations g.D.Direction.way b c.args.pattern.now in
    IfOk-weaker c.sum_book.result _ _ (λ r shows. subst holds (sym (shows.2.whole refl)) shows.1) c.sum_book.ensures
