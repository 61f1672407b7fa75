use Rattle.std.proofs.Common.{◌∙◌}
use Rattle.path_sum.proofs.EndsLemmas.{weights_kept}
use Rattle.path_sum.proofs.values.total_to.Goals as goal

pub combine_all-requires : goal.combine_all-requires
combine_all-requires g c =
    weights_kept (g.S.Semiring.laws c.args.semiring.now) c.args.sums.now.transitions c.requires.0 c.requires.1 c.deref.result.now c.deref-2.result.now
    (c.deref-2.ensures.value ∙ c.in_ok-weights.ensures)
