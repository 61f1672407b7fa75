use Rattle.std.proofs.Common.{sym, ap, ◌∙◌, subst}
use Rattle.std.specs.Prelude.{All}
use Rattle.semiring_laws.specs.Semiring.{Fits}
use Rattle.saturation_laws.specs.Ways.{worths_of}
use Rattle.saturation_core.proofs.hand.Hand.work.Goals as goal

pub sums-requires-clause-worths : goal.sums-requires-clause-worths
sums-requires-clause-worths g c =
    let way = g.D.Direction.way in
    let worths = c.deref.ensures.value ∙ c.in-Ok.ensures ∙ ap (worths_of way c.args.direction.now c.args.system.now) (c.as_slice-jobs.ensures ∙ c.as_list.ensures) in
    subst (λ z. All (Fits (g.S.Semiring.operations z)) c.deref.result.now) (sym c.semiring.ensures.value)
    (subst (All (Fits (g.S.Semiring.operations c.args.system.now.semiring))) (sym worths) c.requires.sums.worth)
