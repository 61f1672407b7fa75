use Rattle.std.proofs.Common.{◌∙◌, arith}
use Rattle.saturation_core.proofs.StartLemmas.{pops_more}
use Rattle.saturation_core.proofs.found.Found.add_pops.Goals as goal

pub loop-k-preserved : goal.loop-k-preserved
loop-k-preserved g c = (
  λ hands. pops_more (g.S.Semiring.operations c.args.system.now.semiring) c.args.system.now.rules c.loop-k.k _ _ _ (omega arith) (c.loop-k.invariant.0 hands) (c.in_ok-add_pop.ensures.state hands),
  c.in_ok-add_pop.ensures.kept,
  c.add_pop.ensures.side ∙ c.loop-k.invariant.2,
)
