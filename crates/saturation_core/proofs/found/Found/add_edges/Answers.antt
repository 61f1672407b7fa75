use Rattle.std.proofs.Common.{length, refl, sym, subst, arith}
use Rattle.semiring_laws.specs.Semiring.{Fits}
use Rattle.saturation_core.proofs.ChangeLemmas.{kept_lowered, kept_more}
use Rattle.saturation_core.proofs.StartLemmas.{edge_more}
use Rattle.saturation_core.proofs.found.Found.add_edges.Goals as goal

pub loop-edge-preserved : goal.loop-edge-preserved
loop-edge-preserved g c =
    let s = g.S.Semiring.operations c.args.semiring.now in
    let law = g.S.Semiring.laws c.args.semiring.now in
    let fit = subst (Fits s) (sym c.in_ok-one.ensures) law.fits-one in
    let n = length c.loop-edge.self.graph.nodes in (
      λ hands. edge_more s c.args.edges.now c.loop-edge.edge-index _ c.loop-edge.self
          (record { transitions = c.lower.new.self; graph = c.loop-edge.self.graph }) c.in_ok-one.one hands _
          c.loop-edge-test.true (c.loop-edge.invariant.0 hands) c.in_ok-one.ensures c.in_ok-lower.ensures.transitions refl c.in_ok-lower.ensures.queue,
      kept_more law n n _ c.lower.new.self.transitions c.in_ok-lower.ensures.transitions (omega arith)
          (kept_lowered law _ c.in_ok-one.one 0 n n c.loop-edge.self.transitions.transitions c.loop-edge.invariant.1 fit c.loop-edge.invariant.2 (omega arith)),
      c.loop-edge.invariant.2,
      c.loop-edge.invariant.3,
    )
