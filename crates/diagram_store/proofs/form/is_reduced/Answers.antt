use Rattle.std.proofs.Common.{◌≡◌, true, refl, sym, ◌∙◌, arith}
use Rattle.std.proofs.lemmas.Option.{slice_get_within}
use Rattle.diagram_store.proofs.FittingLemmas.{reduced_from_fitting, fitting_from_reduced}
use Rattle.diagram_store.proofs.form.is_reduced.Goals as goal

pub returns-then-not-is_fitting : goal.returns-then-not-is_fitting
returns-then-not-is_fitting c = (
  λ yes. cc,
  λ all.
      let fits : c.is_fitting.result ≡ true = c.is_fitting.ensures.1 (fitting_from_reduced c.args.nodes.now all c.loop-k.k) in
      sym c.if-not-is_fitting.true ∙ fits,
)

pub returns : goal.returns
returns c = (
  λ yes. reduced_from_fitting c.args.nodes.now (λ k n e. c.loop-k.invariant k (let w = slice_get_within c.args.nodes.now k n e in omega (arith, w)) n e),
  λ all. refl,
)
