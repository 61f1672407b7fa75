-- The values of rules that fit are weights.
use Rattle.std.proofs.Common.{List, [], ◌∷◌}
use Rattle.std.specs.List.{AllByRecursion}
use Rattle.semiring_laws.specs.Semiring.{Operations, IsSemiring, Fits}
use Rattle.pushdown_rules.specs.declared.rule.Rule.{Rule}
use Rattle.pushdown_rules.specs.Pushdown.{FitsRule}
use Rattle.pushdown_rules.specs.RunValue.{FitsFrame, FitsMachine, Frame, Machine, starting, machine_after, product, value_from, run_value}
use Rattle.pushdown_rules.proofs.CallerLemmas.{step_fits}

module _ {W Map : Type 0} {s : Operations W Map} (laws : IsSemiring s) where
  product_fits : (fs : List (Frame W Map)) (w : W) → AllByRecursion (FitsFrame s) fs → Fits s w → Fits s (product s fs w)
  product_fits [] w _ fit = fit
  product_fits (f ∷ fs) w fits fit = product_fits fs (s.extend f.saved w) fits.1 (laws.fits-extend f.saved w fits.0.saved fit)

module _ {S W Map : Type 0} {s : Operations W Map} (laws : IsSemiring s) where
  -- a machine that fits goes on to one that fits
  pub machine_after_fits : (r : Rule S W Map) (m : Machine W Map) → FitsRule s r → FitsMachine s m → FitsMachine s (machine_after s r m)
  machine_after_fits r m rule fit = step_fits laws r r.right m rule fit

  from_fits : (m : Machine W Map) (rs : List (Rule S W Map)) → FitsMachine s m → AllByRecursion (FitsRule s) rs → Fits s (value_from s m rs)
  from_fits m [] fit _ = product_fits laws m.frames m.accumulator fit.frames fit.accumulator
  from_fits m (r ∷ rs) fit rules = from_fits (machine_after s r m) rs (machine_after_fits r m rules.0 fit) rules.1

  pub run_value_fits : (rs : List (Rule S W Map)) → AllByRecursion (FitsRule s) rs → Fits s (run_value s rs)
  run_value_fits rs rules = from_fits (starting s) rs (record { accumulator = laws.fits-one; frames = tt }) rules
