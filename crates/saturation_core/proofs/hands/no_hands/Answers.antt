use Rattle.std.proofs.Common.{ap, ◌∙◌, ◌++◌, ◌∷◌, []}
use Rattle.std.specs.Prelude.{None}
use Rattle.saturation_core.proofs.StartLemmas.{replicate-push}
use Rattle.saturation_core.proofs.hands.no_hands.Goals as goal

pub loop-seat-preserved : goal.loop-seat-preserved
loop-seat-preserved g c = c.in_ok-push.ensures.items ∙ ap (λ xs. xs ++ None ∷ []) c.loop-seat.invariant ∙ replicate-push c.loop-seat._seat None
