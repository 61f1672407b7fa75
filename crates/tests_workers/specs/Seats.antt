-- Hands that a test's own scheduler has worked out.
use Rattle.std.specs.Prelude.{◌≡◌, ◌≢◌, ℕ}
use Rattle.semiring_laws.specs.Semiring.{Operations}
use Rattle.saturation_laws.specs.Books.{BookValue}
use Rattle.saturation_laws.specs.Ways.{Way}
use Rattle.saturation_core.specs.DoneValue.{DoneValue}
use Rattle.saturation_core.specs.HandsOut.{HasOut}

module _ {S W Map D : Type 0} (operations : S → Operations W Map) (way : Way S W Map D) where
  -- the hand that was worked out is out of the book, and was worked out over its system, in its direction
  abbrev pub IsOutOf : BookValue S W Map D → DoneValue S W Map D → Type 0
  IsOutOf b w = HasOut operations way b w.seat w.jobs w.goals × (w.system ≡ b.system) × (w.direction ≡ b.direction)

  -- what was out of other seats still is
  abbrev pub KeepsOthers : ℕ → BookValue S W Map D → BookValue S W Map D → Type 0
  KeepsOthers seat old new = (w : DoneValue S W Map D) → w.seat ≢ seat → IsOutOf old w → IsOutOf new w
