-- What a worker makes of a book.
use Rattle.std.specs.Prelude.{◌≡◌, ℕ}
use Rattle.semiring_laws.specs.Semiring.{Operations}
use Rattle.weighted_automata.specs.declared.place.Place.{Place}
use Rattle.pushdown_rules.specs.Pushdown.{Pushdown}
use Rattle.saturation_laws.specs.declared.event.Event.TheVariants.{Take}
use Rattle.saturation_laws.specs.Books.{BookValue, Makes, IsClosed}
use Rattle.saturation_core.specs.declared.hand.Hand.{Hand}
use Rattle.saturation_core.specs.Goals.{CanSum}
use Rattle.saturation_core.specs.HandsOut.{HasOut}
use Rattle.worker_pool.specs.declared.asked.Asked.{Asked}
use Rattle.worker_pool.specs.declared.asked.Asked.TheVariants.{Idle, Closed, Memory}
use Rattle.worker_pool.specs.declared.asked.Asked.TheVariants.{Hand as InHand}
use Rattle.saturation_laws.specs.Ways.{Way, AreRows, HaveFitInputs, worths_of}

module _ {S W Map D : Type 0} where
  -- the book's system and direction are these
  abbrev pub IsOverBook : BookValue S W Map D → Pushdown S W Map → D → Type 0
  IsOverBook b p d = (p ≡ b.system) × (d ≡ b.direction)

module _ {S W Map D : Type 0} (operations : S → Operations W Map) (way : Way S W Map D) where
  -- A hand that can be worked out over a system.
  pub record WorkFits (p : Pushdown S W Map) (d : D) (hand : Hand S W Map) : Type 0 where
    pub rows : AreRows way d p hand.jobs
    pub inputs : HaveFitInputs operations p hand.jobs
    pub sums : CanSum (operations p.semiring) hand.jobs hand.goals (worths_of way d p hand.jobs)

  -- what a seat is answered that asks for work
  abbrev pub BookAsked : BookValue S W Map D → ℕ → Asked S D W Map → BookValue S W Map D → Type 0
  BookAsked old seat (InHand hand system direction) new =
      ((x : Place) × Makes operations way old (Take seat x) new)
      × (hand.seat ≡ seat) × HasOut operations way new seat hand.jobs hand.goals
      × WorkFits system.now direction hand × IsOverBook old system.now direction
  BookAsked old seat Idle new = new ≡ old
  BookAsked old seat Closed new = (new ≡ old) × IsClosed old
  BookAsked old seat Memory new = new ≡ old
