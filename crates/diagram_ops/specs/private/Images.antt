-- The image of a diagram among scratch nodes: a place for each reference.
use Rattle.std.specs.Prelude.{◌≡◌, ◌↔◌, ℕ, ◌<◌, Bool, IsTrue, List, length, slice_index_or}
use Rattle.diagram_store.specs.declared.branch.Branch.{Branch}
use Rattle.diagram_store.specs.Nodes.{IsAbove, IsReduced}
use Rattle.diagram_store.specs.Meaning.{value_at, set_bit}
use Rattle.diagram_ops.specs.Quantifying.{AgreeOutside}
use Rattle.diagram_ops.specs.private.Scratch.{Stands}

-- what each place means, and that its variables come no earlier than those of its reference
pub record IsImage (nodes : List Branch) (meaning : ℕ → (ℕ → Bool) → Bool → Type 0) (scratch : List Branch) (places : List ℕ) : Type 0 where
  pub reduced : IsReduced scratch
  pub each : (r : ℕ) → r < length places → Stands scratch (slice_index_or places r 0) (meaning r) (λ v. IsAbove nodes v r)

-- the value of the reference
abbrev pub IsValue : List Branch → ℕ → (ℕ → Bool) → Bool → Type 0
IsValue nodes r bits b = b ≡ value_at nodes r bits

-- the value of the reference with a bit set
abbrev pub IsRestricted : List Branch → ℕ → Bool → ℕ → (ℕ → Bool) → Bool → Type 0
IsRestricted nodes var value r bits b = b ≡ value_at nodes r (set_bit bits var value)

-- the reference is true on some bits that differ from these in the listed variables at most
abbrev pub IsTrueAtOnSome : List Branch → List ℕ → ℕ → (ℕ → Bool) → Type 0
IsTrueAtOnSome nodes vars r bits = (other : ℕ → Bool) × AgreeOutside vars bits other × IsTrue (value_at nodes r other)

abbrev pub IsQuantified : List Branch → List ℕ → ℕ → (ℕ → Bool) → Bool → Type 0
IsQuantified nodes vars r bits b = IsTrue b ↔ IsTrueAtOnSome nodes vars r bits

-- the place stands for a reference to these nodes, by what is made of it
abbrev pub IsPlaceOf : List Branch → ℕ → (ℕ → (ℕ → Bool) → Bool → Type 0) → List Branch → ℕ → Type 0
IsPlaceOf scratch p meaning nodes r = Stands scratch p (meaning r) (λ v. IsAbove nodes v r)
