-- When weights of places are closed under the forward rows.
use Rattle.std.specs.Prelude.{◌≡◌, ◌≢◌, ℕ, ◌<◌, ◌≤◌, List, [], ◌∷◌, Some, slice_get}
use Rattle.semiring_laws.specs.Semiring.{Operations, Fits, Below}
use Rattle.weighted_automata.specs.declared.place.Place.{Place}
use Rattle.weighted_automata.specs.declared.place.Label.TheVariants.{Symbol}
use Rattle.pushdown_rules.specs.declared.rule.Rule.{Rule}
use Rattle.pushdown_rules.specs.Pushdown.{Pushdown}
use Rattle.wpds_base.specs.Lists.{IsIn}
use Rattle.direction_parts.specs.Places.{arrow}
use Rattle.direction_parts.specs.Worths.{after_return}
use Rattle.poststar_laws.specs.Middles.{middle_of}
use Rattle.poststar_laws.specs.Rows.{skip, head_to}

-- The edges read symbols of the system, from states below the middles to items.
pub record HasItemEdges {S W Map : Type 0} (p : Pushdown S W Map) (base : ℕ) (edges : List Place) : Type 0 where
  pub first : (x : Place) → IsIn x edges → x.from < base
  pub items : (x : Place) → IsIn x edges → p.controls ≤ x.to
  pub last : (x : Place) → IsIn x edges → x.to < base
  pub symbols : (x : Place) → IsIn x edges → (g : ℕ) × (x.label ≡ Symbol g) × (g < p.symbols)

-- Each place has a weight below what the opening edges and the rows ask for. A place that is not there has zero.
pub record IsClosedForward {S W Map : Type 0} (s : Operations W Map) (p : Pushdown S W Map) (edges : List Place) (base : ℕ) (weight : Place → W) : Type 0 where
  pub fits : (x : Place) → Fits s (weight x)
  pub opens : (x : Place) → IsIn x edges → Below s (weight x) s.one
  pub steps : (k : ℕ) (r : Rule S W Map) → slice_get p.rules k ≡ Some r → (g : ℕ) → r.right ≡ g ∷ [] → (q : ℕ)
      → Below s (weight (arrow r.to g q)) (s.extend (weight (head_to r q)) r.weight)
  pub pops : (k : ℕ) (r : Rule S W Map) → slice_get p.rules k ≡ Some r → r.right ≡ [] → (q : ℕ) → q < base
      → Below s (weight (skip r.to q)) (s.extend (weight (head_to r q)) r.weight)
  pub returns : (k : ℕ) (r : Rule S W Map) → slice_get p.rules k ≡ Some r → r.right ≡ [] → (m : ℕ) (u : Rule S W Map) → slice_get p.rules m ≡ Some u
      → (g₁ g₂ : ℕ) → u.right ≡ g₁ ∷ g₂ ∷ []
      → Below s (weight (skip r.to (middle_of base p.rules m))) (after_return s u (s.extend (weight (head_to r (middle_of base p.rules m))) r.weight))
  -- a push is entered from a place that is there
  pub enters : (k : ℕ) (r : Rule S W Map) → slice_get p.rules k ≡ Some r → (g₁ g₂ : ℕ) → r.right ≡ g₁ ∷ g₂ ∷ [] → (q : ℕ) → weight (head_to r q) ≢ s.zero
      → Below s (weight (arrow r.to g₁ (middle_of base p.rules k))) r.weight
  pub leaves : (k : ℕ) (r : Rule S W Map) → slice_get p.rules k ≡ Some r → (g₁ g₂ : ℕ) → r.right ≡ g₁ ∷ g₂ ∷ [] → (q : ℕ)
      → Below s (weight (arrow (middle_of base p.rules k) g₂ q)) (weight (head_to r q))
  pub glues : (from q g to : ℕ) → Below s (weight (arrow from g to)) (s.extend (weight (arrow q g to)) (weight (skip from q)))
