-- When weights of places are closed under the backward rows.
use Rattle.std.specs.Prelude.{◌≡◌, ℕ, ◌<◌, ◌≤◌, List, [], ◌∷◌, Some, slice_get, unwrap_or}
use Rattle.semiring_laws.specs.Semiring.{Operations, Fits, Below}
use Rattle.weighted_automata.specs.declared.place.Place.{Place}
use Rattle.pushdown_rules.specs.declared.rule.Rule.{Rule}
use Rattle.pushdown_rules.specs.Pushdown.{Pushdown}
use Rattle.wpds_base.specs.Lists.{IsIn}
use Rattle.witness_graph.specs.declared.node.Side.TheVariants.{Pre}
use Rattle.saturation_laws.specs.declared.job.Job.{Job}
use Rattle.saturation_laws.specs.Jobs.{Tables, Row}
use Rattle.prestar_laws.specs.Rows.{pre_rows, pre_candidate}
use Rattle.direction_parts.specs.Places.{arrow}

-- Each place has a weight below what the opening edges, the pop rules and the rows ask for. A place that is not there has zero.
pub record IsClosedUnder {S W Map : Type 0} (s : Operations W Map) (p : Pushdown S W Map) (edges : List Place) (weight : Place → W) : Type 0 where
  pub fits : (x : Place) → Fits s (weight x)
  pub opens : (from g to : ℕ) → IsIn (arrow from g to) edges → Below s (weight (arrow from g to)) s.one
  pub pops : (k : ℕ) (r : Rule S W Map) → slice_get p.rules k ≡ Some r → r.right ≡ [] → Below s (weight (arrow r.control r.symbol r.to)) r.weight
  pub steps : (k : ℕ) (r : Rule S W Map) → slice_get p.rules k ≡ Some r → (g : ℕ) → r.right ≡ g ∷ [] → (q : ℕ)
      → Below s (weight (arrow r.control r.symbol q)) (s.extend r.weight (weight (arrow r.to g q)))
  pub calls : (k : ℕ) (r : Rule S W Map) → slice_get p.rules k ≡ Some r → (g₁ g₂ : ℕ) → r.right ≡ g₁ ∷ g₂ ∷ [] → (q₁ q : ℕ) → q₁ < p.controls
      → Below s (weight (arrow r.control r.symbol q)) (s.extend (s.after (unwrap_or r.map s.plain) (s.extend r.weight (weight (arrow r.to g₁ q₁)))) (weight (arrow q₁ g₂ q)))
  pub stays : (k : ℕ) (r : Rule S W Map) → slice_get p.rules k ≡ Some r → (g₁ g₂ : ℕ) → r.right ≡ g₁ ∷ g₂ ∷ [] → (q₁ q : ℕ) → p.controls ≤ q₁
      → Below s (weight (arrow r.control r.symbol q)) (s.extend (s.extend r.weight (weight (arrow r.to g₁ q₁))) (weight (arrow q₁ g₂ q)))

-- The rows and candidates are those of the backward table.
pub record IsBackward {S W Map : Type 0} (s : Operations W Map) (p : Pushdown S W Map) (d : Tables S W Map) : Type 0 where
  pub side : d.side ≡ Pre
  pub rows : (row : Row) → d.rows row ≡ pre_rows p row
  pub candidate : (j : Job S W Map) → d.candidate j ≡ pre_candidate s p j
