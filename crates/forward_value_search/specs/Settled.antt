-- What holds of the weights of a search between its turns, place by place. `settled` has the weight of each place that does not wait, and zero for the others.
use Rattle.std.specs.Prelude.{◌≡◌, ◌≢◌, ◌⊎◌, ℕ, ◌≤◌, List, [], ◌∷◌, length, Some, slice_get}
use Rattle.wpds_base.specs.Lists.{IsIn}
use Rattle.semiring_laws.specs.Semiring.{Operations, Fits, Below}
use Rattle.weighted_automata.specs.declared.place.Label.TheVariants.{Symbol, Empty}
use Rattle.weighted_automata.specs.declared.place.Place.{Place}
use Rattle.pushdown_rules.specs.declared.rule.Rule.{Rule}
use Rattle.pushdown_rules.specs.Configuration.{Configuration}
use Rattle.pushdown_rules.specs.Pushdown.{Pushdown}
use Rattle.pushdown_rules.specs.Values.{value_of}
use Rattle.config_patterns.specs.declared.edge.Edge.{Edge}
use Rattle.value_laws.specs.Runs.{Sums}
use Rattle.forward_value_laws.specs.Model.{Source, callee, Comes}
use Rattle.forward_value_laws.specs.Settling.{call_weight}
use Rattle.forward_value_search.specs.Places.{arrow, short_label, number_of, IsAt}

-- where a rule fires, from the source of a number
abbrev pub head_at : {S W Map : Type 0} → Rule S W Map → ℕ → Place
head_at r n = arrow r.control (Symbol r.symbol) n

module _ {S W Map : Type 0} (s : Operations W Map) (p : Pushdown S W Map) (items start : ℕ) (edges : List Edge) where
  -- the weight combines runs from the source to the row, for each row and source at the place
  abbrev pub SumsAt : Place → W → Type 0
  SumsAt x w = (row : Configuration) (from : Source) → length row.stack ≤ 1 → IsAt items p x row from → Sums s (value_of s p) (Comes p start edges row from) w

  module _ (weight settled : Place → W) where
    -- What a rule gives from the source of a number is there: the row that it makes, or the callee that it enters and the row where that has ended.
    pub record GivesRule (r : Rule S W Map) (n : ℕ) : Type 0 where
      pub steps : length r.right ≤ 1 → Below s (weight (arrow r.to (short_label r.right) n)) (s.extend (settled (head_at r n)) r.weight)
      pub enters : (a b : ℕ) → r.right ≡ a ∷ b ∷ [] → (m : ℕ) → number_of items p (callee r.to a) ≡ Some m → settled (head_at r n) ≢ s.zero
          → Below s (weight (arrow r.to (Symbol a) m)) s.one
      pub returns : (a b : ℕ) → r.right ≡ a ∷ b ∷ [] → (m : ℕ) → number_of items p (callee r.to a) ≡ Some m → (q : ℕ)
          → Below s (weight (arrow q (Symbol b) n)) (s.extend (settled (head_at r n)) (call_weight s r (settled (arrow q Empty m))))

    -- Nothing is left to do but for places that wait.
    pub record IsSettled : Type 0 where
      pub starts : Below s (weight (arrow start Empty 0)) s.one
      pub reads : (q i g j : ℕ) → IsIn (record { from = i; symbol = g; to = j }) edges → Below s (weight (arrow q (Symbol g) j)) (settled (arrow q Empty i))
      pub rules : (k : ℕ) (r : Rule S W Map) → slice_get p.rules k ≡ Some r → (n : ℕ) → GivesRule r n

    -- All that one place gives is there: a row over a symbol by the rules that fire on it, a row over nothing by the edges from its item, or by the calls that end with it.
    pub record Gives (x : Place) : Type 0 where
      pub reads : (q i g j : ℕ) → x ≡ arrow q Empty i → IsIn (record { from = i; symbol = g; to = j }) edges → Below s (weight (arrow q (Symbol g) j)) (settled x)
      pub rules : (k : ℕ) (r : Rule S W Map) → slice_get p.rules k ≡ Some r → (n : ℕ) → x ≡ head_at r n → GivesRule r n
      pub ends : (k : ℕ) (r : Rule S W Map) → slice_get p.rules k ≡ Some r → (a b : ℕ) → r.right ≡ a ∷ b ∷ [] → (m : ℕ) → number_of items p (callee r.to a) ≡ Some m
          → (q : ℕ) → x ≡ arrow q Empty m → (n : ℕ) → Below s (weight (arrow q (Symbol b) n)) (s.extend (settled (head_at r n)) (call_weight s r (settled x)))

module _ {W Map : Type 0} (s : Operations W Map) where
  -- Weights only fell, and of the places that do not wait some do; no others are settled.
  pub record IsFurther (weight settled weight' settled' : Place → W) : Type 0 where
    pub falls : (x : Place) → Below s (weight' x) (weight x)
    pub counts : (x : Place) → (settled' x ≡ settled x) ⊎ (settled' x ≡ s.zero)

  -- each weight is one of the semiring's
  abbrev pub AreWeights : (Place → W) → Type 0
  AreWeights weight = (x : Place) → Fits s (weight x)
