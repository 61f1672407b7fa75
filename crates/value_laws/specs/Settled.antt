-- When weights of transitions are sound, and when they are settled. A table gives a weight for a control, a symbol and where a transition leads; zero where there is none.
use Rattle.std.specs.Prelude.{◌≡◌, ℕ, List, [], ◌∷◌, Some, slice_get, unwrap_or}
use Rattle.semiring_laws.specs.Semiring.{Operations, Fits, Below}
use Rattle.pushdown_rules.specs.declared.rule.Rule.{Rule}
use Rattle.pushdown_rules.specs.Pushdown.{Pushdown}
use Rattle.pushdown_rules.specs.Values.{value_of}
use Rattle.config_patterns.specs.declared.edge.Edge.{Edge}
use Rattle.wpds_base.specs.Lists.{IsIn}
use Rattle.value_laws.specs.Runs.{Pops, Enters, Sums}

abbrev pub Table : Type 0 → Type 0
Table W = ℕ → ℕ → ℕ → W

-- each weight is one of the semiring's
abbrev pub AreWeights : {W Map : Type 0} → Operations W Map → Table W → Type 0
AreWeights s weight = (from g to : ℕ) → Fits s (weight from g to)

module _ {S W Map : Type 0} (s : Operations W Map) where
  -- a rule, and then what comes from the top of what it leaves
  abbrev pub first_worth : Rule S W Map → W → W
  first_worth r w = s.extend r.weight w

  -- a call that returns, and then what comes from the symbol below it
  abbrev pub returned_worth : Rule S W Map → W → W → W
  returned_worth r w v = s.extend (s.after (unwrap_or r.map s.plain) (first_worth r w)) v

  module _ (p : Pushdown S W Map) where
    -- between controls, each weight combines runs of its place
    abbrev pub ArePops : Table W → Type 0
    ArePops weight = (from g to : ℕ) → Sums s (value_of s p) (Pops p from g to) (weight from g to)

    -- and to a target
    abbrev pub AreEnters : ℕ → List Edge → Table W → Type 0
    AreEnters control edges weight = (from g to : ℕ) → Sums s (value_of s p) (Enters p control edges from g to) (weight from g to)

    -- Between controls, what the rules ask for. `settled` has the inputs that count: those that do not wait, and zero for the others.
    pub record ArePopsSettled (weight settled : Table W) : Type 0 where
      pub pops : (k : ℕ) (r : Rule S W Map) → slice_get p.rules k ≡ Some r → r.right ≡ [] → Below s (weight r.control r.symbol r.to) r.weight
      pub steps : (k : ℕ) (r : Rule S W Map) → slice_get p.rules k ≡ Some r → (g : ℕ) → r.right ≡ g ∷ [] → (to : ℕ)
          → Below s (weight r.control r.symbol to) (first_worth r (settled r.to g to))
      pub calls : (k : ℕ) (r : Rule S W Map) → slice_get p.rules k ≡ Some r → (g h : ℕ) → r.right ≡ g ∷ h ∷ [] → (mid to : ℕ)
          → Below s (weight r.control r.symbol to) (returned_worth r (settled r.to g mid) (settled mid h to))

    -- To a target: the same, where a callee's end is a transition between controls, and what a call that stays open leaves below is read by the target's edges.
    pub record AreEntersSettled (control : ℕ) (edges : List Edge) (pops weight settled : Table W) : Type 0 where
      pub opens : (g to : ℕ) → IsIn (record { from = 0; symbol = g; to = to }) edges → Below s (weight control g to) s.one
      pub steps : (k : ℕ) (r : Rule S W Map) → slice_get p.rules k ≡ Some r → (g : ℕ) → r.right ≡ g ∷ [] → (to : ℕ)
          → Below s (weight r.control r.symbol to) (first_worth r (settled r.to g to))
      pub calls : (k : ℕ) (r : Rule S W Map) → slice_get p.rules k ≡ Some r → (g h : ℕ) → r.right ≡ g ∷ h ∷ [] → (mid to : ℕ)
          → Below s (weight r.control r.symbol to) (returned_worth r (pops r.to g mid) (settled mid h to))
      pub stays : (k : ℕ) (r : Rule S W Map) → slice_get p.rules k ≡ Some r → (g h : ℕ) → r.right ≡ g ∷ h ∷ [] → (mid to : ℕ)
          → IsIn (record { from = mid; symbol = h; to = to }) edges → Below s (weight r.control r.symbol to) (first_worth r (settled r.to g mid))
