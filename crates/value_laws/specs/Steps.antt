-- What a search does to its weights: it lowers one, or takes a transition. Nothing here says in which order.
use Rattle.std.specs.Prelude.{◌≡◌, ◌⊎◌, ℕ, Bool, false, ◌&&◌, nat_eq, List, [], ◌∷◌, Some, slice_get, if◌then◌else◌}
use Rattle.semiring_laws.specs.Semiring.{Operations, Below}
use Rattle.pushdown_rules.specs.declared.rule.Rule.{Rule}
use Rattle.pushdown_rules.specs.Pushdown.{Pushdown}
use Rattle.config_patterns.specs.declared.edge.Edge.{Edge}
use Rattle.wpds_base.specs.Lists.{IsIn}
use Rattle.value_laws.specs.Settled.{Table, first_worth, returned_worth}

-- the two name one transition
abbrev pub is_place : ℕ → ℕ → ℕ → ℕ → ℕ → ℕ → Bool
is_place c g q x y z = nat_eq c x && (nat_eq g y && nat_eq q z)

-- the table with nothing at one place
abbrev pub without : {W : Type 0} → W → ℕ → ℕ → ℕ → Table W → Table W
without nothing c g q table x y z = if is_place c g q x y z then nothing else table x y z

module _ {W Map : Type 0} (s : Operations W Map) where
  -- Weights only fell, and of the inputs that count some wait again; none came.
  pub record IsFurther (weight settled weight' settled' : Table W) : Type 0 where
    pub falls : (x y z : ℕ) → Below s (weight' x y z) (weight x y z)
    pub counts : (x y z : ℕ) → (settled' x y z ≡ settled x y z) ⊎ (settled' x y z ≡ s.zero)

  -- One weight was combined with another.
  pub record IsLowered (c g q : ℕ) (w : W) (weight settled weight' settled' : Table W) : Type 0 where
    pub here : weight' c g q ≡ s.combine (weight c g q) w
    pub others : (x y z : ℕ) → is_place c g q x y z ≡ false → weight' x y z ≡ weight x y z
    pub counts : (x y z : ℕ) → (settled' x y z ≡ settled x y z) ⊎ (settled' x y z ≡ s.zero)

module _ {S W Map : Type 0} (s : Operations W Map) (p : Pushdown S W Map) where
  -- All that a transition of weight w gives, with the inputs that count, is there. Between controls:
  pub record ArePopsMet (c g q : ℕ) (w : W) (weight settled : Table W) : Type 0 where
    pub steps : (k : ℕ) (r : Rule S W Map) → slice_get p.rules k ≡ Some r → r.right ≡ g ∷ [] → r.to ≡ c
        → Below s (weight r.control r.symbol q) (first_worth s r w)
    pub firsts : (k : ℕ) (r : Rule S W Map) → slice_get p.rules k ≡ Some r → (h : ℕ) → r.right ≡ g ∷ h ∷ [] → r.to ≡ c → (to : ℕ)
        → Below s (weight r.control r.symbol to) (returned_worth s r w (settled q h to))
    pub seconds : (k : ℕ) (r : Rule S W Map) → slice_get p.rules k ≡ Some r → (f : ℕ) → r.right ≡ f ∷ g ∷ []
        → Below s (weight r.control r.symbol q) (returned_worth s r (settled r.to f c) w)

  -- To a target:
  pub record AreEntersMet (edges : List Edge) (pops : Table W) (c g a : ℕ) (w : W) (weight : Table W) : Type 0 where
    pub steps : (k : ℕ) (r : Rule S W Map) → slice_get p.rules k ≡ Some r → r.right ≡ g ∷ [] → r.to ≡ c
        → Below s (weight r.control r.symbol a) (first_worth s r w)
    pub seconds : (k : ℕ) (r : Rule S W Map) → slice_get p.rules k ≡ Some r → (f : ℕ) → r.right ≡ f ∷ g ∷ []
        → Below s (weight r.control r.symbol a) (returned_worth s r (pops r.to f c) w)
    pub stays : (k : ℕ) (r : Rule S W Map) → slice_get p.rules k ≡ Some r → (h : ℕ) → r.right ≡ g ∷ h ∷ [] → r.to ≡ c
        → (b : ℕ) → IsIn (record { from = a; symbol = h; to = b }) edges → Below s (weight r.control r.symbol b) (first_worth s r w)
