-- That what a transition gives is there.
use Rattle.std.specs.Prelude.{◌≡◌, ◌⊎◌, ℕ, List, [], ◌∷◌, Option, None, Some, slice_get, unwrap_or}
use Rattle.semiring_laws.specs.Semiring.{Operations, Fits, Below}
use Rattle.pushdown_rules.specs.declared.rule.Rule.{Rule}
use Rattle.pushdown_rules.specs.Pushdown.{Pushdown}
use Rattle.config_patterns.specs.Membership.{PatternValue}
use Rattle.config_patterns.specs.Edges.{edges_of}
use Rattle.wpds_base.specs.Lists.{IsIn}
use Rattle.pushdown_rules.specs.Values.{value_of}
use Rattle.value_laws.specs.Runs.{Sums}
use Rattle.value_laws.specs.Settled.{first_worth, returned_worth}
use Rattle.weight_tables.specs.Entries.{TableEntry}
use Rattle.weight_tables.specs.Tables.{TablesValue}
use Rattle.value_search.specs.Views.{Leads, found, weights, counting}

-- a call, and what its callee's transition gives, under the return map
abbrev pub call_worth : {S W Map : Type 0} → Operations W Map → Rule S W Map → W → W
call_worth s r w = s.after (unwrap_or r.map s.plain) (first_worth s r w)

module _ {S W Map : Type 0} (s : Operations W Map) (p : Pushdown S W Map) (target : Option PatternValue) where
  -- A push rule, with the transition that its callee may take: between controls the call returns, and goes on by each transition over the second symbol;
  -- to a target it stays open, and each edge of the target reads the second symbol.
  abbrev pub IsPushMet : Rule S W Map → ℕ → ℕ → ℕ → ℕ → List (TableEntry W) → Type 0
  IsPushMet r c g q h es = elim target [
    | None ↦ (to : ℕ) → Below s (weights s es r.control r.symbol to) (returned_worth s r (counting s es c g q) (counting s es q h to))
    | Some goal ↦ (to : ℕ) → IsIn (record { from = q; symbol = h; to = to }) (edges_of goal.items)
        → Below s (weights s es r.control r.symbol to) (first_worth s r (counting s es c g q))
  ]

  -- the rule of a number, with a transition that may be the top of what the rule leaves
  pub record IsOntoMet (k c g q : ℕ) (es : List (TableEntry W)) : Type 0 where
    pub steps : (r : Rule S W Map) → slice_get p.rules k ≡ Some r → r.right ≡ g ∷ [] → r.to ≡ c
        → Below s (weights s es r.control r.symbol q) (first_worth s r (counting s es c g q))
    pub pushes : (r : Rule S W Map) → slice_get p.rules k ≡ Some r → (h : ℕ) → r.right ≡ g ∷ h ∷ [] → r.to ≡ c
        → IsPushMet r c g q h es

  -- and with one that may be what it leaves below
  abbrev pub IsOverMet : ℕ → ℕ → ℕ → ℕ → List (TableEntry W) → List (TableEntry W) → Type 0
  IsOverMet k c g q base es = (r : Rule S W Map) → slice_get p.rules k ≡ Some r → (f : ℕ) → r.right ≡ f ∷ g ∷ []
      → Below s (weights s es r.control r.symbol q) (returned_worth s r (counting s base r.to f c) (counting s es c g q))

  -- The weight in hand is what the rule of a number makes, in a way of its own, of a transition's weight, with which that counts if it does.
  pub record IsHeld (makes : Rule S W Map → W → W) (k c g q : ℕ) (v : TablesValue S W Map) : Type 0 where
    pub worth : W
    pub fits : Fits s worth
    pub sums : Sums s (value_of s p) (Leads p target c g q) worth
    pub counts : (counting s (found target v) c g q ≡ worth) ⊎ (counting s (found target v) c g q ≡ s.zero)
    pub hand : (r : Rule S W Map) → slice_get p.rules k ≡ Some r → v.hand ≡ makes r worth
