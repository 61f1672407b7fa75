-- What holds of a search between its steps: each weight is below what the rules make of those that are calm. A place is calm where nothing waits at it.
use Rattle.std.specs.Prelude.{◌≡◌, ◌≢◌, ℕ, ◌≤◌, Bool, IsTrue, IsFalse, List, [], ◌∷◌, length, Some, slice_get, unwrap_or}
use Rattle.wpds_base.specs.Lists.{IsIn}
use Rattle.semiring_laws.specs.Semiring.{Operations, Fits, Below}
use Rattle.pushdown_rules.specs.declared.rule.Rule.{Rule}
use Rattle.pushdown_rules.specs.Configuration.{Configuration, at_stack}
use Rattle.pushdown_rules.specs.Pushdown.{Pushdown}
use Rattle.config_patterns.specs.declared.edge.Edge.{Edge}
use Rattle.forward_value_laws.specs.Model.{Source, item, callee, head_of}

-- what a call is worth whose callee's end has this weight
abbrev pub call_weight : {S W Map : Type 0} → Operations W Map → Rule S W Map → W → W
call_weight s r w = s.after (unwrap_or r.map s.plain) (s.extend r.weight w)

-- a place at which nothing waits
abbrev pub IsCalm : (Configuration → Source → Bool) → Configuration → Source → Type 0
IsCalm waits row from = IsFalse (waits row from)

-- a place that is one of these
abbrev pub IsAmong : (Configuration → Source → Bool) → Configuration → Source → Type 0
IsAmong these row from = IsTrue (these row from)

-- the calm places but those that are here
abbrev pub But : (Configuration → Source → Type 0) → (Configuration → Source → Type 0) → Configuration → Source → Type 0
But here calm row from = calm row from × (here row from → ⊥)

-- No weight has risen, and what is calm has its weight still, and was calm.
pub record Lowers {W Map : Type 0} (s : Operations W Map) (weight : Configuration → Source → W) (calm : Configuration → Source → Type 0)
    (weight' : Configuration → Source → W) (calm' : Configuration → Source → Type 0) : Type 0 where
  pub fits : (row : Configuration) (from : Source) → Fits s (weight' row from)
  pub below : (row : Configuration) (from : Source) → Below s (weight' row from) (weight row from)
  pub same : (row : Configuration) (from : Source) → calm' row from → (weight' row from ≡ weight row from) × calm row from

module _ {S W Map : Type 0} (s : Operations W Map) (p : Pushdown S W Map) (start : ℕ) (edges : List Edge) (weight : Configuration → Source → W)
    (calm : Configuration → Source → Type 0) where
  pub record IsSettled : Type 0 where
    pub fits : (row : Configuration) (from : Source) → Fits s (weight row from)
    pub starts : Below s (weight (at_stack start []) (item 0)) s.one
    pub uncovers : (q i g j : ℕ) → IsIn (record { from = i; symbol = g; to = j }) edges → calm (at_stack q []) (item i)
        → Below s (weight (at_stack q (g ∷ [])) (item j)) (weight (at_stack q []) (item i))
    pub steps : (k : ℕ) (r : Rule S W Map) → slice_get p.rules k ≡ Some r → length r.right ≤ 1 → (from : Source) → calm (head_of r) from
        → Below s (weight (at_stack r.to r.right) from) (s.extend (weight (head_of r) from) r.weight)
    pub enters : (k : ℕ) (r : Rule S W Map) → slice_get p.rules k ≡ Some r → (g h : ℕ) → r.right ≡ g ∷ h ∷ [] → (from : Source) → calm (head_of r) from
        → weight (head_of r) from ≢ s.zero → Below s (weight (at_stack r.to (g ∷ [])) (callee r.to g)) s.one
    pub returns : (k : ℕ) (r : Rule S W Map) → slice_get p.rules k ≡ Some r → (g h : ℕ) → r.right ≡ g ∷ h ∷ [] → (q : ℕ) (from : Source)
        → calm (head_of r) from → calm (at_stack q []) (callee r.to g)
        → Below s (weight (at_stack q (h ∷ [])) from) (s.extend (weight (head_of r) from) (call_weight s r (weight (at_stack q []) (callee r.to g))))

  -- All that the places which are here give, with the calm ones, if this is their weight.
  pub record IsGiven (here : Configuration → Source → Type 0) (w : W) : Type 0 where
    pub uncovers : (q i : ℕ) → here (at_stack q []) (item i) → (g j : ℕ) → IsIn (record { from = i; symbol = g; to = j }) edges
        → Below s (weight (at_stack q (g ∷ [])) (item j)) w
    pub steps : (k : ℕ) (r : Rule S W Map) → slice_get p.rules k ≡ Some r → (from : Source) → here (head_of r) from → length r.right ≤ 1
        → Below s (weight (at_stack r.to r.right) from) (s.extend w r.weight)
    pub enters : (k : ℕ) (r : Rule S W Map) → slice_get p.rules k ≡ Some r → (from : Source) → here (head_of r) from → (g h : ℕ) → r.right ≡ g ∷ h ∷ [] → w ≢ s.zero
        → Below s (weight (at_stack r.to (g ∷ [])) (callee r.to g)) s.one
    -- with each end of the callee
    pub calls : (k : ℕ) (r : Rule S W Map) → slice_get p.rules k ≡ Some r → (from : Source) → here (head_of r) from → (g h : ℕ) → r.right ≡ g ∷ h ∷ [] → (q : ℕ)
        → calm (at_stack q []) (callee r.to g)
        → Below s (weight (at_stack q (h ∷ [])) from) (s.extend w (call_weight s r (weight (at_stack q []) (callee r.to g))))
    -- as an end of a callee, with each call
    pub ends : (q : ℕ) (k : ℕ) (r : Rule S W Map) → slice_get p.rules k ≡ Some r → (g h : ℕ) → r.right ≡ g ∷ h ∷ [] → here (at_stack q []) (callee r.to g)
        → (from : Source) → calm (head_of r) from
        → Below s (weight (at_stack q (h ∷ [])) from) (s.extend (weight (head_of r) from) (call_weight s r w))
