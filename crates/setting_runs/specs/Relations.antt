-- Relations as weights: settings of variables, and what the operations on relations between them mean.
use Rattle.std.specs.Prelude.{◌≢◌, ◌↔◌, ℕ, Bool, IsTrue}
use Rattle.semiring_laws.specs.Semiring.{Operations, Fits, FitsMap}
use Rattle.relation_laws.specs.States.{AgreeBelow}
use Rattle.relation_weights.specs.declared.rel_map.Slot.{Slot}
use Rattle.relation_weights.specs.Relations.{slot_bit}

-- a bit for each variable
abbrev pub Setting : Type 0
Setting = ℕ → Bool

-- the setting after a return, from those before the call and at its end
abbrev pub IsRestored : ℕ → (ℕ → Slot) → Setting → Setting → Setting → Type 0
IsRestored n slots before ended after = AgreeBelow n after (λ v. slot_bit (slots v) v before ended)

-- The weights mean relations between settings of n variables: `relates w` is the set of pairs, and `slots` the map.
pub record MeansRelations {W Map : Type 0} (s : Operations W Map) (n : ℕ) (relates : W → Setting → Setting → Bool) (slots : Map → ℕ → Slot) : Type 0 where
  pub empty : (w : W) → Fits s w → (w ≢ s.zero) ↔ ((x : Setting) × (y : Setting) × IsTrue (relates w x y))
  pub identity : (x y : Setting) → IsTrue (relates s.one x y) ↔ AgreeBelow n y x
  pub composition : (a b : W) → Fits s a → Fits s b → (x y : Setting) → IsTrue (relates (s.extend a b) x y) ↔ ((z : Setting) × IsTrue (relates a x z) × IsTrue (relates b z y))
  pub return_map : (h : Map) (b : W) → FitsMap s h → Fits s b → (x y : Setting) → IsTrue (relates (s.after h b) x y) ↔ ((z : Setting) × IsTrue (relates b x z) × IsRestored n (slots h) x z y)
