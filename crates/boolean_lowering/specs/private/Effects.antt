-- The weight of an effect.
use Rattle.std.specs.Prelude.{◌≡◌, ◌↔◌, ℕ, Bool, true, IsTrue, Option, None, Some}
use mathlib.Core.Bool.{Bool-set}
use mathlib.Core.HLevel.{Π_prop, →_prop, ×_prop, Unit-prop}
use mathlib.Core.Logic.{↔_prop}
use Rattle.semiring_laws.specs.Semiring.{Fits}
use Rattle.relation_laws.specs.Building.{Parts}
use Rattle.relation_laws.specs.Relations.{leads}
use Rattle.relation_weights.specs.Relations.{relation_operations}
use Rattle.boolean_programs.specs.declared.statement.Choice.{Choice}
use Rattle.boolean_programs.specs.declared.statement.Choice.TheVariants.{Star, Is}
use Rattle.boolean_machine.specs.Machine.{value_at, value_for, MayBe}
use Rattle.setting_runs.specs.Relations.{Setting}
use Rattle.lowering_laws.specs.Lowering.{Effect, Assumes, Assigns, Means}

-- the weight of an effect on n variables
pub record HasEffect (n : ℕ) (w : Parts) (effect : Effect) : Type 0 where
  pub fits : Fits (relation_operations n) w
  pub means : (x y : Setting) → IsTrue (leads w x y) ↔ Means n effect x y

-- ---- a weight has an effect in one way at most, so that a field may say it

may_prop : (old : Setting) (kept b : Bool) (o : Option Choice) → IsProp {0} (elim o [ None ↦ b ≡ kept | Some v ↦ MayBe old v b ])
may_prop old kept b None = Bool-set b kept
may_prop old kept b (Some Star) = Unit-prop
may_prop old kept b (Some (Is e)) = Bool-set b (value_at old e)

means_prop : (n : ℕ) (effect : Effect) (x y : Setting) → IsProp (Means n effect x y)
means_prop n (Assumes e) x y = ×_prop (Bool-set (value_at x e) true) (Π_prop (λ k. →_prop (Bool-set (y k) (x k))))
means_prop n (Assigns targets values) x y = Π_prop (λ v. →_prop (may_prop x (x v) (y v) (value_for targets values v)))

pub HasEffect-prop : (n : ℕ) (w : Parts) (effect : Effect) → IsProp (HasEffect n w effect)
HasEffect-prop n w effect a b = λ i. record {
  fits = Bool-set ((relation_operations n).fits w) true a.fits b.fits i;
  means = λ x y. ↔_prop (Bool-set (leads w x y) true) (means_prop n effect x y) (a.means x y) (b.means x y) i;
}
