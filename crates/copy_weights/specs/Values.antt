-- What weights say of values: maps from what is known of old values to what is known of new ones.
use Rattle.std.specs.Prelude.{◌≡◌, ◌≢◌, ◌<◌, ◌⊎◌, ℕ, zero, suc, ℤ, true, Option, None, Some, if◌then◌else◌}
use Rattle.std.specs.Ordering.{int_eq}
use Rattle.copy_weights.specs.declared.form.Form.{Form}
use Rattle.copy_weights.specs.declared.form.Form.TheVariants.{Varying, Meet}
use Rattle.copy_weights.specs.declared.form.CopyW.{CopyW}
use Rattle.copy_weights.specs.declared.form.CopyW.TheVariants.{Zero, Map}
use Rattle.copy_weights.specs.Forms.{has, form}

-- What is known of a value: it is undefined, it is this number, or it varies.
pub data Known : Type 0 where
  Undefined : Known
  Number : ℤ → Known
  Varies : Known

-- what is known of one of two values: numbers that differ vary, and an undefined one adds nothing
abbrev pub either : Known → Known → Known
either Undefined v = v
either (Number x) Undefined = Number x
either (Number x) (Number y) = if int_eq x y then Number x else Varies
either (Number x) Varies = Varies
either Varies v = Varies

abbrev pub constant : Option ℤ → Known
constant None = Undefined
constant (Some x) = Number x

-- what is known of one of the old values of a set's members below k
unfoldable pub one_of : ℕ → ℕ → (ℕ → Known) → Known
one_of zero s old = Undefined
one_of (suc k) s old = if has s k then either (old k) (one_of k s old) else one_of k s old

-- what a form over n variables says of the new value, by the old ones
abbrev pub value : ℕ → Form → (ℕ → Known) → Known
value n Varying old = Varies
value n (Meet c s) old = either (constant c) (one_of n s old)

-- what a weight over n variables says of the new values, by the old ones; nothing is defined after no run
abbrev pub values : ℕ → CopyW → (ℕ → Known) → ℕ → Known
values n Zero old k = Undefined
values n (Map fs) old k = value n (form fs k) old

-- ---- forms over numbers

-- x is the value of a part: the constant, or the old number of a source
abbrev pub IsPart : ℕ → Option ℤ → ℕ → (ℕ → ℤ) → ℤ → Type 0
IsPart n c s old x = (c ≡ Some x) ⊎ ((k : ℕ) × (k < n) × (has s k ≡ true) × (old k ≡ x))

-- What is known of a value that is one of some numbers: nothing where there is none, the number where there is one, and
-- where there are two that it varies.
abbrev pub IsKnownOf : Known → (ℤ → Type 0) → Type 0
IsKnownOf Undefined P = (x : ℤ) → P x → ⊥
IsKnownOf (Number x) P = P x × ((y : ℤ) → P y → y ≡ x)
IsKnownOf Varies P = (x : ℤ) × (y : ℤ) × P x × P y × (x ≢ y)
