-- The semiring of copy constants over n variables.
use Rattle.std.specs.Prelude.{ℕ, zero, suc, ◌+◌, ◌*◌, ℤ, Bool, true, false, ◌&&◌, nat_eq, List, [], ◌∷◌, length, Option, None, Some, if◌then◌else◌}
use Rattle.std.specs.Ordering.{int_eq}
use Rattle.semiring_laws.specs.Semiring.{Operations}
use Rattle.copy_weights.specs.declared.form.Form.{Form}
use Rattle.copy_weights.specs.declared.form.Form.TheVariants.{Varying, Meet}
use Rattle.copy_weights.specs.declared.form.CopyW.{CopyW}
use Rattle.copy_weights.specs.declared.form.CopyW.TheVariants.{Zero, Map}
use Rattle.copy_weights.specs.declared.form.CopyMap.{CopyMap}
use Rattle.copy_weights.specs.declared.form.CopyMap.TheVariants.{Plain, Restore}
use Rattle.copy_weights.specs.Forms.{has, form, identity, meets, composed, restored, form_fits}

-- the meet, variable by variable; zero is neutral
abbrev pub combined : ℕ → CopyW → CopyW → CopyW
combined n Zero b = b
combined n (Map fs) Zero = Map fs
combined n (Map fs) (Map gs) = Map (meets n fs gs)

-- the second's forms with the first's put in; zero with anything is zero
abbrev pub extended : ℕ → CopyW → CopyW → CopyW
extended n Zero b = Zero
extended n (Map fs) Zero = Zero
extended n (Map fs) (Map gs) = Map (composed n fs gs)

-- variables that are restored are themselves
abbrev pub returned : ℕ → CopyMap → CopyW → CopyW
returned n Plain w = w
returned n (Restore vars) Zero = Zero
returned n (Restore vars) (Map fs) = Map (restored n vars fs)

-- ---- equality

abbrev pub same_constant : Option ℤ → Option ℤ → Bool
same_constant None None = true
same_constant None (Some y) = false
same_constant (Some x) None = false
same_constant (Some x) (Some y) = int_eq x y

abbrev pub same_form : Form → Form → Bool
same_form Varying Varying = true
same_form Varying (Meet d t) = false
same_form (Meet c s) Varying = false
same_form (Meet c s) (Meet d t) = same_constant c d && nat_eq s t

abbrev pub same_forms : List Form → List Form → Bool
same_forms [] [] = true
same_forms [] (g ∷ gs) = false
same_forms (f ∷ fs) [] = false
same_forms (f ∷ fs) (g ∷ gs) = same_form f g && same_forms fs gs

abbrev pub same_weight : CopyW → CopyW → Bool
same_weight Zero Zero = true
same_weight Zero (Map gs) = false
same_weight (Map fs) Zero = false
same_weight (Map fs) (Map gs) = same_forms fs gs

-- ---- weights over n variables

abbrev pub each_below : ℕ → (ℕ → Bool) → Bool
each_below zero test = true
each_below (suc n) test = test n && each_below n test

-- n forms over n variables
abbrev pub weight_fits : ℕ → CopyW → Bool
weight_fits n Zero = true
weight_fits n (Map fs) = nat_eq (length fs) n && each_below n (λ k. form_fits n (form fs k))

-- ---- ranks

-- how many of the first k variables are not in a set
unfoldable pub absent : ℕ → ℕ → ℕ
absent zero s = 0
absent (suc k) s = (if has s k then 0 else 1) + absent k s

abbrev pub constant_rank : Option ℤ → ℕ
constant_rank None = 2
constant_rank (Some x) = 1

-- the variables that are no sources, and 1 with a constant, 2 without
abbrev pub form_rank : ℕ → Form → ℕ
form_rank n Varying = 0
form_rank n (Meet c s) = absent n s + constant_rank c

unfoldable pub rank_sum : ℕ → ℕ → List Form → ℕ
rank_sum zero n forms = 0
rank_sum (suc k) n forms = form_rank n (form forms k) + rank_sum k n forms

-- the sum over the variables; zero has one more than any other
abbrev pub weight_rank : ℕ → CopyW → ℕ
weight_rank n Zero = n * (n + 2) + 1
weight_rank n (Map fs) = rank_sum n n fs

-- The semiring of copy constants over n variables.
abbrev pub copy_operations : ℕ → Operations CopyW CopyMap
copy_operations n = record {
  zero = Zero;
  one = Map (identity n);
  combine = combined n;
  extend = extended n;
  after = returned n;
  plain = Plain;
  same = same_weight;
  fits = weight_fits n;
  fits_map = λ h. true;
  rank = weight_rank n;
  top_rank = n * (n + 2) + 1;
}
