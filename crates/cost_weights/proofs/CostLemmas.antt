-- Which cost is below which.
use Rattle.std.proofs.Common.{◌≡◌, ◌≤◌, ◌↔◌, ℕ, refl, ap, arith}
use Rattle.std.specs.Prelude.{Option, None, Some, min}
use Rattle.std.proofs.lemmas.Option.{same_Some}
use Rattle.semiring_laws.specs.Semiring.{Below}
use Rattle.cost_weights.specs.Cost.{cost_operations}

pub numbers_below : (cap m n : ℕ) → Below (cost_operations cap) (Some m) (Some n) ↔ (m ≤ n)
numbers_below cap m n = ((λ below. let least : min m n ≡ m = same_Some (min m n) m below in omega arith), (λ low. ap Some (omega arith)))

pub below_no_run : (cap : ℕ) (a : Option ℕ) → Below (cost_operations cap) a None
below_no_run cap None = refl
below_no_run cap (Some n) = refl

pub no_run_below : (cap : ℕ) (a : Option ℕ) → Below (cost_operations cap) None a → a ≡ None
no_run_below cap a below = below
