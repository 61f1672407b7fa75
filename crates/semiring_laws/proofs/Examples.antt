-- The definitions worked out with reachability.
use Rattle.std.proofs.Common.{◌≡◌, true, false, [], ◌∷◌, refl}
use Rattle.semiring_laws.specs.Semiring.{Below}
use Rattle.semiring_laws.specs.Reach.{reach_operations}
use Rattle.semiring_laws.specs.Combination.{combination}
use Rattle.semiring_laws.specs.Chains.{IsFalling}

reached_below : Below reach_operations true false
reached_below = refl

not_above : Below reach_operations false true → ⊥
not_above h = cc

of_none : combination reach_operations [] ≡ false
of_none = refl

of_some : combination reach_operations (false ∷ true ∷ false ∷ []) ≡ true
of_some = refl

of_zeros : combination reach_operations (false ∷ false ∷ []) ≡ false
of_zeros = refl

one_fall : IsFalling reach_operations false (true ∷ [])
one_fall = (refl, refl, λ e. cc, tt)

no_second_fall : IsFalling reach_operations true (true ∷ []) → ⊥
no_second_fall (fit, below, differs, more) = differs refl

no_rise : IsFalling reach_operations true (false ∷ []) → ⊥
no_rise (fit, below, differs, more) = cc
