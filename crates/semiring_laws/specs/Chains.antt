-- Weights that fall, one after another.
use Rattle.std.specs.Prelude.{◌≢◌, List, [], ◌∷◌}
use Rattle.semiring_laws.specs.Semiring.{Operations, Fits, Below}

-- each weight is below the one before and differs from it, the first of them from a
abbrev pub IsFalling : {W Map : Type 0} → Operations W Map → W → List W → Type 0
IsFalling s a [] = Unit {0}
IsFalling s a (b ∷ bs) = Fits s b × Below s b a × (b ≢ a) × IsFalling s b bs
