-- What stays true of weights while more are made.
use Rattle.std.specs.Prelude.{◌≡◌}

-- Weights of the same system are made, and each weight that was known still is, and is worth the same.
pub record Grows {M P W V : Type 0} (pushdown : M → P) (Knows : M → W → Type 0) (worth : M → W → V) (old new : M) : Type 0 where
  pub system : pushdown new ≡ pushdown old
  pub known : (w : W) → Knows old w → Knows new w
  pub stays : (w : W) → Knows old w → worth new w ≡ worth old w
