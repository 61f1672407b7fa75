-- What a weight does to facts, as the code asks it.
use Rattle.std.specs.Prelude.{ℕ, Bool}
use Rattle.genkill_weights.specs.declared.weight.GenKillW.{GenKillW}
use Rattle.genkill_weights.specs.Effects.{generates, kills}
use Rattle.document_systems.specs.declared.facts.Effect.{Effect}
use Rattle.document_systems.specs.declared.facts.Effect.TheVariants.{Generated, Killed}

abbrev pub has_effect : (n : ℕ) → Effect → GenKillW n → ℕ → Bool
has_effect n Generated w f = generates n w f
has_effect n Killed w f = kills n w f
