use Rattle.std.proofs.Common.{ℕ, zero, suc, ◌<◌, ◌∷◌, [], get_or, arith}
use Rattle.tests_diagrams.proofs.operations.renaming.Goals as goal

rising : (j k : ℕ) → j < k → k < 3 → get_or (1 ∷ 2 ∷ 5 ∷ []) j 0 < get_or (1 ∷ 2 ∷ 5 ∷ []) k 0
rising j zero h w = absurd (omega arith)
rising zero (suc zero) h w = omega arith
rising (suc j) (suc zero) h w = absurd (omega arith)
rising zero (suc (suc zero)) h w = omega arith
rising (suc zero) (suc (suc zero)) h w = omega arith
rising (suc (suc j)) (suc (suc zero)) h w = absurd (omega arith)
rising j (suc (suc (suc k))) h w = absurd (omega arith)

pub rename-requires-clause-rises : goal.rename-requires-clause-rises
rename-requires-clause-rises g c = rising
