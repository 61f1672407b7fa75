-- What the runs of a weight, one or several, do to each fact: they generate it, kill it, or neither.
use Rattle.std.specs.Prelude.{ℕ, ◌*◌, Bool, false, not, ◌&&◌, ◌||◌, nat_lt}
use Rattle.genkill_weights.specs.Masks.{fact}
use Rattle.genkill_weights.specs.declared.weight.GenKillW.{GenKillW}
use Rattle.genkill_weights.specs.declared.weight.GenKillW.TheVariants.{Zero, Map}

-- some run generates the fact: it holds after that run, whatever held before
abbrev pub generates : (n : ℕ) → GenKillW n → ℕ → Bool
generates n Zero f = false
generates n (Map keep gens) f = fact gens f

-- each run kills the fact, one of the first 64 n: it holds after none of them, whatever held before
abbrev pub kills : (n : ℕ) → GenKillW n → ℕ → Bool
kills n Zero f = false
kills n (Map keep gens) f = nat_lt f (64 * n) && not (fact keep f)

-- a set of facts, of which first some are killed and then some generated
abbrev pub changed : (generated killed : ℕ → Bool) → (ℕ → Bool) → ℕ → Bool
changed generated killed x f = generated f || (x f && not (killed f))
