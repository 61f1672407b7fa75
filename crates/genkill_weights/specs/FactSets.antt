-- Weights as functions on sets of facts. A set tells of each fact whether it is in it.
use Rattle.std.specs.Prelude.{◌≡◌, ℕ, ◌*◌, ◌≤◌, Bool, false, ◌&&◌, ◌||◌, if◌then◌else◌, List, Option, None, Some}
use Rattle.genkill_weights.specs.Masks.{fact}
use Rattle.genkill_weights.specs.declared.weight.GenKillW.{GenKillW}
use Rattle.genkill_weights.specs.declared.weight.GenKillW.TheVariants.{Zero, Map}

-- no fact is in the set but the first 64 n
abbrev pub IsFactSet : ℕ → (ℕ → Bool) → Type 0
IsFactSet n x = (f : ℕ) → 64 * n ≤ f → x f ≡ false

-- x -> (x & keep) | gens
abbrev pub passed : List ℕ → List ℕ → (ℕ → Bool) → ℕ → Bool
passed keep gens x f = (x f && fact keep f) || fact gens f

-- the facts that hold after runs of a weight, by those that hold before them; `None` after no run
abbrev pub facts_after : (n : ℕ) → GenKillW n → (ℕ → Bool) → Option (ℕ → Bool)
facts_after n Zero x = None
facts_after n (Map keep gens) x = Some (passed keep gens x)

-- the facts of either set; after no run there is nothing to add
abbrev pub union : Option (ℕ → Bool) → Option (ℕ → Bool) → Option (ℕ → Bool)
union None y = y
union (Some x) None = Some x
union (Some x) (Some y) = Some (λ f. x f || y f)

-- of these facts those that held before a call, of the others those that hold after it
abbrev pub restored : List ℕ → (ℕ → Bool) → Option (ℕ → Bool) → Option (ℕ → Bool)
restored facts before None = None
restored facts before (Some after) = Some (λ f. if fact facts f then before f else after f)
