-- Where members of a list stand that pass a test.
use Rattle.std.specs.Prelude.{ℕ, suc, ◌+◌, Bool, List, [], ◌∷◌, drop, Option, None, Some, option_map, if◌then◌else◌}

-- where the first stands that passes
abbrev pub index_where : {X : Type 0} → (X → Bool) → List X → Option ℕ
index_where p [] = None
index_where p (x ∷ xs) = if p x then Some 0 else option_map (λ k. k + 1) (index_where p xs)

-- where the first stands that passes, of those from a number on
abbrev pub index_from : {X : Type 0} → (X → Bool) → ℕ → List X → Option ℕ
index_from p i xs = option_map (λ k. k + i) (index_where p (drop i xs))

-- where the last stands that passes
abbrev pub last_where : {X : Type 0} → (X → Bool) → List X → Option ℕ
last_where p [] = None
last_where p (x ∷ xs) = elim (last_where p xs) [ Some k ↦ Some (suc k) | None ↦ if p x then Some 0 else None ]
