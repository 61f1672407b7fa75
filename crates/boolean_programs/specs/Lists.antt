-- Places in lists.
use Rattle.std.specs.Prelude.{◌≡◌, ℕ, suc, List, [], ◌∷◌, Option, None, Some, option_map, slice_get, nat_eq, if◌then◌else◌}

-- each element has the property
abbrev pub Each : {X : Type 0} → (X → Type 0) → List X → Type 0
Each {X} P xs = (k : ℕ) (x : X) → slice_get xs k ≡ Some x → P x

-- the place of a number in a list, the first if there are several
abbrev pub place_in : List ℕ → ℕ → Option ℕ
place_in [] n = None
place_in (m ∷ ms) n = if nat_eq m n then Some 0 else option_map (λ k. suc k) (place_in ms n)

-- no number stands twice
abbrev pub StandOnce : List ℕ → Type 0
StandOnce ns = (k n : ℕ) → slice_get ns k ≡ Some n → place_in ns n ≡ Some k
