-- Texts in a row.
use Rattle.std.specs.Prelude.{ℕ, Bool, true, false, List, [], ◌∷◌, ◌++◌, flat_map, if◌then◌else◌}

abbrev pub has_some : {X : Type 0} → List X → Bool
has_some [] = false
has_some (x ∷ xs) = true

-- a blank before each
abbrev pub behind_blanks : List (List ℕ) → List ℕ
behind_blanks ts = flat_map (λ t. 32 ∷ t) ts

-- a mark before each, but before the first only if it is said
abbrev pub marked : (mark : List ℕ) → (first : Bool) → List (List ℕ) → List ℕ
marked mark first [] = []
marked mark first (t ∷ ts) = (if first then mark else []) ++ t ++ marked mark true ts

-- a line feed behind each
abbrev pub lines : List (List ℕ) → List ℕ
lines ls = flat_map (λ l. l ++ 10 ∷ []) ls
