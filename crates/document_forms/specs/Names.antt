-- Names, and what a list of them has.
use Rattle.std.specs.Prelude.{ℕ, ◌+◌, Bool, false, not, ◌||◌, List, [], ◌∷◌, filter, bytes_eq, codes, if◌then◌else◌, slice_index_or}
use Rattle.std.specs.List.{list_any}

abbrev pub is_among : List (List ℕ) → List ℕ → Bool
is_among xs x = list_any (bytes_eq x) xs

-- words of the two languages that can't be declared
abbrev pub reserved : List (List ℕ)
reserved =
    codes "one" ∷ codes "none" ∷ codes "undef" ∷ codes "return" ∷ codes "restore" ∷ codes "move"
    ∷ codes "plain" ∷ codes "assume" ∷ codes "choose" ∷ codes "tab2" ∷ codes "tab3"
    ∷ codes "global" ∷ codes "proc" ∷ codes "returns" ∷ codes "local" ∷ codes "if" ∷ codes "else"
    ∷ codes "end" ∷ codes "while" ∷ codes "goto" ∷ codes "assert" ∷ codes "call" ∷ codes "skip"
    ∷ codes "query" ∷ []

abbrev pub is_reserved : List ℕ → Bool
is_reserved x = is_among reserved x

-- some name stands a second time
abbrev pub has_twice : List (List ℕ) → Bool
has_twice [] = false
has_twice (x ∷ xs) = is_among xs x || has_twice xs

-- each name once, where it stands first
abbrev pub once : List (List ℕ) → List (List ℕ)
once [] = []
once (x ∷ xs) = x ∷ filter (λ y. not (bytes_eq x y)) (once xs)

-- some name is none of the known ones
abbrev pub has_unknown : List (List ℕ) → List (List ℕ) → Bool
has_unknown known xs = list_any (λ x. not (is_among known x)) xs

-- the number of a name, its place in the list that has it
abbrev pub number_in : List (List ℕ) → List ℕ → ℕ
number_in [] x = 0
number_in (y ∷ ys) x = if bytes_eq x y then 0 else number_in ys x + 1

-- the name with a number
abbrev pub name : List (List ℕ) → ℕ → List ℕ
name names k = slice_index_or names k []
