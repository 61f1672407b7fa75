-- What a pass over the rules lists.
use Rattle.std.specs.Prelude.{ℕ, suc, Bool, List, [], ◌∷◌, ◌++◌, Option, None, Some, if◌then◌else◌}
use Rattle.pushdown_rules.specs.declared.rule.Rule.{Rule}

-- the item alone, where the test holds
abbrev pub only_if : {X : Type 0} → Bool → X → List X
only_if test x = if test then x ∷ [] else []

-- the symbol of a word of one
abbrev pub one_symbol : List ℕ → Option ℕ
one_symbol word = elim word [ [] ↦ None | g ∷ gs ↦ elim gs [ [] ↦ Some g | h ∷ hs ↦ None ] ]

-- the symbols of a word of two
abbrev pub two_symbols : List ℕ → Option (ℕ × ℕ)
two_symbols word = elim word [ [] ↦ None | g ∷ gs ↦ elim gs [ [] ↦ None | h ∷ hs ↦ elim hs [ [] ↦ Some (g, h) | i ∷ is ↦ None ] ] ]

-- what each rule gives, counted on from a number
abbrev pub by_rule : {S W Map X : Type 0} → (ℕ → Rule S W Map → List X) → ℕ → List (Rule S W Map) → List X
by_rule f k [] = []
by_rule f k (r ∷ rs) = f k r ++ by_rule f (suc k) rs
