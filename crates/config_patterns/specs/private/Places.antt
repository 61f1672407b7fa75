-- The places where a walk over the items may stand: before an item, or after the last.
use Rattle.std.specs.Prelude.{ℕ, Bool, false, ◌||◌, ◌&&◌, not, List, [], ◌∷◌}
use Rattle.config_patterns.specs.declared.item.Item.{Item}
use Rattle.config_patterns.specs.Membership.{has_symbol, items_match, is_bare}

-- the items from one of the places on match the stack
abbrev pub place_matches : List Item → List Bool → List ℕ → Bool
place_matches items [] stack = false
place_matches [] (b ∷ bs) stack = b && is_bare stack
place_matches (x ∷ xs) (b ∷ bs) stack = (b && items_match (x ∷ xs) stack) || place_matches xs bs stack

-- The places after a symbol. `skipped` says that the first was reached without a symbol, `entered` that it was reached by this one.
abbrev pub advanced : ℕ → Bool → Bool → List Item → List Bool → List Bool
advanced g skipped entered items [] = []
advanced g skipped entered [] (b ∷ bs) = entered ∷ bs
advanced g skipped entered (x ∷ xs) (b ∷ bs) =
    let here = b || skipped in
    let takes = here && has_symbol g x.set in
    (entered || (takes && x.star)) ∷ advanced g (here && x.star) (takes && not x.star) xs bs
