-- Where a walk stops.
use Rattle.std.proofs.Common.{◌≡◌, ℕ, true, List, [], ◌∷◌, length, drop, refl, subst, arith}
use Rattle.std.specs.Prelude.{IsTrue, IfSome, Option, None, Some, nat_le}
use Rattle.std.specs.List.{list_all}
use Rattle.std.proofs.lemmas.Bool.{and_from, le-leb, eqb-true, false≢true}
use Rattle.config_patterns.specs.declared.item.Item.{Item}
use Rattle.config_patterns.specs.Edges.{is_final_of, is_starred}
use Rattle.forward_value_walk.specs.Walking.{is_stop}

none_left : (xs : List Item) → list_all is_starred (drop (length xs) xs) ≡ true
none_left [] = refl
none_left (x ∷ xs) = none_left xs

pub final_last : (items : List Item) → IsTrue (is_final_of items (length items))
final_last items = and_from (nat_le (length items) (length items)) (list_all is_starred (drop (length items) items)) (le-leb (length items) (length items) (omega arith)) (none_left items)

-- what holds of the state that was found holds where the walk stops
pub stopped_by : (o : Option ℕ) (P : ℕ → Type 0) → IfSome o P → (j : ℕ) → IsTrue (is_stop o j) → P j
stopped_by None P holds j stop = absurd (false≢true stop)
stopped_by (Some n) P holds j stop = subst P (eqb-true n j stop) holds
