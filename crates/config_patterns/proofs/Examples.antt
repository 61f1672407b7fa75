-- Worked rows of the definitions.
use Rattle.std.proofs.Common.{◌≡◌, ℕ, true, false, List, [], ◌∷◌, refl}
use Rattle.std.specs.Prelude.{None, Some}
use Rattle.config_patterns.specs.declared.item.Item.{Item}
use Rattle.config_patterns.specs.declared.edge.Edge.{Edge}
use Rattle.config_patterns.specs.declared.pattern.PatternFault.TheVariants.{NoSymbol}
use Rattle.config_patterns.specs.Membership.{PatternValue, items_match, has_member}
use Rattle.config_patterns.specs.Edges.{edges_of, is_final_of}
use Rattle.config_patterns.specs.Validity.{is_set}
use Rattle.config_patterns.specs.Fault.{item_fault}

-- any number of the symbols 0 and 1, and then a 2
abbrev then_two : List Item
then_two = record { set = 0 ∷ 1 ∷ []; star = true } ∷ record { set = 2 ∷ []; star = false } ∷ []

pub two_alone : items_match then_two (2 ∷ []) ≡ true
two_alone = refl

pub two_below_others : items_match then_two (0 ∷ 1 ∷ 0 ∷ 2 ∷ []) ≡ true
two_below_others = refl

pub no_two : items_match then_two (0 ∷ []) ≡ false
no_two = refl

pub two_twice : items_match then_two (2 ∷ 2 ∷ []) ≡ false
two_twice = refl

pub nothing_is_left : items_match [] (0 ∷ []) ≡ false
nothing_is_left = refl

abbrev at_five : PatternValue
at_five = record { control = 5; symbols = 3; items = then_two }

pub its_control : has_member at_five (record { control = 5; stack = 1 ∷ 2 ∷ [] }) ≡ true
its_control = refl

pub another_control : has_member at_five (record { control = 4; stack = 1 ∷ 2 ∷ [] }) ≡ false
another_control = refl

abbrev edge : ℕ → ℕ → ℕ → Edge
edge from symbol to = record { from = from; symbol = symbol; to = to }

-- by source, then by target, then in the order of the set
pub edges_in_order : edges_of then_two ≡ edge 0 0 1 ∷ edge 0 1 1 ∷ edge 0 2 2 ∷ edge 1 0 1 ∷ edge 1 1 1 ∷ edge 1 2 2 ∷ []
edges_in_order = refl

pub before_the_two : is_final_of then_two 1 ≡ false
before_the_two = refl

pub after_the_two : is_final_of then_two 2 ≡ true
after_the_two = refl

pub past_the_items : is_final_of then_two 3 ≡ false
past_the_items = refl

pub zero_twice : is_set (0 ∷ 1 ∷ 0 ∷ []) ≡ false
zero_twice = refl

pub each_once : is_set (0 ∷ 1 ∷ 2 ∷ []) ≡ true
each_once = refl

pub no_such_symbol : item_fault at_five (0 ∷ 3 ∷ []) true ≡ Some NoSymbol
no_such_symbol = refl

pub no_fault : item_fault at_five (0 ∷ 2 ∷ []) true ≡ None
no_fault = refl
