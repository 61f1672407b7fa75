-- Worked rows of the definitions.
use Rattle.std.proofs.Common.{◌≡◌, ℕ, true, false, [], ◌∷◌, refl}
use Rattle.weighted_automata.specs.declared.place.Place.{Place}
use Rattle.weighted_automata.specs.declared.place.Label.TheVariants.{Symbol}
use Rattle.config_patterns.specs.Membership.{PatternValue}
use Rattle.pattern_openings.specs.PatternOpenings.{state_of, finals_of_items, opening_of}
use Rattle.pattern_openings.specs.JointOpenings.{joint_edges, joint_finals, items_of}

pub the_control : state_of 3 1 0 ≡ 1
the_control = refl

pub the_first_item : state_of 3 1 1 ≡ 3
the_first_item = refl

pub the_fourth_item : state_of 3 1 4 ≡ 6
the_fourth_item = refl

abbrev place : ℕ → ℕ → ℕ → Place
place from symbol to = record { from = from; label = Symbol symbol; to = to }

-- a symbol 7, and then any number of symbols 8
abbrev seven_and_eights : PatternValue
seven_and_eights = record { control = 1; symbols = 9; items = record { set = 7 ∷ []; star = false } ∷ record { set = 8 ∷ []; star = true } ∷ [] }

pub its_opening : opening_of 3 seven_and_eights ≡ record { edges = place 1 7 3 ∷ place 3 8 4 ∷ place 4 8 4 ∷ []; finals = 3 ∷ 4 ∷ [] }
its_opening = refl

-- without items the control is the one final state
pub no_items : opening_of 3 (record { control = 2; symbols = 9; items = [] }) ≡ record { edges = []; finals = 2 ∷ [] }
no_items = refl

pub starred_alone : finals_of_items (record { set = 8 ∷ []; star = true } ∷ []) ≡ 0 ∷ 1 ∷ []
starred_alone = refl

-- any of two symbols, and nothing else
abbrev one_or_two : PatternValue
one_or_two = record { control = 2; symbols = 9; items = record { set = 1 ∷ 2 ∷ []; star = false } ∷ [] }

-- the one item of the second pattern stands behind the two of the first
pub both_edges : joint_edges 3 (seven_and_eights ∷ one_or_two ∷ []) ≡ place 1 7 3 ∷ place 3 8 4 ∷ place 4 8 4 ∷ place 2 1 5 ∷ place 2 2 5 ∷ []
both_edges = refl

pub both_finals : joint_finals 3 (seven_and_eights ∷ one_or_two ∷ []) ≡ (3 ∷ 4 ∷ []) ∷ (5 ∷ []) ∷ []
both_finals = refl

pub the_same_twice : joint_edges 3 (one_or_two ∷ one_or_two ∷ []) ≡ place 2 1 3 ∷ place 2 2 3 ∷ place 2 1 4 ∷ place 2 2 4 ∷ []
the_same_twice = refl

pub no_patterns : joint_finals 3 [] ≡ []
no_patterns = refl

pub both_items : items_of (seven_and_eights ∷ one_or_two ∷ []) ≡ 3
both_items = refl
