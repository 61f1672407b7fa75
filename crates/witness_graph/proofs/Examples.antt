-- Worked rows of the definitions.
use Rattle.std.proofs.Common.{◌≡◌, List, [], ◌∷◌, refl}
use Rattle.std.specs.Prelude.{None, Some}
use Rattle.witness_graph.specs.declared.node.Node.{Node}
use Rattle.witness_graph.specs.declared.node.Node.TheVariants.{Start, Lower}
use Rattle.witness_graph.specs.declared.node.Side.TheVariants.{Pre, Post}
use Rattle.witness_graph.specs.Runs.{runs_of}
use Rattle.witness_graph.specs.Order.{walk, post_order, listing_of}

-- the runs before stand first
abbrev chain : List Node
chain = Start ∷ Lower None (Some 5) (Some 0) None ∷ Lower (Some 1) (Some 6) None None ∷ []

pub before_first : runs_of Pre chain 2 ≡ (5 ∷ []) ∷ (6 ∷ []) ∷ []
unfolding runs_of
before_first = refl

-- two nodes of two runs each, and one of both
abbrev two_and_two : List Node
two_and_two = Lower None (Some 1) None None ∷ Lower (Some 0) (Some 2) None None ∷ Lower None (Some 3) None None ∷ Lower (Some 2) (Some 4) None None
    ∷ Lower None (Some 9) (Some 1) (Some 3) ∷ []

-- backwards the rule stands first, and the runs of the first part change slowest
pub rule_first : runs_of Pre two_and_two 4 ≡ (9 ∷ 1 ∷ 3 ∷ []) ∷ (9 ∷ 1 ∷ 4 ∷ []) ∷ (9 ∷ 2 ∷ 3 ∷ []) ∷ (9 ∷ 2 ∷ 4 ∷ []) ∷ []
unfolding runs_of
rule_first = refl

-- forwards it stands last
pub rule_last : runs_of Post two_and_two 4 ≡ (1 ∷ 3 ∷ 9 ∷ []) ∷ (1 ∷ 4 ∷ 9 ∷ []) ∷ (2 ∷ 3 ∷ 9 ∷ []) ∷ (2 ∷ 4 ∷ 9 ∷ []) ∷ []
unfolding runs_of
rule_last = refl

-- a diamond, its right side first
abbrev diamond : List Node
diamond = Start ∷ Start ∷ Lower None (Some 1) (Some 0) None ∷ Lower None (Some 2) (Some 0) None ∷ Lower None None (Some 3) (Some 2) ∷ []

pub right_side_first : post_order diamond 4 ≡ 0 ∷ 3 ∷ 2 ∷ 4 ∷ []
unfolding walk
right_side_first = refl

pub diamond_listed : listing_of diamond 4 ≡ Start ∷ Lower None (Some 2) (Some 0) None ∷ Lower None (Some 1) (Some 0) None ∷ Lower None None (Some 1) (Some 2) ∷ []
unfolding walk
diamond_listed = refl
