-- The pairs that a sum can reach.
use Rattle.std.specs.Prelude.{ℕ, map, List, [], ◌∷◌, if◌then◌else◌}
use Rattle.weighted_automata.specs.declared.transitions.Entry.{Entry}
use Rattle.path_sum.specs.Sums.{has_state}

-- each state once
abbrev pub distinct : List ℕ → List ℕ
distinct [] = []
distinct (q ∷ qs) = if has_state q qs then distinct qs else q ∷ distinct qs

-- the states in which a walk from a control can stand: the control, and those that transitions lead to
abbrev pub states_of : {S W Map : Type 0} → ℕ → List (Entry S W Map) → List ℕ
states_of control ts = distinct (control ∷ map (λ t. t.place.to) ts)
