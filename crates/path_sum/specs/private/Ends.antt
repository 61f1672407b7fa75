-- Where a walk that is finished ends.
use Rattle.std.specs.Prelude.{ℕ, List, [], ◌∷◌, ◌++◌, map}
use Rattle.saturation_laws.specs.States.{weight_at}
use Rattle.semiring_laws.specs.Combination.{combination}
use Rattle.semiring_laws.specs.Semiring.{Operations}
use Rattle.weighted_automata.specs.declared.place.Place.{Place}
use Rattle.weighted_automata.specs.declared.transitions.Entry.{Entry}
use Rattle.path_sum.specs.Sums.{pair_place}

-- each of these states of a pattern with a state
abbrev pub pairs_with : List ℕ → ℕ → List Place
pairs_with ends q = map (λ i. pair_place i q) ends

-- and with each of these states
abbrev pub pairs_to : List ℕ → List ℕ → List Place
pairs_to ends [] = []
pairs_to ends (q ∷ qs) = pairs_with ends q ++ pairs_to ends qs

module _ {S W Map : Type 0} (s : Operations W Map) (sums : List (Entry S W Map)) where
  -- the weights at these places
  abbrev pub weights_at : List Place → List W
  weights_at places = map (λ x. weight_at s x sums) places

  -- the weight of all pairs of one of these states of a pattern and one of these states
  abbrev pub total_to : List ℕ → List ℕ → W
  total_to ends states = combination s (weights_at (pairs_to ends states))
