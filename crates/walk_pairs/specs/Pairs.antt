-- The pairs of a walk: a state of a pattern, with a control or a state of another pattern; and an item of it that is read next, with what a state has, or with an item of the other pattern. The pairs of each stage have their places in the layer of the walk, and so has the answer.
use Rattle.std.specs.Prelude.{ℕ}
use Rattle.weighted_automata.specs.declared.place.Place.{Place}
use Rattle.weighted_automata.specs.declared.place.Label.TheVariants.{Symbol, Empty}
use Rattle.semiring_laws.specs.Semiring.{Operations}
use Rattle.walk_pairs.specs.declared.pairs.Order.{Order}
use Rattle.walk_pairs.specs.declared.pairs.Order.TheVariants.{Then, After}
use Rattle.walk_pairs.specs.declared.pairs.Stage.{Stage}
use Rattle.walk_pairs.specs.declared.pairs.Stage.TheVariants.{Down, Across, Before, Above}

abbrev pub number_of : Stage → ℕ
number_of Down = 0
number_of Across = 1
number_of Before = 2
number_of Above = 3

abbrev pub pair_place : Stage → ℕ → ℕ → Place
pair_place stage state to = record { from = number_of stage; label = Symbol state; to = to }

abbrev pub answer_place : Place
answer_place = record { from = 0; label = Empty; to = 0 }

-- the weight in hand and an entry's, in this order
abbrev pub joined : {W Map : Type 0} → Operations W Map → Order → W → W → W
joined s Then hand weight = s.extend hand weight
joined s After hand weight = s.extend weight hand

-- the place of what leads from one over a symbol to another
abbrev pub place_over : ℕ → ℕ → ℕ → Place
place_over from g to = record { from = from; label = Symbol g; to = to }
