-- Places over a symbol, and openings that lead to items.
use Rattle.std.specs.Prelude.{ℕ, ◌≤◌, Bool, true, false, List}
use Rattle.weighted_automata.specs.declared.place.Label.{Label}
use Rattle.weighted_automata.specs.declared.place.Label.TheVariants.{Symbol, Empty}
use Rattle.weighted_automata.specs.declared.place.Place.{Place}
use Rattle.wpds_base.specs.Lists.{IsIn}

abbrev pub arrow : ℕ → ℕ → ℕ → Place
arrow from g to = record { from = from; label = Symbol g; to = to }

abbrev pub reads_symbol : Label → Bool
reads_symbol (Symbol g) = true
reads_symbol Empty = false

-- no edge leads to a control
abbrev pub LeadsToItems : ℕ → List Place → Type 0
LeadsToItems controls edges = (x : Place) → IsIn x edges → controls ≤ x.to
