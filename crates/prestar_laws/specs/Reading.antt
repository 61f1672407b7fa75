-- The runs of a place, backwards.
use Rattle.std.specs.Prelude.{◌≡◌, ◌⊎◌, ℕ, ◌<◌, ◌≤◌, List, [], ◌∷◌}
use Rattle.weighted_automata.specs.declared.place.Place.{Place}
use Rattle.weighted_automata.specs.declared.place.Label.TheVariants.{Symbol, Empty}
use Rattle.pushdown_rules.specs.Configuration.{Configuration}
use Rattle.pushdown_rules.specs.Pushdown.{Pushdown}
use Rattle.pushdown_rules.specs.Firing.{Run}
use Rattle.wpds_base.specs.Lists.{IsIn}
use Rattle.saturation_laws.specs.Paths.{Reads}

-- the run leads from the control over the symbol to a configuration that the edges read to a state
abbrev pub LeadsTo : {S W Map : Type 0} → Pushdown S W Map → List Place → ℕ → ℕ → ℕ → List ℕ → Type 0
LeadsTo p edges from g to run = (d : Configuration) × Run p (record { control = from; stack = g ∷ [] }) run d × Reads edges d.control d.stack to

-- the same over a word
abbrev pub LeadsOver : {S W Map : Type 0} → Pushdown S W Map → List Place → ℕ → List ℕ → ℕ → List ℕ → Type 0
LeadsOver p edges from word to run = (d : Configuration) × Run p (record { control = from; stack = word }) run d × Reads edges d.control d.stack to

-- The runs of a place. From a state that is no control there is an opening edge, and the empty run alone.
abbrev pub PreRun : {S W Map : Type 0} → Pushdown S W Map → List Place → Place → List ℕ → Type 0
PreRun p edges x run = elim x.label [
  | Symbol g ↦ ((x.from < p.controls) × LeadsTo p edges x.from g x.to run) ⊎ ((p.controls ≤ x.from) × IsIn x edges × (run ≡ []))
  | Empty ↦ ⊥
]
