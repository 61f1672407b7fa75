-- The openings of several patterns as one automaton.
use Rattle.std.specs.Prelude.{◌≡◌, ℕ, ◌+◌, ◌<◌, ◌≤◌, List, [], ◌∷◌, ◌++◌, length}
use Rattle.weighted_automata.specs.declared.place.Place.{Place}
use Rattle.weighted_automata.specs.declared.place.Label.TheVariants.{Symbol}
use Rattle.config_patterns.specs.Membership.{PatternValue}
use Rattle.wpds_base.specs.Lists.{IsIn}
use Rattle.saturation_laws.specs.declared.opening.Opening.{Opening}
use Rattle.pattern_openings.specs.PatternOpenings.{opening_of}

-- how many items patterns have together
abbrev pub items_of : List PatternValue → ℕ
items_of [] = 0
items_of (d ∷ ds) = length d.items + items_of ds

-- The edges of several patterns, in their order. The items of each are numbered behind those of the patterns before it.
abbrev pub joint_edges : ℕ → List PatternValue → List Place
joint_edges states [] = []
joint_edges states (d ∷ ds) = (opening_of states d).edges ++ joint_edges (states + length d.items) ds

-- the final states of each pattern
abbrev pub joint_finals : ℕ → List PatternValue → List (List ℕ)
joint_finals states [] = []
joint_finals states (d ∷ ds) = (opening_of states d).finals ∷ joint_finals (states + length d.items) ds

-- an opening that accepts nowhere, so that it serves every pattern alike
abbrev pub edges_alone : List Place → Opening
edges_alone edges = record { edges = edges; finals = [] }

-- An edge on a symbol, to a state that is no control.
pub record LeadsToItem (controls : ℕ) (x : Place) : Type 0 where
  pub reads : (g : ℕ) × (x.label ≡ Symbol g)
  pub to_item : controls ≤ x.to

-- An edge between states before a first number, to one that is no control.
pub record IsBefore (controls first : ℕ) (x : Place) : Type 0 where
  pub from : x.from < first
  pub to_item : controls ≤ x.to
  pub to_last : x.to < first

-- each of these edges is one
abbrev pub AreBefore : ℕ → ℕ → List Place → Type 0
AreBefore controls first edges = (x : Place) → IsIn x edges → IsBefore controls first x
