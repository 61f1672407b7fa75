-- Paths of places and of transitions, and what they are worth.
use Rattle.std.specs.Prelude.{◌≡◌, ◌≢◌, ℕ, ◌<◌, List, [], ◌∷◌, ◌++◌, map, IsSome}
use Rattle.std.specs.List.{AllByRecursion}
use Rattle.semiring_laws.specs.Semiring.{Operations, Fits, Below}
use Rattle.weighted_automata.specs.declared.place.Place.{Place}
use Rattle.weighted_automata.specs.declared.place.Label.{Label}
use Rattle.weighted_automata.specs.declared.place.Label.TheVariants.{Symbol, Empty}
use Rattle.weighted_automata.specs.declared.transitions.Entry.{Entry}
use Rattle.weighted_automata.specs.Entries.{entry_at, Present, HasDistinctPlaces}
use Rattle.witness_graph.specs.declared.node.Side.{Side}
use Rattle.witness_graph.specs.declared.node.Side.TheVariants.{Pre, Post}
use Rattle.pushdown_rules.specs.Configuration.{Configuration}
use Rattle.pushdown_rules.specs.Pushdown.{Pushdown}
use Rattle.pushdown_rules.specs.Firing.{Run}
use Rattle.saturation_laws.specs.declared.opening.Opening.{Opening}
use Rattle.saturation_laws.specs.Jobs.{Tables, place_of}
use Rattle.wpds_base.specs.Lists.{IsIn}
use Rattle.saturation_laws.specs.Directions.{IsConsequence}
use Rattle.saturation_laws.specs.Invariants.{IsApplied}
use Rattle.saturation_laws.specs.States.{weight_at}

abbrev pub symbols_of : Label → List ℕ
symbols_of (Symbol g) = g ∷ []
symbols_of Empty = []

-- the places lead from a state over a word to a state
abbrev pub IsPath : List Place → ℕ → List ℕ → ℕ → Type 0
IsPath [] from word to = (word ≡ []) × (from ≡ to)
IsPath (x ∷ xs) from word to = (rest : List ℕ) × (x.from ≡ from) × (word ≡ symbols_of x.label ++ rest) × IsPath xs x.to rest to

-- a run of each place
abbrev pub EachRun : (Place → List ℕ → Type 0) → List Place → List (List ℕ) → Type 0
EachRun runs [] [] = Unit {0}
EachRun runs [] (r ∷ rs) = ⊥
EachRun runs (x ∷ xs) [] = ⊥
EachRun runs (x ∷ xs) (r ∷ rs) = runs x r × EachRun runs xs rs

-- the runs along a path as one: in reading order backwards, and the deepest first forwards
abbrev pub runs_in_order : Side → List ℕ → List ℕ → List ℕ
runs_in_order Pre a b = a ++ b
runs_in_order Post a b = b ++ a

abbrev pub joined : Side → List (List ℕ) → List ℕ
joined side [] = []
joined side (r ∷ rs) = runs_in_order side r (joined side rs)

module _ {W Map : Type 0} (s : Operations W Map) where
  -- the product along a path, in the same order
  abbrev pub in_order : Side → W → W → W
  in_order Pre a b = s.extend a b
  in_order Post a b = s.extend b a

  abbrev pub along : Side → List W → W
  along side [] = s.one
  along side (w ∷ ws) = in_order side w (along side ws)

-- the edges read the word from one state to another
abbrev pub Reads : List Place → ℕ → List ℕ → ℕ → Type 0
Reads edges from [] to = from ≡ to
Reads edges from (g ∷ word) to = (mid : ℕ) × IsIn (record { from = from; label = Symbol g; to = mid }) edges × Reads edges mid word to

-- the opening automaton reads the configuration to a final state
abbrev pub IsOpened : Opening → Configuration → Type 0
IsOpened o c = (q : ℕ) × Reads o.edges c.control c.stack q × IsIn q o.finals

-- the run joins a configuration that the transitions read with one that the opening automaton reads: it leads to this one backwards, and from it forwards
abbrev pub Joins : {S W Map : Type 0} → Side → Pushdown S W Map → Configuration → List ℕ → Configuration → Type 0
Joins Pre p c run d = Run p c run d
Joins Post p c run d = Run p d run c

module _ {S W Map : Type 0} where
  abbrev pub entry_weight : Entry S W Map → W
  entry_weight t = t.weight

  -- A path of transitions over the configuration to a final state, with a product below v.
  pub record IsMet (s : Operations W Map) (side : Side) (finals : List ℕ) (ts : List (Entry S W Map)) (c : Configuration) (v : W) : Type 0 where
    pub path : List (Entry S W Map)
    pub to : ℕ
    pub present : AllByRecursion (Present ts) path
    pub reads : IsPath (map place_of path) c.control c.stack to
    pub final : IsIn to finals
    pub below : Below s (along s side (map entry_weight path)) v

  -- Transitions over which all is applied.
  pub record IsSaturated (s : Operations W Map) (d : Tables S W Map) (opening ts : List (Entry S W Map)) : Type 0 where
    pub distinct : HasDistinctPlaces ts
    pub fit : (t : Entry S W Map) → Present ts t → Fits s t.weight
    pub opened : (t : Entry S W Map) → IsIn t opening → IsSome (entry_at t.place ts) × Below s (weight_at s t.place ts) t.weight
    pub applied : (j : _) → IsConsequence d ts j → IsApplied s d ts j

  -- The runs along a path from a control make one run.
  pub record IsGiven (s : Operations W Map) (value : List ℕ → W) (side : Side) (p : Pushdown S W Map) (o : Opening) (c : Configuration) (to : ℕ) (rs : List (List ℕ)) : Type 0 where
    pub value_is : value (joined side rs) ≡ along s side (map value rs)
    pub run : IsIn to o.finals → (d : Configuration) × (d.control < p.controls) × IsOpened o d × Joins side p c (joined side rs) d

  -- The two laws on sums, of a direction over a system and an opening that it fits.
  pub record HasSums (s : Operations W Map) (value : List ℕ → W) (p : Pushdown S W Map) (o : Opening) (side : Side) (d : Tables S W Map) (opening : List (Entry S W Map)) (runs : Place → List ℕ → Type 0) : Type 0 where
    -- a run is met by a path
    pub met : (ts : List (Entry S W Map)) → IsSaturated s d opening ts → (run : List ℕ) (from to : Configuration) → from.control < p.controls → to.control < p.controls
        → Joins side p from run to → IsOpened o to → value run ≢ s.zero → IsMet s side o.finals ts from (value run)
    -- a path gives a run
    pub gives : (c : Configuration) (xs : List Place) (rs : List (List ℕ)) (to : ℕ) → c.control < p.controls → IsPath xs c.control c.stack to → EachRun runs xs rs
        → IsGiven s value side p o c to rs
