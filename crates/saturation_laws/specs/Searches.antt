-- A saturation without events, as contracts see it. One worker makes it, who settles what it takes before it takes more.
use Rattle.std.specs.Prelude.{◌≡◌, ℕ, ◌+◌, ◌-◌, ◌*◌, ◌<◌, List, [], ◌∷◌, length, None, replicate, IsTrue}
use Rattle.wpds_base.specs.Limits.{most_seats}
use Rattle.semiring_laws.specs.Semiring.{Operations}
use Rattle.weighted_automata.specs.declared.place.Place.{Place}
use Rattle.weighted_automata.specs.Entries.{entry_at}
use Rattle.witness_graph.specs.Runs.{runs_of}
use Rattle.pushdown_rules.specs.Pushdown.{Pushdown, IsSystem}
use Rattle.pushdown_rules.specs.Values.{value_of}
use Rattle.saturation_laws.specs.declared.opening.Opening.{Opening}
use Rattle.saturation_laws.specs.declared.holding.Holding.{Holding}
use Rattle.saturation_laws.specs.States.{CoreState, Change, apply_all, jobs_at, take, settle}
use Rattle.saturation_laws.specs.Queues.{queued}
use Rattle.saturation_laws.specs.Invariants.{LockInvariant}
use Rattle.saturation_laws.specs.Bound.{fallen, IsWithin}
use Rattle.saturation_laws.specs.Ways.{Way, start_of}

pub record SearchValue (S W Map D : Type 0) : Type 0 where
  pub system : Pushdown S W Map
  pub direction : D
  pub opening : Opening
  pub state : CoreState S W Map

module _ {S W Map D : Type 0} where
  -- nothing waits
  abbrev pub IsDone : SearchValue S W Map D → Type 0
  IsDone v = v.state.queue ≡ []

  -- Systems and directions are equal, and so are openings.
  pub record HasSameOpening (a b : SearchValue S W Map D) : Type 0 where
    pub system : b.system ≡ a.system
    pub direction : b.direction ≡ a.direction
    pub opening : b.opening ≡ a.opening

module _ {S W Map D : Type 0} (operations : S → Operations W Map) (way : Way S W Map D) where
  -- the search that begins with an opening
  abbrev pub search_from : Pushdown S W Map → D → Opening → SearchValue S W Map D
  search_from p d o = record { system = p; direction = d; opening = o; state = start_of operations way d p o }

  -- the hand of a place that is taken
  abbrev pub hand_of : SearchValue S W Map D → Place → Holding S W Map
  hand_of v x = record { place = x; jobs = jobs_at (operations v.system.semiring) (way.tables v.direction v.system) (entry_at x v.state.transitions) v.state.transitions }

  -- the search after the first seat has taken a place and settled what it gives
  abbrev pub turned : Place → SearchValue S W Map D → SearchValue S W Map D
  turned x v =
      let s = operations v.system.semiring in
      let d = way.tables v.direction v.system in
      record v { state = settle s d 0 (hand_of v x) (take s d 0 x v.state) }

  -- the place that waits longest is taken and settled
  abbrev pub TurnsTo : SearchValue S W Map D → SearchValue S W Map D → Type 0
  TurnsTo old new = (x : Place) × (q : List Place) × (old.state.queue ≡ x ∷ q) × (new ≡ turned x old)

  -- The search after the first seat has taken the place that waits longest, of which these wait behind it, and has made some
  -- changes, and then the place waits again, last.
  abbrev pub stopped : Place → List Place → List (Change W) → SearchValue S W Map D → SearchValue S W Map D
  stopped x q cs v =
      let st = apply_all (operations v.system.semiring) cs (record v.state { queue = q }) in
      record v { state = record st { queue = queued x st.queue } }

  -- at most how many turns are left
  abbrev pub turns_left : SearchValue S W Map D → ℕ
  turns_left v =
      let s = operations v.system.semiring in
      let places = way.places v.direction v.system v.opening in
      length v.state.queue + (length places * s.top_rank - fallen s v.state.transitions places)

  -- What holds of every search: it is what a lock would guard while no hand is out.
  pub record IsSearch (v : SearchValue S W Map D) : Type 0 where
    pub system : IsSystem operations v.system
    pub fits : IsTrue (way.fits_opening v.direction v.system v.opening)
    pub lock : LockInvariant (operations v.system.semiring) (value_of (operations v.system.semiring) v.system) (way.runs v.direction v.system v.opening)
        (way.tables v.direction v.system) (start_of operations way v.direction v.system v.opening).transitions v.state
    pub within : IsWithin (way.places v.direction v.system v.opening) v.opening.edges v.state
    pub free : v.state.hands ≡ replicate most_seats None
    -- the first node, which edges have, has the empty run alone
    pub start : (0 < length v.state.nodes) × (runs_of (way.tables v.direction v.system).side v.state.nodes 0 ≡ [] ∷ [])
