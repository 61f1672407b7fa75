-- A search: what its tables say, and what holds of them between turns.
use Rattle.std.specs.Prelude.{◌≡◌, ◌⊎◌, ℕ, ◌≤◌, List, [], ◌∷◌, length, Some, slice_get}
use Rattle.semiring_laws.specs.Semiring.{Operations, Fits, Below}
use Rattle.weighted_automata.specs.declared.place.Label.TheVariants.{Symbol, Empty}
use Rattle.weighted_automata.specs.declared.place.Place.{Place}
use Rattle.pushdown_rules.specs.declared.rule.Rule.{Rule}
use Rattle.pushdown_rules.specs.Configuration.{Configuration}
use Rattle.pushdown_rules.specs.Pushdown.{Pushdown}
use Rattle.config_patterns.specs.Edges.{edges_of}
use Rattle.config_patterns.specs.Membership.{PatternValue}
use Rattle.weight_tables.specs.Entries.{TableEntry, IsTable, weight_in, settled_in}
use Rattle.weight_tables.specs.Tables.{TablesValue}
use Rattle.weight_tables.specs.Turns.{turns_left}
use Rattle.forward_value_laws.specs.Model.{Source, callee, IsClosed, IsSound}
use Rattle.forward_value_laws.specs.Settling.{call_weight}
use Rattle.forward_value_search.specs.Places.{arrow, number_of, row_weights}
use Rattle.forward_value_search.specs.Settled.{head_at, SumsAt, GivesRule, IsSettled, Gives, IsFurther}

-- an entry of the number stands at the place
abbrev pub StandsAt : {W : Type 0} → ℕ → Place → List (TableEntry W) → Type 0
StandsAt {W = W} t x es = (e : TableEntry W) × (slice_get es t ≡ Some e) × (e.place ≡ x)

-- entries keep their numbers
abbrev pub KeepsNumbers : {W : Type 0} → List (TableEntry W) → List (TableEntry W) → Type 0
KeepsNumbers old new = (t : ℕ) (x : Place) → StandsAt t x old → StandsAt t x new

module _ {S W Map : Type 0} (operations : S → Operations W Map) (p : Pushdown S W Map) (first : PatternValue) where
  -- the weight is a sum of the runs of each row and source at the place
  abbrev pub HasSums : Place → W → Type 0
  HasSums x w = SumsAt (operations p.semiring) p (length first.items) first.control (edges_of first.items) x w

  abbrev pub weights : TablesValue S W Map → Place → W
  weights v = weight_in (operations p.semiring) v.base

  abbrev pub settled : TablesValue S W Map → Place → W
  settled v = settled_in (operations p.semiring) v.base

  -- the weights as the laws speak of them
  abbrev pub found : TablesValue S W Map → Configuration → Source → W
  found v = row_weights (operations p.semiring).zero (length first.items) p (weights v)

  -- Tables of the system, whose base has sums of runs.
  pub record IsReady (v : TablesValue S W Map) : Type 0 where
    pub system : v.system ≡ p
    pub hand : Fits (operations p.semiring) v.hand
    pub table : IsTable (operations p.semiring) v.base
    pub sums : (x : Place) → HasSums x (weights v x)

  -- The base went on: weights only fell, entries keep their numbers, and not more turns are left.
  pub record IsOnward (old new : TablesValue S W Map) : Type 0 where
    pub ready : IsReady new
    pub further : IsFurther (operations p.semiring) (weights old) (settled old) (weights new) (settled new)
    pub numbers : KeepsNumbers old.base new.base
    pub fewer : turns_left (operations p.semiring) new.base ≤ turns_left (operations p.semiring) old.base
    pub target : new.target ≡ old.target
    pub walk : new.walk ≡ old.walk

  -- what a rule gives from the source of a number is there
  abbrev pub HasGiven : TablesValue S W Map → Rule S W Map → ℕ → Type 0
  HasGiven v r n = GivesRule (operations p.semiring) p (length first.items) first.control (edges_of first.items) (weights v) (settled v) r n

  -- all that one place gives is there
  abbrev pub HasGivenAll : TablesValue S W Map → Place → Type 0
  HasGivenAll v x = Gives (operations p.semiring) p (length first.items) first.control (edges_of first.items) (weights v) (settled v) x

  -- A push rule fires on the row of a place: it leaves one symbol below, and the callee that it enters has a number.
  pub record IsCall (k below number : ℕ) (x : Place) : Type 0 where
    pub rule : Rule S W Map
    pub there : slice_get p.rules k ≡ Some rule
    pub top : ℕ
    pub right : rule.right ≡ top ∷ below ∷ []
    pub entered : number_of (length first.items) p (callee rule.to top) ≡ Some number
    pub head : x ≡ head_at rule x.to

  -- the call from the first place goes on where its callee has ended, at the second
  abbrev pub HasMet : TablesValue S W Map → ℕ → ℕ → Place → Place → Type 0
  HasMet v k below x y = (r : Rule S W Map) → slice_get p.rules k ≡ Some r
      → Below (operations p.semiring) (weights v (arrow y.from (Symbol below) x.to)) ((operations p.semiring).extend (settled v x) (call_weight (operations p.semiring) r (settled v y)))

  -- A push rule leaves one symbol below a callee, of which the place is an end.
  pub record IsReturn (k below : ℕ) (x : Place) : Type 0 where
    pub rule : Rule S W Map
    pub there : slice_get p.rules k ≡ Some rule
    pub top : ℕ
    pub right : rule.right ≡ top ∷ below ∷ []
    pub entered : number_of (length first.items) p (callee rule.to top) ≡ Some x.to
    pub empty : x.label ≡ Empty

  -- The hand has what a rule makes of an end of its callee, as it was or as it counts.
  pub record HoldsReturn (v : TablesValue S W Map) (k : ℕ) (x : Place) : Type 0 where
    pub worth : W
    pub fits : Fits (operations p.semiring) worth
    pub sums : HasSums x worth
    pub counts : (settled v x ≡ worth) ⊎ (settled v x ≡ (operations p.semiring).zero)
    pub held : (r : Rule S W Map) → slice_get p.rules k ≡ Some r → v.hand ≡ call_weight (operations p.semiring) r worth

  -- all calls by the rule go on where their callee has ended, if it is a push rule
  abbrev pub HasReturned : TablesValue S W Map → ℕ → Place → Type 0
  HasReturned v k x = (r : Rule S W Map) → slice_get p.rules k ≡ Some r → (a b : ℕ) → r.right ≡ a ∷ b ∷ [] → (n : ℕ) → HasMet v k b (head_at r n) x

  -- the callees that the rule enters, if it is a push rule, are those of the number
  abbrev pub Enters : ℕ → ℕ → Type 0
  Enters k number = (r : Rule S W Map) → slice_get p.rules k ≡ Some r → (a b : ℕ) → r.right ≡ a ∷ b ∷ [] → number_of (length first.items) p (callee r.to a) ≡ Some number

  -- the edges from the item of one number that read a symbol and lead to the item of another were followed
  abbrev pub HasRead : TablesValue S W Map → Place → ℕ → ℕ → W → Type 0
  HasRead v x g to w = Below (operations p.semiring) (weights v (arrow x.from (Symbol g) to)) w

  -- A search from the first pattern: its weights are sums of runs, and nothing is left to do but for the places that wait.
  pub record IsSearch (v : TablesValue S W Map) : Type 0 where
    pub ready : IsReady v
    pub settles : IsSettled (operations p.semiring) p (length first.items) first.control (edges_of first.items) (weights v) (settled v)

  -- A search that is done: its weights are sums of runs, and closed.
  pub record IsFinished (v : TablesValue S W Map) : Type 0 where
    pub sound : IsSound (operations p.semiring) p first.control (edges_of first.items) (found v)
    pub closed : IsClosed (operations p.semiring) p first.control (edges_of first.items) (found v)
