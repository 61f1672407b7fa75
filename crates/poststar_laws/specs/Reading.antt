-- The runs of a place, forwards.
use Rattle.std.specs.Prelude.{◌≡◌, ◌⊎◌, ℕ, ◌<◌, ◌≤◌, List, [], ◌∷◌, Some, slice_get}
use Rattle.weighted_automata.specs.declared.place.Place.{Place}
use Rattle.weighted_automata.specs.declared.place.Label.TheVariants.{Symbol}
use Rattle.pushdown_rules.specs.declared.rule.Rule.{Rule}
use Rattle.pushdown_rules.specs.Configuration.{Configuration, at_stack}
use Rattle.pushdown_rules.specs.Pushdown.{Pushdown}
use Rattle.pushdown_rules.specs.Firing.{Run}
use Rattle.wpds_base.specs.Lists.{IsIn}
use Rattle.saturation_laws.specs.Paths.{Reads, symbols_of}
use Rattle.poststar_laws.specs.Middles.{middle_of}

module _ {S W Map : Type 0} (p : Pushdown S W Map) (base : ℕ) where
  -- The state is the middle of the push rule of number k, which leaves a callee's symbol above one that waits.
  pub record IsMiddle (q k : ℕ) : Type 0 where
    pub rule : Rule S W Map
    pub there : slice_get p.rules k ≡ Some rule
    pub callee : ℕ
    pub waits : ℕ
    pub right : rule.right ≡ callee ∷ waits ∷ []
    pub state : q ≡ middle_of base p.rules k

module _ {S W Map : Type 0} (p : Pushdown S W Map) (edges : List Place) (base : ℕ) where
  -- The run leads to a control over a word, from a configuration that the edges read to an item.
  pub record ComesByItem (control : ℕ) (word : List ℕ) (q : ℕ) (run : List ℕ) : Type 0 where
    pub item : p.controls ≤ q
    pub last : q < base
    pub from : Configuration
    pub low : from.control < p.controls
    pub reads : Reads edges from.control from.stack q
    pub goes : Run p from run (at_stack control word)

  -- The run begins with a push rule and leads on from the head that it makes.
  pub record ComesByCall (control : ℕ) (word : List ℕ) (q : ℕ) (run : List ℕ) : Type 0 where
    pub number : ℕ
    pub push : IsMiddle p base q number
    pub rest : List ℕ
    pub starts : run ≡ number ∷ rest
    pub goes : Run p (at_stack push.rule.to (push.callee ∷ [])) rest (at_stack control word)

  abbrev pub Comes : ℕ → List ℕ → ℕ → List ℕ → Type 0
  Comes control word q run = ComesByItem control word q run ⊎ ComesByCall control word q run

  -- From a middle state, runs to the head of its push rule.
  pub record Leaves (x : Place) (run : List ℕ) : Type 0 where
    pub number : ℕ
    pub push : IsMiddle p base x.from number
    pub label : x.label ≡ Symbol push.waits
    pub comes : Comes push.rule.control (push.rule.symbol ∷ []) x.to run

  -- From an item there is an opening edge, and the empty run alone.
  pub record IsEdge (x : Place) (run : List ℕ) : Type 0 where
    pub item : p.controls ≤ x.from
    pub last : x.from < base
    pub edge : IsIn x edges
    pub empty : run ≡ []

  -- The runs of a place.
  abbrev pub PostRun : Place → List ℕ → Type 0
  PostRun x run = ((x.from < p.controls) × Comes x.from (symbols_of x.label) x.to run) ⊎ (IsEdge x run ⊎ Leaves x run)
