-- The laws of a direction.
use Rattle.std.specs.Prelude.{◌≡◌, ◌⊎◌, ℕ, List, [], ◌∷◌, map, Option, None, Some, IfSome, IsTrue, slice_get, is_some, ◌||◌}
use Rattle.std.specs.List.{AllByRecursion}
use Rattle.semiring_laws.specs.Semiring.{Operations}
use Rattle.semiring_laws.specs.Combination.{combination}
use Rattle.weighted_automata.specs.declared.place.Place.{Place}
use Rattle.weighted_automata.specs.declared.transitions.Entry.{Entry}
use Rattle.weighted_automata.specs.Entries.{Present, HasDistinctPlaces}
use Rattle.witness_graph.specs.Runs.{parts_runs, rule_runs}
use Rattle.pushdown_rules.specs.Pushdown.{Pushdown}
use Rattle.pushdown_rules.specs.Values.{value_of}
use Rattle.saturation_laws.specs.declared.job.Job.{Job}
use Rattle.saturation_laws.specs.declared.opening.Opening.{Opening}
use Rattle.saturation_laws.specs.Jobs.{Tables, row_of, HasInput, named_rule, named_first}
use Rattle.wpds_base.specs.Lists.{IsIn}
use Rattle.saturation_laws.specs.Openings.{head_place}
use Rattle.pushdown_rules.specs.declared.rule.Rule.{Rule}
use Rattle.witness_graph.specs.declared.node.Side.TheVariants.{Pre}

-- These are runs of a place, and their values combine to a weight.
pub record AreRuns {W Map : Type 0} (s : Operations W Map) (value : List ℕ → W) (runs : Place → List ℕ → Type 0) (x : Place) (w : W) (rs : List (List ℕ)) : Type 0 where
  pub each : AllByRecursion (runs x) rs
  pub weight : w ≡ combination s (map value rs)

module _ {S W Map : Type 0} (s : Operations W Map) (value : List ℕ → W) (runs : Place → List ℕ → Type 0) where
  -- the same of an input. One that is missing stands for the empty run.
  abbrev pub AreInputRuns : Option (Entry S W Map) → List (List ℕ) → Type 0
  AreInputRuns None rs = rs ≡ [] ∷ []
  AreInputRuns (Some t) rs = AreRuns s value runs t.place t.weight rs

module _ {S W Map : Type 0} where
  -- A job whose inputs are there.
  pub record IsConsequence (d : Tables S W Map) (ts : List (Entry S W Map)) (j : Job S W Map) : Type 0 where
    pub row : IsTrue (d.rows (row_of j))
    pub inputs : (t : Entry S W Map) → HasInput j t → Present ts t

  -- The laws of a direction over a system and an opening that it fits.
  pub record IsDirection (s : Operations W Map) (p : Pushdown S W Map) (o : Opening) (d : Tables S W Map)
      (places : List Place) (runs : Place → List ℕ → Type 0) : Type 0 where
    -- the runs that a row makes of runs of its inputs are runs of its goal, and combine to its candidate
    pub sound : (j : Job S W Map) (xs ys : List (List ℕ)) → IsTrue (d.rows (row_of j))
        → AreInputRuns s (value_of s p) runs (named_first j) xs → AreInputRuns s (value_of s p) runs j.second ys
        → AreRuns s (value_of s p) runs j.goal (d.candidate j) (parts_runs d.side (rule_runs (named_rule j)) xs ys)
    -- the empty run is a run of each opening edge
    pub opens : (x : Place) → IsIn x o.edges → runs x []
    -- backwards, a pop rule alone is a run of the place that it opens, which is one of the direction's
    pub pops : d.side ≡ Pre → (k : ℕ) (r : Rule S W Map) → slice_get p.rules k ≡ Some r → r.right ≡ []
        → AreRuns s (value_of s p) runs (head_place r) r.weight ((k ∷ []) ∷ []) × IsIn (head_place r) places
    -- a row has an input
    pub asks : (j : Job S W Map) → IsTrue (d.rows (row_of j)) → (t : Entry S W Map) × HasInput j t
    -- its node names a rule or an input
    pub names : (j : Job S W Map) → IsTrue (d.rows (row_of j)) → IsTrue (is_some (named_rule j) || (is_some (named_first j) || is_some j.second))
    -- a row leads from places of the direction and opening edges to a place of the direction
    pub reaches : (j : Job S W Map) → IsTrue (d.rows (row_of j))
        → ((t : Entry S W Map) → HasInput j t → IsIn t.place places ⊎ IsIn t.place o.edges) → IsIn j.goal places
    -- the jobs of a transition are the consequences that it is an input of
    pub jobs_are : (ts : List (Entry S W Map)) (t : Entry S W Map) (j : Job S W Map) → HasDistinctPlaces ts → Present ts t → IsIn j (d.jobs ts t)
        → IsConsequence d ts j × HasInput j t
    pub jobs_all : (ts : List (Entry S W Map)) (t : Entry S W Map) (j : Job S W Map) → HasDistinctPlaces ts → Present ts t → IsConsequence d ts j → HasInput j t
        → IsIn j (d.jobs ts t)

  -- The systems have one semiring, and the same rules where the job names one.
  pub record AgreeOn (p q : Pushdown S W Map) (j : Job S W Map) : Type 0 where
    pub semiring : p.semiring ≡ q.semiring
    pub rule : IfSome j.rule (λ k. slice_get p.rules k ≡ slice_get q.rules k)
    pub frame : IfSome j.frame (λ k. slice_get p.rules k ≡ slice_get q.rules k)

  -- Tables of one side over systems that agree on a job have one candidate for it.
  abbrev pub HaveSameCandidates : Tables S W Map → Tables S W Map → Pushdown S W Map → Pushdown S W Map → Type 0
  HaveSameCandidates d e p q = (j : Job S W Map) → d.side ≡ e.side → AgreeOn p q j → d.candidate j ≡ e.candidate j
