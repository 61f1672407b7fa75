-- The values of sums that go over one walk, to several sets of final states.
use Rattle.std.specs.Prelude.{ℕ, List, [], ◌∷◌}
use Rattle.config_patterns.specs.Membership.{PatternValue, has_member}
use Rattle.saturation_laws.specs.declared.opening.Opening.{Opening}
use Rattle.pushdown_rules.specs.Pushdown.{Pushdown}
use Rattle.saturation_laws.specs.Ways.{Way}
use Rattle.semiring_laws.specs.Semiring.{Operations}
use Rattle.weighted_automata.specs.declared.transitions.Entry.{Entry}
use Rattle.witness_graph.specs.declared.node.Node.{Node}
use Rattle.path_sum.specs.Answers.{AnswersOpening}
use Rattle.path_sum.specs.Saturated.{IsSaturatedAutomaton}

-- an opening's edges, with these final states
abbrev pub with_finals : Opening → List ℕ → Opening
with_finals o finals = record { edges = o.edges; finals = finals }

module _ {S W Map D : Type 0} (operations : S → Operations W Map) (way : Way S W Map D) (p : Pushdown S W Map) (d : D) (o : Opening) where
  -- with these final states too, the transitions and nodes are a finished saturation
  abbrev pub IsSaturatedTo : List (Entry S W Map) → List Node → List ℕ → Type 0
  IsSaturatedTo ts nodes finals = IsSaturatedAutomaton operations way p d (with_finals o finals) ts nodes

  -- the weight answers between the pattern and what the opening's edges read to these final states
  abbrev pub IsValueTo : PatternValue → List ℕ → W → Type 0
  IsValueTo pattern finals v = (runs : List (List ℕ))
      × AnswersOpening (operations p.semiring) (way.tables d p).side p (with_finals o finals) (has_member pattern) v runs

  -- one such weight for each set of final states, in order
  abbrev pub AreValuesTo : PatternValue → List (List ℕ) → List W → Type 0
  AreValuesTo pattern [] [] = Unit {0}
  AreValuesTo pattern (finals ∷ rest) (v ∷ vs) = IsValueTo pattern finals v × AreValuesTo pattern rest vs
  AreValuesTo pattern _ _ = ⊥
