-- The walk over pairs that gives an answer: a state of the pattern where runs begin, and a control or a state of the target.
use Rattle.std.specs.Prelude.{ℕ, IsTrue, List, []}
use Rattle.semiring_laws.specs.Semiring.{Operations, Below}
use Rattle.pushdown_rules.specs.Configuration.{at_stack}
use Rattle.pushdown_rules.specs.Pushdown.{Pushdown}
use Rattle.pushdown_rules.specs.Firing.{Run}
use Rattle.config_patterns.specs.declared.edge.Edge.{Edge}
use Rattle.config_patterns.specs.Edges.{edges_of, is_final_of}
use Rattle.config_patterns.specs.Membership.{PatternValue}
use Rattle.config_patterns.specs.Paths.{Reads}
use Rattle.wpds_base.specs.Lists.{IsIn}
use Rattle.value_laws.specs.Settled.{Table}

abbrev pub Pairs : Type 0 → Type 0
Pairs W = ℕ → ℕ → W

module _ {S W Map : Type 0} (p : Pushdown S W Map) where
  -- The run uses up a stack that the source's edges read to a state, and ends in a control.
  pub record Descends (start : ℕ) (source : List Edge) (state control : ℕ) (run : List ℕ) : Type 0 where
    pub word : List ℕ
    pub reads : Reads source 0 word state
    pub goes : Run p (at_stack start word) run (at_stack control [])

  -- The run leads from a stack that the source's edges read to a state, to one that the target's edges read to a state.
  pub record Crosses (start : ℕ) (source : List Edge) (control : ℕ) (target : List Edge) (state end : ℕ) (run : List ℕ) : Type 0 where
    pub word : List ℕ
    pub left : List ℕ
    pub reads : Reads source 0 word state
    pub goes : Run p (at_stack start word) run (at_stack control left)
    pub reads_left : Reads target 0 left end

-- What a walk asks for. `down` is the weight at a control, `across` that at a state of the target; the settled ones have the pairs that do not wait, and zero for the others.
pub record IsWalkSettled {W Map : Type 0} (s : Operations W Map) (from to : PatternValue) (pops enters : Table W) (down across settled_down settled_across : Pairs W) (answer : W) : Type 0 where
  pub begins : Below s (down 0 from.control) s.one
  pub falls : (i g j : ℕ) → IsIn (record { from = i; symbol = g; to = j }) (edges_of from.items) → (c q : ℕ)
      → Below s (down j q) (s.extend (settled_down i c) (pops c g q))
  pub goes_in : (i g j : ℕ) → IsIn (record { from = i; symbol = g; to = j }) (edges_of from.items) → (c a : ℕ)
      → Below s (across j a) (s.extend (settled_down i c) (enters c g a))
  pub reads : (i g j : ℕ) → IsIn (record { from = i; symbol = g; to = j }) (edges_of from.items)
      → (a b : ℕ) → IsIn (record { from = a; symbol = g; to = b }) (edges_of to.items) → Below s (across j b) (settled_across i a)
  pub meets : (i : ℕ) → Below s (across i 0) (settled_down i to.control)
  pub ends : (i a : ℕ) → IsTrue (is_final_of from.items i) → IsTrue (is_final_of to.items a) → Below s answer (settled_across i a)
