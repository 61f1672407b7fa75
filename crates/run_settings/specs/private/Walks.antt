-- The machine of a run at each moment, and what is kept of it.
use Rattle.std.specs.Prelude.{◌≡◌, ℕ, List, [], ◌∷◌, length, take, slice_get, Option, None, Some}
use Rattle.pushdown_rules.specs.Pushdown.{Pushdown}
use Rattle.semiring_laws.specs.Semiring.{Operations}
use Rattle.pushdown_rules.specs.RunValue.{Frame, Machine, starting, run_machine, product}
use Rattle.pushdown_rules.specs.Values.{rules_of}
use Rattle.relation_laws.specs.Building.{Parts}
use Rattle.relation_weights.specs.declared.rel_map.RelMap.{RelMap}
use Rattle.relation_weights.specs.Relations.{relation_operations}
use Rattle.run_settings.specs.declared.machine.Past.{Past}

-- the machine after the first k rules of a run
abbrev pub machine_at : Pushdown ℕ Parts RelMap → List ℕ → ℕ → Machine Parts RelMap
machine_at p run k =
    run_machine (relation_operations p.semiring) (starting (relation_operations p.semiring)) (rules_of (relation_operations p.semiring) p (take k run))

abbrev pub newest_call : List (Frame Parts RelMap) → Option (Frame Parts RelMap)
newest_call fs = elim fs [ [] ↦ None | f ∷ rest ↦ Some f ]

-- the accumulator and the newest open call
pub record IsPast (m : Machine Parts RelMap) (past : Past) : Type 0 where
  pub accumulator : past.accumulator ≡ m.accumulator
  pub newest : past.newest ≡ newest_call m.frames

-- those of the first k moments of a run
pub record ArePast (p : Pushdown ℕ Parts RelMap) (run : List ℕ) (k : ℕ) (past : List Past) : Type 0 where
  pub count : length past ≡ k
  pub each : (j : ℕ) (x : Past) → slice_get past j ≡ Some x → IsPast (machine_at p run j) x

-- products of an accumulator with saved values, the newest first, each with one more
pub record ArePartial {W Map : Type 0} (s : Operations W Map) (calls : List (Frame W Map)) (accumulator : W) (k : ℕ) (values : List W) : Type 0 where
  pub count : length values ≡ k
  pub each : (j : ℕ) (w : W) → slice_get values j ≡ Some w → w ≡ product s (take j calls) accumulator
