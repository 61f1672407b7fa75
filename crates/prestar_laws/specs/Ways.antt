-- What the backward direction means.
use Rattle.semiring_laws.specs.Semiring.{Operations}
use Rattle.witness_graph.specs.declared.node.Side.TheVariants.{Pre}
use Rattle.pushdown_rules.specs.Pushdown.{Pushdown}
use Rattle.pushdown_rules.specs.Values.{value_of}
use Rattle.saturation_laws.specs.declared.opening.Opening.{Opening}
use Rattle.saturation_laws.specs.Openings.{opening_state}
use Rattle.saturation_laws.specs.Paths.{HasSums}
use Rattle.saturation_laws.specs.Ways.{Way}
use Rattle.prestar_laws.specs.Jobs.{pre_tables}
use Rattle.prestar_laws.specs.Fitting.{fits_pre, pre_places}
use Rattle.prestar_laws.specs.Reading.{PreRun}

abbrev pub pre_way : {S W Map D : Type 0} → (S → Operations W Map) → Way S W Map D
pre_way operations = record {
  tables = λ d p. pre_tables (operations p.semiring) p;
  fits_opening = λ d p o. fits_pre p o;
  places = λ d p o. pre_places p o;
  runs = λ d p o. PreRun p o.edges;
}

-- the two laws on sums, over a system and an opening: a run is met by a path, and a path gives a run
abbrev pub HasBackwardSums : {S W Map : Type 0} → (S → Operations W Map) → Pushdown S W Map → Opening → Type 0
HasBackwardSums operations p o =
    let s = operations p.semiring in
    HasSums s (value_of s p) p o Pre (pre_tables s p) (opening_state s Pre p o.edges).transitions (PreRun p o.edges)
