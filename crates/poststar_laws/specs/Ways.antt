-- What the forward direction means.
use Rattle.std.specs.Prelude.{ℕ}
use Rattle.semiring_laws.specs.Semiring.{Operations}
use Rattle.witness_graph.specs.declared.node.Side.TheVariants.{Post}
use Rattle.pushdown_rules.specs.Pushdown.{Pushdown}
use Rattle.pushdown_rules.specs.Values.{value_of}
use Rattle.saturation_laws.specs.declared.opening.Opening.{Opening}
use Rattle.saturation_laws.specs.Openings.{opening_state}
use Rattle.saturation_laws.specs.Paths.{HasSums}
use Rattle.saturation_laws.specs.Ways.{Way}
use Rattle.poststar_laws.specs.Middles.{base_of}
use Rattle.poststar_laws.specs.Jobs.{post_tables}
use Rattle.poststar_laws.specs.Fitting.{fits_post, post_places}
use Rattle.poststar_laws.specs.Reading.{PostRun}

-- by how many items the opening pattern has
abbrev pub post_way : {S W Map D : Type 0} → (D → ℕ) → (S → Operations W Map) → Way S W Map D
post_way items operations = record {
  tables = λ d p. post_tables (base_of (items d) p) p (operations p.semiring);
  fits_opening = λ d p o. fits_post (items d) p o;
  places = λ d p o. post_places (items d) p;
  runs = λ d p o. PostRun p o.edges (base_of (items d) p);
}

-- the two laws on sums, over a system and an opening: a run is met by a path, and a path gives a run
abbrev pub HasForwardSums : {S W Map : Type 0} → (S → Operations W Map) → ℕ → Pushdown S W Map → Opening → Type 0
HasForwardSums operations items p o =
    let s = operations p.semiring in
    let base = base_of items p in
    HasSums s (value_of s p) p o Post (post_tables base p s) (opening_state s Post p o.edges).transitions (PostRun p o.edges base)
