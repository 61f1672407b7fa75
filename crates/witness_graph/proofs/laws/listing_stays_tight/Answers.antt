use Rattle.witness_graph.proofs.ListingLemmas.{listing_tight}
use Rattle.witness_graph.proofs.laws.listing_stays_tight.Goals as goal

pub returns : goal.returns
returns g c = λ semiring value side nodes root. listing_tight (g.S.Semiring.operations semiring) value side nodes root
