-- What is known fits the semiring of relations.
use Rattle.std.specs.Prelude.{ℕ}
use Rattle.semiring_laws.specs.Semiring.{Fits}
use Rattle.diagram_ops.specs.NodeTables.{leads_at}
use Rattle.relation_laws.proofs.CallerLemmas.{relation_fits}
use Rattle.relation_weights.specs.Relations.{relation_operations}
use Rattle.relation_weights.specs.RelationLaws.{fits_by}
use Rattle.node_weigher.specs.NodeWeighers.{WeigherOf, Knows, worth}

pub fits_known : (m : WeigherOf) (r : ℕ) → Knows m r → Fits (relation_operations m.system.semiring) (worth m r)
fits_known m r known = fits_by m.system.semiring (worth m r) (relation_fits m.system.semiring (leads_at m.nodes r))
