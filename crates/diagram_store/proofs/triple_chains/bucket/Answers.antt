use Rattle.std.proofs.Common.{refl}
use Rattle.diagram_store.specs.private.TripleChains.{bucket}
use Rattle.diagram_store.proofs.triple_chains.bucket.Goals as goal

pub returns-clause-bucket : goal.returns-clause-bucket
unfolding bucket
returns-clause-bucket c = refl
