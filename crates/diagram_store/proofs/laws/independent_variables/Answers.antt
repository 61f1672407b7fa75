use Rattle.diagram_store.proofs.TurnLemmas.{reads_below}
use Rattle.diagram_store.proofs.WalkLemmas.{canonical_reads}
use Rattle.diagram_store.proofs.laws.independent_variables.Goals as goal

pub returns : goal.returns
returns c = λ d limit. (λ reads. canonical_reads limit d.nodes d.root d.is_canonical reads, λ below. reads_below limit d.nodes d.is_canonical.reduced d.root below)
