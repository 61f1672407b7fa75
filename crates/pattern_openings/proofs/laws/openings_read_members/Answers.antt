use Rattle.pattern_openings.proofs.ReadLemmas.{opening_reads}
use Rattle.pattern_openings.proofs.laws.openings_read_members.Goals as goal

pub returns : goal.returns
returns c = opening_reads
