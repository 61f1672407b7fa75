use Rattle.pattern_openings.proofs.JointLemmas.{later_reads}
use Rattle.pattern_openings.proofs.laws.later_openings_read_members.Goals as goal

pub returns : goal.returns
returns c = later_reads
