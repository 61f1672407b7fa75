use Rattle.report_laws.proofs.ReachabilityLemmas.{tells}
use Rattle.report_laws.proofs.documents.reports_tell_reachability.Goals as goal

pub returns : goal.returns
returns c = tells
