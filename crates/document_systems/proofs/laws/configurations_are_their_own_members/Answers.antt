use Rattle.document_systems.proofs.PatternLemmas.{one_member}
use Rattle.document_systems.proofs.laws.configurations_are_their_own_members.Goals as goal

pub returns : goal.returns
returns c = one_member
