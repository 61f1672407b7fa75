use Rattle.ladder.proofs.RuleLemmas.{is_document}
use Rattle.ladder.proofs.LengthLemmas.{is_short}
use Rattle.ladder.specs.Ladders.{ladder_document}
use Rattle.ladder.proofs.laws.ladders_are_documents.Goals as goal

pub returns-clause-lawful : goal.returns-clause-lawful
returns-clause-lawful c n few = is_document n few

pub returns-clause-read : goal.returns-clause-read
returns-clause-read c n few = c.written_documents_read_back.ensures.lawful (ladder_document n) (is_document n few) (is_short n few)
