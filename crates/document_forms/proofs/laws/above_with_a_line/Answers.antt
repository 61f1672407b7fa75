use Rattle.document_forms.proofs.AboveLemmas.{line_more}
use Rattle.document_forms.proofs.laws.above_with_a_line.Goals as goal

pub returns : goal.returns
returns c = line_more
