use Rattle.std.proofs.Common.{ap}
use Rattle.document_forms.specs.Above.{has_class}
use Rattle.document_forms.specs.Forms.{Facts}
use Rattle.document_reader.proofs.BodyLineLemmas.{names_answered}
use Rattle.document_reader.proofs.body_lines.declare_facts.Goals as goal

pub returns-in-GenKill : goal.returns-in-GenKill
returns-in-GenKill c =
    names_answered Facts c.args.reading.now c.declare.new.table c.args.words.now c.declare.result
    (ap (λ u. has_class u Facts) c.in-GenKill.is) c.declare.ensures.kind c.declare.ensures.declares
