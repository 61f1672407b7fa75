use Rattle.std.proofs.Common.{◌∙◌, sym, ap}
use Rattle.wpds_base.specs.Faults.{first_fault}
use Rattle.wpds_port.specs.Words.{word_of}
use Rattle.document_forms.specs.FirstRefusal.{by_form}
use Rattle.document_forms.specs.Kinds.{weights_conditions}
use Rattle.document_reader.proofs.LineFormLemmas.{other_refused}
use Rattle.document_reader.proofs.weights_lines.weights_line.Goals as goal

pub returns-then-not-is_name-clause-kind : goal.returns-then-not-is_name-clause-kind
returns-then-not-is_name-clause-kind c =
    sym (ap (λ f. first_fault (by_form weights_conditions f)) c.in-Some.ensures.form
    ∙ other_refused (word_of c.in-Some.first) c.in-Some.words (sym c.if-not-is_name.ensures))
