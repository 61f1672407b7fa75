use Rattle.std.proofs.Common.{sym, ◌∙◌}
use Rattle.wpds_port.specs.Words.{word_of}
use Rattle.document_reader.proofs.LineFormLemmas.{declares_other, formless_declares}
use Rattle.document_reader.proofs.symbols.is_of_symbols.Goals as goal

pub returns-in-Some : goal.returns-in-Some
returns-in-Some c = λ other.
    declares_other c.args.line.now (word_of c.in-Some.first) c.in-Some.field-0-1 c.in-Some.ensures.form
    (sym c.is_name.ensures ∙ other)

pub returns-in-None : goal.returns-in-None
returns-in-None c = λ _. formless_declares c.args.line.now c.in-None.ensures.form
