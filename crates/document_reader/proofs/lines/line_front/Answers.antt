use Rattle.std.proofs.Common.{◌∙◌, sym}
use Rattle.document_reader.proofs.LineFormLemmas.{front_of, text_of}
use Rattle.document_reader.proofs.lines.line_front.Goals as goal

pub returns-clause-form : goal.returns-clause-form
returns-clause-form c =
    front_of c.args.line.now c.in_ok-words.words c.split_first.result
    (sym c.of.ensures ∙ c.in_ok-words.was) c.split_first.ensures

pub returns-clause-text : goal.returns-clause-text
returns-clause-text c =
    text_of c.one_list_of_tokens.ensures c.args.line.now c.in_ok-words.words c.split_first.result
    (sym c.of.ensures ∙ c.in_ok-words.was)
