use Rattle.wpds_port.specs.Words.{word_of}
use Rattle.document_forms.specs.Forms.{form_behind}
use Rattle.document_reader.specs.private.Readings.{all_behind}
use Rattle.document_reader.proofs.BodyLineLemmas.{few_answered, kind_answered}
use Rattle.document_reader.proofs.body_lines.read_line.Goals as goal

pub returns-clause-few : goal.returns-clause-few
returns-clause-few c =
    let form = form_behind (word_of c.in-Some.first) c.in-Some.words in
    few_answered (all_behind c.args.reading.now.scope.symbols form c.args.left.now.lines) c.args.reading.now c.take_words.new.reading form
    c.take_words.result c.stands_once.ensures c.requires.few c.take_words.ensures.answered

pub returns-clause-kind : goal.returns-clause-kind
returns-clause-kind c =
    kind_answered c.args.line.now (form_behind (word_of c.in-Some.first) c.in-Some.words) c.args.reading.now.scope.symbols c.args.left.now.lines
    c.args.reading.now c.take_words.new.reading c.take_words.result c.in-Some.ensures.form c.in-Some.ensures.text c.take_words.ensures.answered
