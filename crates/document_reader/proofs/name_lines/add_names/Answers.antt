use Rattle.wpds_port.specs.Words.{word_of}
use Rattle.document_reader.proofs.NameLineLemmas.{still_adds, ends_added}
use Rattle.document_reader.proofs.name_lines.add_names.Goals as goal

pub loop-lexeme-preserved : goal.loop-lexeme-preserved
loop-lexeme-preserved c =
    still_adds c.args.table.now c.loop-lexeme.table c.add_word.new.table c.loop-lexeme.left c.in-Some.rest c.args.words.now
    (word_of c.in-Some.lexeme) c.loop-lexeme.twice c.in_ok-twice.field-0 c.loop-lexeme.invariant c.in-Some.ensures
    c.in_ok-twice.ensures

pub returns : goal.returns
returns c =
    ends_added c.args.table.now c.loop-lexeme.table c.loop-lexeme.left c.args.words.now c.loop-lexeme.twice
    c.loop-lexeme.invariant c.in_default.ensures
