use Rattle.std.proofs.Common.{◌∙◌}
use Rattle.wpds_port.specs.Words.{word_of}
use Rattle.document_reader.proofs.NameLineLemmas.{stops_names, ends_names}
use Rattle.document_reader.proofs.name_lines.are_names.Goals as goal

pub returns-then-not-is_free : goal.returns-then-not-is_free
returns-then-not-is_free c =
    stops_names c.loop-lexeme.left c.in-Some.rest c.args.words.now (word_of c.in-Some.lexeme) c.in-Some.ensures
    c.loop-lexeme.invariant c.if-not-is_free.ensures

pub returns : goal.returns
returns c =
    c.is_some.ensures
    ∙ ends_names c.loop-lexeme.left c.args.words.now c.split_first-2.result c.in_default.ensures
    c.loop-lexeme.invariant c.split_first-2.ensures
