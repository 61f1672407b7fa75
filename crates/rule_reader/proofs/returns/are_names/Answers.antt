use Rattle.std.proofs.Common.{◌∙◌}
use Rattle.wpds_port.specs.Words.{word_of}
use Rattle.rule_reader.proofs.ReturnLemmas.{stops_at_no_name, ends_with_names}
use Rattle.rule_reader.proofs.returns.are_names.Goals as goal

pub returns-then-not-is_any_name : goal.returns-then-not-is_any_name
returns-then-not-is_any_name c =
    stops_at_no_name c.loop-lexeme.left c.in-Some.rest c.args.words.now (word_of c.in-Some.lexeme) c.in-Some.ensures
    c.loop-lexeme.invariant c.if-not-is_any_name.ensures

pub returns : goal.returns
returns c =
    c.is_some.ensures
    ∙ ends_with_names c.loop-lexeme.left c.args.words.now c.split_first-2.result c.in_default.ensures
    c.loop-lexeme.invariant c.split_first-2.ensures
