use Rattle.std.proofs.Common.{sym}
use Rattle.rule_reader.proofs.ReturnLemmas.{restored_form, are_pairs_if_said}
use Rattle.rule_reader.proofs.returns.restored.Goals as goal

pub returns-clause-form : goal.returns-clause-form
returns-clause-form c =
    restored_form c.args.words.now c.split_once-names.result.0 c.split_once-names.result.1
    c.split_once-names.ensures.before c.split_once-names.ensures.behind
    (sym c.if-not-are_names.ensures) (sym c.if-not-are_moves_if_said.ensures)

pub returns-clause-said : goal.returns-clause-said
returns-clause-said c =
    are_pairs_if_said c.split_once-names.result.1 (sym c.if-not-are_moves_if_said.ensures)
