use Rattle.std.proofs.Common.{◌∙◌, sym, ap, option_map, Some}
use Rattle.document_forms.specs.Returns.{only_moves}
use Rattle.rule_reader.specs.private.Returns.{moves_said, are_pairs}
use Rattle.rule_reader.proofs.ReturnLemmas.{moved_form, are_all_pairs}
use Rattle.rule_reader.proofs.returns.moved.Goals as goal

pub returns-clause-form : goal.returns-clause-form
returns-clause-form c =
    ap (λ ws. Some (only_moves (moves_said ws))) c.reborrow.ensures.same
    ∙ ap (option_map only_moves) (sym (moved_form c.args.words.now (sym c.if-not-are_moves.ensures)))

pub returns-clause-said : goal.returns-clause-said
returns-clause-said c =
    ap are_pairs c.reborrow.ensures.same ∙ are_all_pairs c.args.words.now (sym c.if-not-are_moves.ensures)
