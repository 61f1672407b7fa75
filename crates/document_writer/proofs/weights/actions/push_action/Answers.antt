use Rattle.std.proofs.Common.{◌++◌, map, codes, List, ap, sym, ◌∙◌, arith}
use Rattle.std.proofs.lemmas.Grind.{common_steps}
use Rattle.std.proofs.lemmas.Result.{on_ok_weaker}
use Rattle.document_forms.specs.declared.weight.Assignment.{Assignment}
use Rattle.document_forms.specs.Writing.{listed, value_text, action_text}
use Rattle.document_writer.proofs.DocumentLemmas.{choose_written, assign_written}
use Rattle.document_writer.proofs.weights.actions.push_action.Goals as goal

pub returns-in_ok-push-in-Choose : goal.returns-in_ok-push-in-Choose
returns-in_ok-push-in-Choose c = grind (arith, common_steps, choose_written c.args.names.now c.in-Choose.variables)

pub returns-in_ok-push-in-Assign : goal.returns-in_ok-push-in-Assign
returns-in_ok-push-in-Assign c =
    let names = c.args.names.now in
    let before = c.args.out.now.items in
    let values = λ (ps : List Assignment). listed (map (λ p. value_text names p.value) ps) in
    on_ok_weaker c.push_values.result (λ e.
    assign_written names c.in-Assign.assignments c.as_slice-in-Assign.result.now c.as_slice-in-Assign-2.result.now before _
    c.as_slice-in-Assign.ensures c.as_slice-in-Assign-2.ensures
    (e ∙ ap (λ o. o ++ values c.as_slice-in-Assign-2.result.now) (c.in_ok-push-in-Assign.ensures ∙ ap (λ o. o ++ codes " := ") c.in_ok-push_targets-in-Assign.ensures))
    ∙ ap (λ a. before ++ action_text names a) (sym c.in-Assign.is)
    ) c.push_values.ensures
