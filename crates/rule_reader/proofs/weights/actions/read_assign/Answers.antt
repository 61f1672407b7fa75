use Rattle.std.proofs.Common.{sym, ◌∙◌, subst}
use Rattle.std.specs.Prelude.{IfOk}
use Rattle.rule_reader.specs.private.ActionReads.{IsActionRead}
use Rattle.rule_reader.proofs.ActionLemmas.{both_sides}
use Rattle.rule_reader.proofs.weights.actions.read_assign.Goals as goal

pub returns-in-Some : goal.returns-in-Some
returns-in-Some c =
    let cut = c.split_once-front in
    subst (λ form. IfOk c.read_sides.result (IsActionRead c.args.items.now form))
    (sym (both_sides c.args.words.now cut.result.0 c.in-Some.back cut.ensures.before (sym c.in-Some.is ∙ cut.ensures.behind)))
    c.read_sides.ensures
