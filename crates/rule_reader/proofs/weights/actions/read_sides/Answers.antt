use Rattle.std.proofs.Common.{subst}
use Rattle.document_forms.specs.Weights.{AssignForm}
use Rattle.rule_reader.specs.private.ActionReads.{HasValues}
use Rattle.rule_reader.proofs.ActionLemmas.{sides_read}
use Rattle.rule_reader.proofs.weights.actions.read_sides.Goals as goal

pub returns : goal.returns
returns c =
    let items = c.args.items.now in
    let t = rw c.in-Some.is at c.in_ok-targets.ensures in
    let v = rw c.in-Some-2.is at c.in_ok-values.ensures in (
      AssignForm t.0 v.0,
      sides_read c.args.front.now c.args.back.now t.0 v.0 t.1 v.1,
      c.assignment.ensures items t.0 v.0 t.2 (subst (λ ts. HasValues items ts v.0 c.in-Some-2.values) c.deref.ensures.value v.2),
    )
