use Rattle.std.proofs.Common.{sym, subst}
use Rattle.rule_reader.specs.private.Returns.{return_form, IsReadReturn}
use Rattle.rule_reader.proofs.returns.read_said.Goals as goal

pub returns-in-Plain : goal.returns-in-Plain
returns-in-Plain c =
    subst (λ s. IsReadReturn c.args.weights c.args.items.now (return_form s) c.plain.result) (sym c.in-Plain.is)
    (c.plain.ensures c.args.weights c.args.items.now)
