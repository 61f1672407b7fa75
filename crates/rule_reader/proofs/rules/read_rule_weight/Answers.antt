use Rattle.std.proofs.Common.{ap}
use Rattle.document_forms.specs.Weights.{OneForm}
use Rattle.document_forms.specs.Kinds.{rule_weight}
use Rattle.rule_reader.proofs.rules.read_rule_weight.Goals as goal

pub returns-in-None : goal.returns-in-None
returns-in-None c =
    (OneForm, ap (rule_weight c.args.weights) c.in-None.is, c.one.ensures c.args.items.now)
