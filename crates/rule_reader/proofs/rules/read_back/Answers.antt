use Rattle.std.proofs.Common.{ap, None}
use Rattle.rule_reader.specs.private.Rules.{back_said}
use Rattle.rule_reader.proofs.rules.read_back.Goals as goal

pub returns-in-None : goal.returns-in-None
returns-in-None c =
    (None, ap back_said c.in-None.is, c.plain.ensures c.args.weights c.args.items.now)
