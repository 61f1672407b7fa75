use Rattle.std.proofs.Common.{sym, subst}
use Rattle.rule_reader.specs.NameReads.{AreNumbersRead}
use Rattle.rule_reader.specs.private.Returns.{restored_in}
use Rattle.rule_reader.proofs.returns.read_restore.Goals as goal

pub returns-in-None-clause-read : goal.returns-in-None-clause-read
returns-in-None-clause-read c =
    subst (λ o. AreNumbersRead c.args.items.now (restored_in o) c.new.result) (sym c.in-None.is) (c.new.ensures c.args.items.now)
