use Rattle.std.proofs.Common.{sym, subst}
use Rattle.rule_reader.specs.private.Returns.{moved_in, AreMovesRead}
use Rattle.rule_reader.proofs.returns.read_moves.Goals as goal

pub returns-in-None-clause-read : goal.returns-in-None-clause-read
returns-in-None-clause-read c =
    subst (λ o. AreMovesRead c.args.items.now (moved_in o) c.new.result) (sym c.in-None.is) (c.new.ensures c.args.items.now)
