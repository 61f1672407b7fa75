use Rattle.std.proofs.Common.{sym}
use Rattle.rule_reader.proofs.CopyLemmas.{next_name}
use Rattle.rule_reader.proofs.names.NameTable.into_names.Goals as goal

pub loop-k-preserved : goal.loop-k-preserved
loop-k-preserved c =
    rw (c.in_ok-push.ensures.items, c.in_ok-of.ensures, c.loop-k.invariant)
    (sym (next_name c.self.inside.names.members c.get.result.now c.loop-k.k c.get.ensures))
