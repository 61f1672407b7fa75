use Rattle.rule_reader.proofs.CopyLemmas.{copied}
use Rattle.rule_reader.proofs.names.NameTable.copy.Goals as goal

pub loop-k-preserved : goal.loop-k-preserved
loop-k-preserved c =
    copied c.self.inside.names.members c.get.result.now c.loop-k.k c.get.ensures c.loop-k.copy c.add.new.self c.in_ok-add.field-0
    c.self.invariant c.loop-k.invariant c.in_ok-add.ensures.added c.in_ok-add.ensures.names
