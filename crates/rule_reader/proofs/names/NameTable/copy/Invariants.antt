use Rattle.std.proofs.Common.{◌≡◌, take}
use Rattle.rule_reader.specs.private.NameTables.{bytes_of}
use Rattle.rule_reader.proofs.names.NameTable.copy.Given as goal

abbrev pub invariant-loop-k : goal.invariant-loop-k
invariant-loop-k l = l.copy ≡ take l.k (bytes_of l.self-inside.names.members)
