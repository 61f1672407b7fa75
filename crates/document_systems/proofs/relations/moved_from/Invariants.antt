use Rattle.std.proofs.Common.{◌≡◌, drop}
use Rattle.document_systems.specs.RelationWeights.{moved_from}
use Rattle.document_systems.proofs.relations.moved_from.Given as goal

abbrev pub invariant-loop-m : goal.invariant-loop-m
invariant-loop-m l = moved_from l.moves l.variable ≡ moved_from (drop l.m-index l.moves) l.variable
