use Rattle.std.proofs.Common.{◌≡◌, map, take}
use Rattle.document_systems.specs.RelationWeights.{target_of}
use Rattle.document_systems.proofs.relations.targets_from.Given as goal

abbrev pub invariant-loop-text : goal.invariant-loop-text
invariant-loop-text l = l.targets.items ≡ map target_of (take l.text-index l.texts)
