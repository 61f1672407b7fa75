use Rattle.std.proofs.Common.{◌≡◌, map, take}
use Rattle.document_systems.specs.CopyWeights.{change_of}
use Rattle.document_systems.proofs.constants.changes_from.Given as goal

abbrev pub invariant-loop-text : goal.invariant-loop-text
invariant-loop-text l = l.changes.items ≡ map change_of (take l.text-index l.texts)
