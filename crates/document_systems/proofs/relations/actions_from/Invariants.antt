use Rattle.std.proofs.Common.{◌≡◌, fold, take}
use Rattle.relation_weights.specs.Relations.{relation_operations}
use Rattle.document_systems.specs.RelationWeights.{and_then}
use Rattle.document_systems.proofs.relations.actions_from.Given as goal

abbrev pub invariant-loop-action : goal.invariant-loop-action
invariant-loop-action l =
    let n = l.relations in
    l.done ≡ fold (and_then n) (relation_operations n).one (take l.action-index l.actions)
