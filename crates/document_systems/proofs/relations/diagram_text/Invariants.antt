use Rattle.std.proofs.Common.{map, take}
use Rattle.document_systems.specs.RelationWeights.{node_text}
use Rattle.document_systems.specs.private.Rows.{IsRow}
use Rattle.document_systems.proofs.relations.diagram_text.Given as goal

abbrev pub invariant-loop-node : goal.invariant-loop-node
invariant-loop-node l = IsRow 59 (map (node_text l.items) (take l.node-index l.nodes)) l.row
