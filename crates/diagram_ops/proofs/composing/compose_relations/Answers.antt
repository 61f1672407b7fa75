use Rattle.std.proofs.Common.{◌*◌}
use Rattle.diagram_ops.proofs.ImageLemmas.{root_within}
use Rattle.diagram_ops.proofs.VariableLemmas.{composed_below}
use Rattle.diagram_ops.proofs.RelationLemmas.{relates_composed}
use Rattle.diagram_ops.proofs.composing.compose_relations.Goals as goal

pub compose-requires-clause-x : goal.compose-requires-clause-x
compose-requires-clause-x c = root_within c.args.a.now.nodes c.args.a.now.root c.args.a.now.is_canonical

pub compose-requires-clause-y : goal.compose-requires-clause-y
compose-requires-clause-y c = root_within c.args.b.now.nodes c.args.b.now.root c.args.b.now.is_canonical

pub returns-clause-relates : goal.returns-clause-relates
returns-clause-relates c = relates_composed c.args.a.now c.args.b.now c.compose.new.scratch c.in_ok-root.root c.in_ok-root.ensures.composed.means c.in_ok-made.made c.in_ok-made.ensures

pub returns-clause-variables : goal.returns-clause-variables
returns-clause-variables c =
    composed_below c.independent_variables.ensures (2 * c.args.n) c.in_ok-made.made c.args.a.now c.args.b.now c.requires.first c.requires.second (returns-clause-relates c)
