use Rattle.std.proofs.lemmas.Result.{IfOk-weaker}
use Rattle.diagram_ops.specs.Relations.{relates}
use Rattle.relation_laws.specs.Relations.{leads, composition}
use Rattle.relation_weights.specs.RelationLaws.{fits_in}
use Rattle.relation_weights.proofs.OperationLemmas.{composed, same_leads, diagram_below}
use Rattle.relation_weights.proofs.relations.composed.Goals as goal

pub compose_relations-requires-clause-first : goal.compose_relations-requires-clause-first
compose_relations-requires-clause-first c = diagram_below c.args.n c.args.a.now (fits_in c.args.n c.args.a.now c.requires.left) c.diagram.result.now.nodes c.diagram.ensures.nodes

pub compose_relations-requires-clause-second : goal.compose_relations-requires-clause-second
compose_relations-requires-clause-second c = diagram_below c.args.n c.args.b.now (fits_in c.args.n c.args.b.now c.requires.right) c.diagram-2.result.now.nodes c.diagram-2.ensures.nodes

pub returns : goal.returns
returns c =
    IfOk-weaker c.new.result _ _ (λ w h. h c.args.n (composition c.args.n (leads c.args.a.now) (leads c.args.b.now)) c.in_ok-made.ensures.variables (λ x z.
    composed c.args.n c.args.a.now c.args.b.now (fits_in c.args.n c.args.a.now c.requires.left) (fits_in c.args.n c.args.b.now c.requires.right)
    (relates c.diagram.result.now) (relates c.diagram-2.result.now)
    (same_leads c.args.a.now c.diagram.result.now.root c.diagram.result.now.nodes c.diagram.ensures.root c.diagram.ensures.nodes)
    (same_leads c.args.b.now c.diagram-2.result.now.root c.diagram-2.result.now.nodes c.diagram-2.ensures.root c.diagram-2.ensures.nodes)
    (relates c.in_ok-made.made x z) x z (c.in_ok-made.ensures.relates x z))) c.new.ensures
