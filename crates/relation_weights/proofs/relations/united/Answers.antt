use Rattle.std.proofs.Common.{◌*◌, ◌||◌, ap₂, ◌∙◌}
use Rattle.std.proofs.lemmas.Result.{IfOk-weaker}
use Rattle.diagram_ops.specs.Relations.{of_states, relates}
use Rattle.relation_laws.specs.Relations.{leads, union}
use Rattle.relation_weights.specs.RelationLaws.{fits_in}
use Rattle.relation_weights.proofs.DiagramLemmas.{either}
use Rattle.relation_weights.proofs.OperationLemmas.{same_leads, diagram_below}
use Rattle.relation_weights.proofs.relations.united.Goals as goal

pub returns : goal.returns
returns c =
    IfOk-weaker c.new.result _ _ (λ w h. h c.args.n (union (leads c.args.a.now) (leads c.args.b.now))
    (c.in_ok-made.ensures.variables (2 * c.args.n)
    (diagram_below c.args.n c.args.a.now (fits_in c.args.n c.args.a.now c.requires.left) c.diagram.result.now.nodes c.diagram.ensures.nodes)
    (diagram_below c.args.n c.args.b.now (fits_in c.args.n c.args.b.now c.requires.right) c.diagram-2.result.now.nodes c.diagram-2.ensures.nodes))
    (λ x y.
    c.in_ok-made.ensures.value (of_states x y)
    ∙ either (relates c.diagram.result.now x y) (relates c.diagram-2.result.now x y)
    ∙ ap₂ (λ s t. s || t)
    (same_leads c.args.a.now c.diagram.result.now.root c.diagram.result.now.nodes c.diagram.ensures.root c.diagram.ensures.nodes x y)
    (same_leads c.args.b.now c.diagram-2.result.now.root c.diagram-2.result.now.nodes c.diagram-2.ensures.root c.diagram-2.ensures.nodes x y))) c.new.ensures
