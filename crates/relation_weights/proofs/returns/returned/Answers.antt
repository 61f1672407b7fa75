use Rattle.std.proofs.Common.{◌*◌, sym, ◌∙◌}
use Rattle.std.proofs.lemmas.Bool.{eqb-true}
use Rattle.std.proofs.lemmas.Result.{IfOk-weaker}
use Rattle.diagram_ops.specs.Relations.{of_states, relates}
use Rattle.relation_laws.specs.Relations.{leads, returned}
use Rattle.relation_weights.specs.Relations.{source_of}
use Rattle.relation_weights.specs.RelationLaws.{fits_in, source_reads}
use Rattle.relation_weights.proofs.DiagramLemmas.{both}
use Rattle.relation_weights.proofs.OperationLemmas.{same_leads, diagram_below}
use Rattle.relation_weights.proofs.ReturnLemmas.{returned_is, unchanged}
use Rattle.relation_weights.proofs.returns.returned.Goals as goal

pub compose_relations-requires-clause-first : goal.compose_relations-requires-clause-first
compose_relations-requires-clause-first c = diagram_below c.args.n c.args.w.now (fits_in c.args.n c.args.w.now c.requires.weight) c.diagram.result.now.nodes c.diagram.ensures.nodes

pub returns-then-is_empty : goal.returns-then-is_empty
returns-then-is_empty c =
    let n = c.args.n in
    let freed = c.in_ok-freed.freed in
    let none = sym freed.ok.0 ∙ eqb-true _ 0 (sym c.is_empty.ensures ∙ c.if-is_empty.true) in
    let reads = source_reads n c.args.slots.now c.requires.slots in
    let fit = fits_in n c.args.w.now c.requires.weight in
    IfOk-weaker c.share.result _ _ (λ v h. h ∙ unchanged n c.args.slots.now reads freed.items c.in_ok-freed.ensures none c.args.w.now fit) c.share.ensures

pub returns : goal.returns
returns c =
    IfOk-weaker c.new.result _ _ (λ w h. h c.args.n (returned c.args.n (source_of c.args.slots.now) (leads c.args.w.now))
    (c.in_ok-made.ensures.variables (2 * c.args.n) c.in_ok-led.ensures.variables c.in_ok-stays.ensures.variables)
    (λ x y.
    c.in_ok-made.ensures.value (of_states x y)
    ∙ both (relates c.in_ok-led.led x y) (relates c.in_ok-stays.stays x y)
    ∙ returned_is c.args.n c.args.slots.now (source_reads c.args.n c.args.slots.now c.requires.slots) c.args.w.now (fits_in c.args.n c.args.w.now c.requires.weight)
    (relates c.diagram.result.now) (same_leads c.args.w.now c.diagram.result.now.root c.diagram.result.now.nodes c.diagram.ensures.root c.diagram.ensures.nodes)
    (relates c.in_ok-moves.moves) c.in_ok-moves.ensures.pairs
    (relates c.in_ok-led.led x y) (relates c.in_ok-stays.stays x y) x y
    (c.in_ok-led.ensures.relates x y) (c.in_ok-stays.ensures.pairs x y))) c.new.ensures
