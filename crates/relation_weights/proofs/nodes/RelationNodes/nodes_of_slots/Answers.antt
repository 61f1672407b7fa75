use Rattle.std.proofs.Common.{◌≡◌, ◌*◌, ℕ, length, sym, ap, ◌∙◌, subst}
use Rattle.std.specs.Prelude.{IsTrue}
use Rattle.std.proofs.lemmas.Bool.{eqb-true}
use Rattle.diagram_store.specs.Diagrams.{IsOver}
use Rattle.relation_weights.specs.Moves.{moved, kept}
use Rattle.relation_weights.specs.Relations.{after_of, relation_fits, source_of}
use Rattle.relation_weights.specs.RelationLaws.{fits_in, source_reads}
use Rattle.relation_weights.specs.declared.rel_map.RelMap.TheVariants.{Slots}
use Rattle.relation_weights.specs.private.Moves.{is_own, ListsOthers}
use Rattle.relation_weights.proofs.NodeLemmas.{return_parts}
use Rattle.relation_weights.proofs.ReturnLemmas.{unchanged}
use Rattle.relation_weights.proofs.nodes.RelationNodes.nodes_of_slots.Goals as goal

pub returns-then-is_empty-clause-by : goal.returns-then-is_empty-clause-by
returns-then-is_empty-clause-by c = λ w fit.
    let n = c.args.self.now.bits in
    let freed = c.in_ok-freed.freed in
    let none = sym freed.ok.0 ∙ eqb-true _ 0 (sym c.is_empty.ensures ∙ c.if-is_empty.true) in
    let listed = subst (λ k. ListsOthers is_own k c.args.slots.now freed.items) c.bits-n.ensures.bits c.in_ok-freed.ensures in
    sym (unchanged n c.args.slots.now (source_reads n c.args.slots.now c.requires) freed.items listed none w (fits_in n w fit))

pub returns-clause-by : goal.returns-clause-by
returns-clause-by c =
    let v = c.args.self.now in
    return_parts v c.load.new.self c.load-2.new.self c.in_ok-moves-2.ensures.more c.in_ok-stays-2.ensures.more c.args.slots.now c.requires
    c.in_ok-moves-2.moves c.in_ok-stays-2.stays c.in_ok-moves-2.ensures.within c.in_ok-stays-2.ensures.within
    (λ x y. c.in_ok-moves-2.ensures.leads x y ∙ c.in_ok-moves.ensures.pairs x y ∙ ap (λ n. moved n c.args.slots.now x y) c.bits-n.ensures.bits)
    (λ x y. c.in_ok-stays-2.ensures.leads x y ∙ c.in_ok-stays.ensures.pairs x y ∙ ap (λ n. kept n c.args.slots.now x y) c.bits-n.ensures.bits)
