use Rattle.std.proofs.Common.{◌<◌, ◌≤◌, map, sym, subst, arith}
use Rattle.std.proofs.lemmas.List.Elements.{All-weaker}
use Rattle.wpds_base.specs.Limits.{most_related}
use Rattle.semiring_laws.specs.Semiring.{FitsMap}
use Rattle.relation_weights.specs.declared.rel_map.RelMap.TheVariants.{Slots}
use Rattle.relation_weights.specs.Relations.{relation_operations}
use Rattle.document_systems.specs.RelationLaws.{relation_maps_fit}
use Rattle.document_systems.proofs.relations.RelationsDocumentWeights.map_of.Goals as goal

pub slots_of-requires : goal.slots_of-requires
slots_of-requires c =
    let n = c.args.self.now in
    let few : n ≤ most_related = subst (λ k. k ≤ most_related) c.bits-bits.ensures.bits c.bits-bits.ensures.few in
    All-weaker (λ k. k < n) (λ k. k < most_related) (λ k low. omega (arith, low, few)) (map (λ m. m.from) c.args.text.now.moves) c.requires.1.from

pub returns-clause-fits : goal.returns-clause-fits
returns-clause-fits c =
    let n = c.args.self.now in
    subst (λ slots. FitsMap (relation_operations n) (Slots slots)) (sym c.slots_of.ensures) (relation_maps_fit n c.args.text.now c.requires)
