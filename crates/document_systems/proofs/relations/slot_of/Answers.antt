use Rattle.std.proofs.Common.{◌≡◌, ◌<◌, List, map, ap, sym, ◌∙◌, subst, arith}
use Rattle.std.proofs.lemmas.List.Elements.{recursion_from_All}
use Rattle.wpds_base.specs.Limits.{most_related}
use Rattle.document_forms.specs.declared.document.Move.{Move}
use Rattle.document_systems.specs.RelationWeights.{moved_from}
use Rattle.document_systems.specs.RelationLaws.{moved_below}
use Rattle.document_systems.proofs.relations.slot_of.Goals as goal

pub overflow_cast-result : goal.overflow_cast-result
overflow_cast-result c =
    let moves = c.args.text.now.moves in
    let v = c.args.variable in
    let low = moved_below most_related moves (recursion_from_All (λ k. k < most_related) (map (λ m. m.from) moves) c.requires.moves) v c.requires.variable in
    let here = subst (λ ms. moved_from ms v < most_related) (sym c.as_slice-2.ensures) low in
    omega (arith, here, c.moved_from.ensures)
