use Rattle.std.proofs.Common.{◌≡◌, true, length, filter, sym, subst, ap, ◌∙◌, arith}
use Rattle.std.proofs.lemmas.List.{length-map}
use Rattle.boolean_programs.specs.Structure.{rises}
use Rattle.boolean_lowering.specs.private.Spots.{line_of, asserts_at}
use Rattle.boolean_lowering.proofs.PointLemmas.{rises_filtered}
use Rattle.boolean_lowering.proofs.points.PointTable.of.Goals as goal

pub invariant_of-result : goal.invariant_of-result
invariant_of-result c =
    let spots = c.args.spots.now in
    let many : length c.in_ok-lines.lines.items ≡ length spots = ap (λ ns. length ns) c.in_ok-lines.ensures ∙ length-map spots line_of in
    let fewer : length c.in_ok-asserts.asserts.items ≡ length (filter asserts_at spots) = ap (λ ns. length ns) c.in_ok-asserts.ensures ∙ length-map (filter asserts_at spots) line_of in
    let few = c.requires.few in (
      subst (λ ns. rises 0 ns ≡ true) (sym c.in_ok-lines.ensures) c.requires.rising,
      subst (λ ns. rises 0 ns ≡ true) (sym c.in_ok-asserts.ensures) (rises_filtered line_of asserts_at 0 spots c.requires.rising),
      omega arith,
    )
