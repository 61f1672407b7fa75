use Rattle.std.proofs.Common.{arith, ap, ◌∙◌, false, get_or}
use Rattle.std.specs.Prelude.{slice_index_or, slice_set}
use Rattle.std.proofs.lemmas.List.{get_or_default}
use Rattle.std.proofs.lemmas.List.Edits.{map_over_more}
use Rattle.truth_tables.specs.Postfix.{part_renamed}
use Rattle.truth_tables.specs.declared.part.Part.TheVariants.{Const}
use Rattle.truth_tables.proofs.postfix.renumber_parts.Goals as goal

pub loop-part-preserved : goal.loop-part-preserved
loop-part-preserved c =
    let parts = c.loop-part.parts in
    let place = c.loop-part.part-index in
    let old = get_or parts place (Const false) in
    ap (slice_set parts place) c.renumbered.ensures
    ∙ map_over_more (part_renamed (λ k. slice_index_or c.args.numbers.now k 0)) c.args.parts.now parts place old (omega arith) c.loop-part.invariant
    (get_or_default parts place (Const false) old (omega arith))
