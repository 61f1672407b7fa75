use Rattle.std.proofs.Common.{◌≡◌, ◌++◌, map, take, drop}
use Rattle.std.specs.Prelude.{slice_index_or}
use Rattle.truth_tables.specs.Postfix.{part_renamed}
use Rattle.truth_tables.proofs.postfix.renumber_parts.Given as goal

abbrev pub invariant-loop-part : goal.invariant-loop-part
invariant-loop-part l =
    let r = part_renamed (λ k. slice_index_or l.numbers k 0) in
    l.parts ≡ map r (take l.part-index l.fn.parts) ++ drop l.part-index l.fn.parts
