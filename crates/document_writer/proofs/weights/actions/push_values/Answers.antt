use Rattle.std.proofs.Common.{map, nat_lt, codes, arith}
use Rattle.document_forms.specs.declared.weight.Assignment.{Assignment}
use Rattle.document_forms.specs.Writing.{value_text}
use Rattle.document_writer.proofs.RowLemmas.{row_done, listed_marked}
use Rattle.document_writer.proofs.weights.actions.push_values.Goals as goal

pub returns : goal.returns
returns c =
    let f = λ (p : Assignment). value_text c.args.names.now p.value in
    let xs = c.args.assignments.now in
    row_done f (codes ", ") (nat_lt 0 c.loop-place.place) xs c.loop-place.place c.args.out.now.items c.loop-place.out.items _ (omega arith) c.loop-place.invariant (listed_marked (map f xs))
