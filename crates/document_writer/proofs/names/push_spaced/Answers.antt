use Rattle.std.proofs.Common.{map, nat_lt, codes, arith}
use Rattle.document_forms.specs.Names.{name}
use Rattle.document_writer.proofs.RowLemmas.{row_done, spaced_marked}
use Rattle.document_writer.proofs.names.push_spaced.Goals as goal

pub returns : goal.returns
returns c =
    let f = name c.args.names.now in
    let xs = c.args.numbers.now in
    row_done f (codes " ") (nat_lt 0 c.loop-place.place) xs c.loop-place.place c.args.out.now.items c.loop-place.out.items _ (omega arith) c.loop-place.invariant (spaced_marked (map f xs))
