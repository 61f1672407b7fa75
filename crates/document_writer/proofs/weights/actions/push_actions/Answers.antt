use Rattle.std.proofs.Common.{map, nat_lt, codes, arith}
use Rattle.document_forms.specs.Writing.{action_text}
use Rattle.document_writer.proofs.RowLemmas.{row_done, in_turn_marked}
use Rattle.document_writer.proofs.weights.actions.push_actions.Goals as goal

pub returns : goal.returns
returns c =
    let f = action_text c.args.names.now in
    let xs = c.args.actions.now in
    row_done f (codes " ; ") (nat_lt 0 c.loop-place.place) xs c.loop-place.place c.args.out.now.items c.loop-place.out.items _ (omega arith) c.loop-place.invariant (in_turn_marked (map f xs))
