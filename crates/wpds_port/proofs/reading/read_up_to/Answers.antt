use Rattle.std.proofs.Common.{◌≤◌, ◌-◌, ◌++◌, take, length, arith}
use Rattle.std.proofs.lemmas.Grind.{common_steps}
use Rattle.wpds_port.proofs.Bytes.{consumes-twice, few-more, on_err_always}
use Rattle.wpds_port.proofs.reading.read_up_to.Goals as goal

pub returns-in_err-extend_from_slice-clause-err : goal.returns-in_err-extend_from_slice-clause-err
returns-in_err-extend_from_slice-clause-err g c =
    let so_far = c.pieces.invariant in
    let now = c.in_ok-count.ensures in
    let piece = take c.in_ok-count.count c.read.new.buf in
    let room : length c.read.new.buf ≤ c.args.limit - length c.pieces.bytes.items = grind (arith, common_steps, c.pieces.bytes.ok.0, c.read.auto.buf) in
    on_err_always c.from_residual-in_err-extend_from_slice.result (c.pieces.bytes.items ++ piece, few-more c.pieces.bytes.items c.read.new.buf _ _ now.bound.0 room so_far.few, consumes-twice _ _ _ c.pieces.bytes.items piece so_far.consumed now.bytes.0)
