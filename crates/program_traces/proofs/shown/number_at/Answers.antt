use Rattle.std.proofs.Common.{◌≤◌, Bool, true, false, arith, lit≤}
use mir.Val.{bool_byte}
use Rattle.diagram_store.specs.Meaning.{bits_of}
use Rattle.boolean_meaning.proofs.CallerLemmas.{number_fits}
use Rattle.program_traces.proofs.ShownLemmas.{highest, highest_length}
use Rattle.program_traces.proofs.shown.number_at.Goals as goal

one_bit : (b : Bool) → bool_byte b ≤ 1
one_bit true = lit≤ tt
one_bit false = lit≤ tt

pub overflow_mul-number : goal.overflow_mul-number
overflow_mul-number c =
    let bits = highest (bits_of c.args.setting.now) c.args.from c.args.count c.loop-done.done in
    let long = highest_length (bits_of c.args.setting.now) c.args.from c.args.count c.loop-done.done in
    let small = number_fits bits (omega arith) in
    let same = c.loop-done.invariant in
    omega arith

pub overflow_add-number : goal.overflow_add-number
overflow_add-number c =
    let bits = highest (bits_of c.args.setting.now) c.args.from c.args.count c.loop-done.done in
    let long = highest_length (bits_of c.args.setting.now) c.args.from c.args.count c.loop-done.done in
    let small = number_fits bits (omega arith) in
    let same = c.loop-done.invariant in
    let bit = c.from.ensures in
    let one = one_bit c.bit_at.result in
    omega arith
