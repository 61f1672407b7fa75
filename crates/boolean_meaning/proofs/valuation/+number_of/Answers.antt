use Rattle.std.proofs.Common.{◌≤◌, Bool, true, false, arith, lit≤}
use mir.Val.{bool_byte}
use Rattle.boolean_meaning.proofs.NumberLemmas.{number_fits}
use Rattle.boolean_meaning.proofs.valuation.+number_of.Goals as goal

pub overflow_mul-result : goal.overflow_mul-result
overflow_mul-result t c =
    let more = c.in-Some.ensures.cases.1 in
    let small = number_fits c.in-Some.others.now (omega arith) in
    let same = c.number_of.ensures in
    omega arith

one_bit : (b : Bool) → bool_byte b ≤ 1
one_bit true = lit≤ tt
one_bit false = lit≤ tt

pub overflow_add-result : goal.overflow_add-result
overflow_add-result t c =
    let more = c.in-Some.ensures.cases.1 in
    let small = number_fits c.in-Some.others.now (omega arith) in
    let same = c.number_of.ensures in
    let bit = c.from.ensures in
    let one = one_bit c.in-Some.bit.now in
    omega arith
