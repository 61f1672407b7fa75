use Rattle.std.proofs.Common.{sym, ap, arith}
use Rattle.std.proofs.Math.Seq.{drop-length}
use Rattle.saturation_core.specs.Seats.{seat_bits}
use Rattle.saturation_core.proofs.HandLemmas.{bits_below, bits_step, bit_small}
use Rattle.saturation_core.proofs.hands.seats_out.Goals as goal

pub loop-left-init : goal.loop-left-init
loop-left-init g c = (omega arith, sym (ap seat_bits (drop-length c.args.out.now)))

pub overflow_mul-bits : goal.overflow_mul-bits
overflow_mul-bits g c = let few = bits_below c.args.out.now c.loop-left.left c.loop-left.bits c.requires c.loop-left-test.true c.loop-left.invariant.1 in omega (arith, few)

pub overflow_add-bits : goal.overflow_add-bits
overflow_add-bits g c =
    let few = bits_below c.args.out.now c.loop-left.left c.loop-left.bits c.requires c.loop-left-test.true c.loop-left.invariant.1 in
    omega (arith, few, bit_small c.index-out-left.result c.seat_bit.result c.seat_bit.ensures)

pub loop-left-preserved : goal.loop-left-preserved
loop-left-preserved g c = (
  omega (arith, c.loop-left.invariant.0),
  bits_step c.args.out.now c.loop-left.left c.loop-left.bits c.seat_bit.result c.index-out-left.result
      c.loop-left-test.true c.loop-left.invariant.0 c.loop-left.invariant.1 c.index-out-left.is c.seat_bit.ensures,
)
