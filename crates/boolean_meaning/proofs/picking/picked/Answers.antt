use Rattle.std.proofs.Common.{◌<◌, length, ◌∙◌, arith}
use Rattle.boolean_meaning.specs.private.GivenValues.{values_of}
use Rattle.boolean_meaning.specs.private.Outcomes.{bit_in}
use Rattle.boolean_meaning.proofs.ValueLemmas.{picked_next, left_next}
use Rattle.boolean_meaning.proofs.picking.picked.Goals as goal

pub loop-place-preserved : goal.loop-place-preserved
loop-place-preserved c =
    let at = c.loop-place in
    let long = c.len.ensures in
    let small : at.place < length (values_of c.args.values) = omega arith in
    let old = bit_in c.args.old.now in
    record {
      new = at.invariant.new ∙ picked_next old (values_of c.args.values) at.place at.bits c.picked_bit.new.bits c.picked_bit.result small c.picked_bit.ensures at.new.items c.push.new.self.items c.in_ok-push.ensures.items;
      left = λ j. left_next old (values_of c.args.values) at.place at.bits c.picked_bit.new.bits c.picked_bit.result small c.picked_bit.ensures j ∙ at.invariant.left j;
    }
