use Rattle.std.proofs.Common.{◌≡◌, suc, ◌+◌, ◌-◌, ◌<◌, ◌++◌, replicate, ap, arith}
use Rattle.std.specs.List.{range_with_len}
use Rattle.boolean_programs.specs.declared.statement.Choice.TheVariants.{Star}
use Rattle.lowering_laws.specs.Weights.{choice_of, targets_of, values_of}
use Rattle.boolean_lowering.proofs.NameLemmas.{target_more, value_more, range_more, copies_more}
use Rattle.boolean_lowering.proofs.names.push_free.Goals as goal

pub loop-place-preserved : goal.loop-place-preserved
loop-place-preserved c =
    let at = c.loop-place in
    let first = c.args.first in
    let count = c.args.count in
    let below : at.place < count = c.loop-place-test.true in
    let long : count - at.place ≡ suc (count - (at.place + 1)) = omega arith in
    let next : first + (at.place + 1) ≡ first + at.place + 1 = omega arith in
    let new = c.push.new.self.items in
    record {
      targets = range_more (first + at.place) (count - at.place) (first + (at.place + 1)) (count - (at.place + 1)) (targets_of c.args.pairs.now.items ++ range_with_len first count) (targets_of at.pairs.items) (targets_of new) long next at.invariant.targets
          (target_more at.pairs.items (first + at.place) c.free.result new c.in_ok-push.ensures.items);
      values = copies_more Star (count - at.place) (count - (at.place + 1)) (values_of c.args.pairs.now.items ++ replicate count Star) (values_of at.pairs.items) (values_of new) long at.invariant.values
          (value_more at.pairs.items (first + at.place) c.free.result Star new c.in_ok-push.ensures.items (ap choice_of c.free.ensures));
    }
