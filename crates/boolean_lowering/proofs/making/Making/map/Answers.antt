use Rattle.std.proofs.Common.{◌∙◌, arith}
use Rattle.std.proofs.Math.ListN.{length-set}
use Rattle.lowering_laws.specs.Lowering.{map_slot}
use Rattle.boolean_lowering.specs.private.Made.{program_in}
use Rattle.boolean_lowering.proofs.MakingLemmas.{slots_more}
use Rattle.boolean_lowering.proofs.making.Making.map.Goals as goal

pub loop-variable-preserved : goal.loop-variable-preserved
loop-variable-preserved c =
    let at = c.loop-variable in
    let below = c.loop-variable-test.true in
    let few = c.variables-variable-end.ensures.few in
    let long = at.invariant.long in
    record {
      long = length-set at.slots at.variable c.slot.result ∙ long;
      before = slots_more at.slots at.variable c.slot.result (map_slot (program_in c.args.self.now) c.args.targets.now) (omega arith) c.slot.ensures at.invariant.before;
    }
