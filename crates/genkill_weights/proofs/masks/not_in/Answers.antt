use Rattle.std.proofs.Common.{◌-◌, ◌^◌, bit_and, arith}
use Rattle.genkill_weights.specs.Masks.{word}
use Rattle.genkill_weights.specs.private.MaskLaws.{tabulate_is}
use Rattle.genkill_weights.proofs.masks.not_in.Goals as goal

pub returns : goal.returns
unfolding word
returns g c = tabulate_is g.row.N (λ i. bit_and (word c.args.a.now i) (2 ^ 64 - 1 - word c.args.b.now i)) c.loop-i.made c.loop-i.invariant.count (λ i b. c.loop-i.invariant.each i (omega arith))
