use Rattle.std.proofs.Common.{bit_or, arith}
use Rattle.genkill_weights.specs.Masks.{word}
use Rattle.genkill_weights.specs.private.MaskLaws.{tabulate_is}
use Rattle.genkill_weights.proofs.masks.either.Goals as goal

pub returns : goal.returns
unfolding word
returns g c = tabulate_is g.row.N (λ i. bit_or (word c.args.a.now i) (word c.args.b.now i)) c.loop-i.made c.loop-i.invariant.count (λ i b. c.loop-i.invariant.each i (omega arith))
