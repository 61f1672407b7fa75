use Rattle.std.proofs.Common.{arith}
use Rattle.genkill_weights.specs.Masks.{word}
use Rattle.genkill_weights.specs.GenKill.{keep_word}
use Rattle.genkill_weights.specs.private.MaskLaws.{tabulate_is}
use Rattle.genkill_weights.proofs.masks.kept.Goals as goal

pub returns : goal.returns
unfolding word
returns g c = tabulate_is g.row.N (λ i. keep_word (word c.args.keep.now i) (word c.args.gens.now i) (word c.args.next_keep.now i) (word c.args.next_gens.now i)) c.loop-i.made c.loop-i.invariant.count (λ i b. c.loop-i.invariant.each i (omega arith))
