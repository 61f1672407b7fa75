use Rattle.std.proofs.Common.{arith, refl, bit_or, get_or}
use Rattle.genkill_weights.specs.Masks.{word}
use Rattle.genkill_weights.proofs.FoldLemmas.{none_apart, none_apart_more, told_by_words}
use Rattle.genkill_weights.proofs.masks.has_all.Goals as goal

pub loop-i-init : goal.loop-i-init
loop-i-init g c = none_apart 0 (λ k. bit_or (get_or c.args.a.now k 0) (get_or c.args.b.now k 0)) (λ k. get_or c.args.a.now k 0) refl

pub loop-i-preserved : goal.loop-i-preserved
loop-i-preserved g c =
    none_apart_more c.loop-i.i c.loop-i.missing (λ k. bit_or (get_or c.args.a.now k 0) (get_or c.args.b.now k 0)) (λ k. get_or c.args.a.now k 0) c.loop-i.invariant

pub returns : goal.returns
unfolding word
returns g c = told_by_words g.row.N c.loop-i.i c.loop-i.missing (λ k. bit_or (word c.args.a.now k) (word c.args.b.now k)) c.args.a.now c.told-a (omega arith) c.loop-i.invariant
