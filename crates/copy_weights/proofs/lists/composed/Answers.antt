use Rattle.std.proofs.Common.{length, sym, ◌∙◌}
use Rattle.copy_weights.specs.Forms.{put, form}
use Rattle.copy_weights.proofs.LoopLemmas.{tabulate_none, tabulate_pushed}
use Rattle.copy_weights.proofs.lists.composed.Goals as goal

pub loop-k-init : goal.loop-k-init
loop-k-init c = c.in_ok-list.ensures.items ∙ sym (tabulate_none (λ k. put (length c.args.a.now) (form c.args.a.now) (form c.args.b.now k)))

pub loop-k-preserved : goal.loop-k-preserved
unfolding form
loop-k-preserved c = tabulate_pushed c.loop-k.k (λ k. put (length c.args.a.now) (form c.args.a.now) (form c.args.b.now k)) c.loop-k.list.items c.push.new.self.items c.put.result c.loop-k.invariant c.put.ensures c.in_ok-push.ensures.items
