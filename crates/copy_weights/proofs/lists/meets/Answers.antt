use Rattle.std.proofs.Common.{sym, ◌∙◌}
use Rattle.copy_weights.specs.Forms.{meet, form}
use Rattle.copy_weights.proofs.LoopLemmas.{tabulate_none, tabulate_pushed}
use Rattle.copy_weights.proofs.lists.meets.Goals as goal

pub loop-k-init : goal.loop-k-init
loop-k-init c = c.in_ok-list.ensures.items ∙ sym (tabulate_none (λ k. meet (form c.args.a.now k) (form c.args.b.now k)))

pub loop-k-preserved : goal.loop-k-preserved
unfolding form
loop-k-preserved c = tabulate_pushed c.loop-k.k (λ k. meet (form c.args.a.now k) (form c.args.b.now k)) c.loop-k.list.items c.push.new.self.items c.meet.result c.loop-k.invariant c.meet.ensures c.in_ok-push.ensures.items
