use Rattle.std.proofs.Common.{sym, ap, ◌∙◌}
use Rattle.saturation_laws.specs.Queues.{queued}
use Rattle.saturation_core.proofs.QueuedLemmas.{queue_with, queued_with}
use Rattle.saturation_core.proofs.queued.QueuedTransitions.enqueue.Goals as goal

pub invariant_of-self : goal.invariant_of-self
invariant_of-self g c =
    queued_with c.self.inside.transitions.transitions c.self.inside.waiting.numbers c.self.inside.waiting.marks c.self.invariant c.args.place c.in-Some.k
    (sym c.find.ensures.index ∙ c.in-Some.is) c.enqueue.new.self.numbers c.enqueue.ensures.numbers c.enqueue.new.self.marks c.enqueue.ensures.marks

pub returns-clause-queue : goal.returns-clause-queue
returns-clause-queue g c =
    queue_with c.self.inside.transitions.transitions c.self.inside.waiting.numbers c.self.inside.waiting.marks c.self.invariant c.args.place c.in-Some.k
    (sym c.find.ensures.index ∙ c.in-Some.is) c.enqueue.new.self.numbers c.enqueue.ensures.numbers
    ∙ ap (λ v. queued c.args.place v.queue) c.self.view_is
