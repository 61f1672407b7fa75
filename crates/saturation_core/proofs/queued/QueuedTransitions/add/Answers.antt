use Rattle.std.proofs.Common.{ap, ◌∙◌, arith}
use Rattle.saturation_laws.specs.Queues.{queued}
use Rattle.saturation_core.specs.private.Numbers.{enqueued}
use Rattle.saturation_core.proofs.QueuedLemmas.{long_then, number_then, queue_then, queued_then}
use Rattle.saturation_core.proofs.queued.QueuedTransitions.add.Goals as goal

pub enqueue-requires-clause-mark : goal.enqueue-requires-clause-mark
enqueue-requires-clause-mark g c =
    let long = long_then c.self.inside.transitions.transitions c.self.inside.waiting.numbers c.self.inside.waiting.marks c.self.invariant c.args.place c.args.weight c.args.node
    c.add.new.self.transitions c.in_ok-k.ensures.ok in
    let within = number_then c.self.inside.transitions.transitions c.self.inside.waiting.numbers c.self.inside.waiting.marks c.self.invariant c.args.place c.args.weight c.args.node
    c.add.new.self.transitions c.in_ok-k.ensures.ok c.in_ok-k.k c.in_ok-k.ensures.index in
    omega (arith, within, long.1, c.len-count.ensures.len, c.in_ok-reserve.ensures.marks)

pub invariant_of-self-2 : goal.invariant_of-self-2
invariant_of-self-2 g c =
    let long = long_then c.self.inside.transitions.transitions c.self.inside.waiting.numbers c.self.inside.waiting.marks c.self.invariant c.args.place c.args.weight c.args.node
    c.add.new.self.transitions c.in_ok-k.ensures.ok in
    queued_then c.self.inside.transitions.transitions c.self.inside.waiting.numbers c.self.inside.waiting.marks c.self.invariant c.args.place c.args.weight c.args.node
    c.add.new.self.transitions c.in_ok-k.ensures.ok c.in_ok-k.k c.in_ok-k.ensures.index
    c.enqueue.new.self.numbers (c.enqueue.ensures.numbers ∙ ap (enqueued c.in_ok-k.k) c.reserve.ensures.numbers) c.enqueue.new.self.marks
    (omega (arith, long.1, c.len-count.ensures.len, c.in_ok-reserve.ensures.marks, c.enqueue.ensures.marks))

pub returns-clause-queue : goal.returns-clause-queue
returns-clause-queue g c =
    queue_then c.self.inside.transitions.transitions c.self.inside.waiting.numbers c.self.inside.waiting.marks c.self.invariant c.args.place c.args.weight c.args.node
    c.add.new.self.transitions c.in_ok-k.ensures.ok c.in_ok-k.k c.in_ok-k.ensures.index
    c.enqueue.new.self.numbers (c.enqueue.ensures.numbers ∙ ap (enqueued c.in_ok-k.k) c.reserve.ensures.numbers)
    ∙ ap (λ v. queued c.args.place v.queue) c.self.view_is
