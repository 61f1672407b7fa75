use Rattle.std.proofs.Common.{◌≡◌, ap, ◌∙◌, subst, arith}
use Rattle.std.specs.Prelude.{Some, IfOk, OnOk}
use Rattle.weighted_automata.specs.Entries.{index_at, lowered}
use Rattle.saturation_laws.specs.Queues.{queued}
use Rattle.saturation_core.proofs.QueuedLemmas.{long_then, number_then, queue_then, queued_then}
use Rattle.saturation_core.proofs.queued.QueuedTransitions.lower_reserved.Goals as goal

pub enqueue-requires-clause-mark : goal.enqueue-requires-clause-mark
enqueue-requires-clause-mark g c =
    let ts = c.self.inside.transitions.transitions in
    let us = c.lower.new.self.transitions in
    let is : us ≡ lowered c.args.place c.args.weight c.args.node ts =
    subst (λ r. OnOk r (us ≡ lowered c.args.place c.args.weight c.args.node ts)) c.unwrap-k.ensures c.lower.ensures.ok in
    let number : index_at c.args.place us ≡ Some c.unwrap-k.result = subst (λ r. IfOk r (λ k. index_at c.args.place us ≡ Some k)) c.unwrap-k.ensures c.lower.ensures.index in
    let long = long_then ts c.self.inside.waiting.numbers c.self.inside.waiting.marks c.self.invariant c.args.place c.args.weight c.args.node us is in
    let fresh = ap (λ v. v.marks) c.self.view_is in
    let within = number_then ts c.self.inside.waiting.numbers c.self.inside.waiting.marks c.self.invariant c.args.place c.args.weight c.args.node us is c.unwrap-k.result number in
    omega (arith, within, long.1, fresh, c.requires.marks)

pub invariant_of-self : goal.invariant_of-self
invariant_of-self g c =
    let ts = c.self.inside.transitions.transitions in
    let us = c.lower.new.self.transitions in
    let is : us ≡ lowered c.args.place c.args.weight c.args.node ts =
    subst (λ r. OnOk r (us ≡ lowered c.args.place c.args.weight c.args.node ts)) c.unwrap-k.ensures c.lower.ensures.ok in
    let number : index_at c.args.place us ≡ Some c.unwrap-k.result = subst (λ r. IfOk r (λ k. index_at c.args.place us ≡ Some k)) c.unwrap-k.ensures c.lower.ensures.index in
    let long = long_then ts c.self.inside.waiting.numbers c.self.inside.waiting.marks c.self.invariant c.args.place c.args.weight c.args.node us is in
    let fresh = ap (λ v. v.marks) c.self.view_is in
    queued_then ts c.self.inside.waiting.numbers c.self.inside.waiting.marks c.self.invariant c.args.place c.args.weight c.args.node us is c.unwrap-k.result number
    c.enqueue.new.self.numbers c.enqueue.ensures.numbers c.enqueue.new.self.marks
    (omega (arith, long.1, fresh, c.requires.marks, c.enqueue.ensures.marks))

pub returns-clause-queue : goal.returns-clause-queue
returns-clause-queue g c =
    let ts = c.self.inside.transitions.transitions in
    let us = c.lower.new.self.transitions in
    let is : us ≡ lowered c.args.place c.args.weight c.args.node ts =
    subst (λ r. OnOk r (us ≡ lowered c.args.place c.args.weight c.args.node ts)) c.unwrap-k.ensures c.lower.ensures.ok in
    let number : index_at c.args.place us ≡ Some c.unwrap-k.result = subst (λ r. IfOk r (λ k. index_at c.args.place us ≡ Some k)) c.unwrap-k.ensures c.lower.ensures.index in
    queue_then ts c.self.inside.waiting.numbers c.self.inside.waiting.marks c.self.invariant c.args.place c.args.weight c.args.node us is c.unwrap-k.result number
    c.enqueue.new.self.numbers c.enqueue.ensures.numbers
    ∙ ap (λ v. queued c.args.place v.queue) c.self.view_is

pub returns-clause-marks : goal.returns-clause-marks
returns-clause-marks g c =
    let ts = c.self.inside.transitions.transitions in
    let us = c.lower.new.self.transitions in
    let is : us ≡ lowered c.args.place c.args.weight c.args.node ts =
    subst (λ r. OnOk r (us ≡ lowered c.args.place c.args.weight c.args.node ts)) c.unwrap-k.ensures c.lower.ensures.ok in
    let long = long_then ts c.self.inside.waiting.numbers c.self.inside.waiting.marks c.self.invariant c.args.place c.args.weight c.args.node us is in
    let fresh = ap (λ v. v.marks) c.self.view_is in
    omega (arith, long.1, fresh, c.enqueue.ensures.marks)
