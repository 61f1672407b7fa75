use Rattle.std.proofs.Common.{◌≡◌, ◌<◌, length, ap, ◌∙◌, refl, arith}
use Rattle.std.specs.Prelude.{Some}
use Rattle.weighted_automata.specs.Entries.{index_at, lowered}
use Rattle.saturation_laws.specs.Queues.{queued}
use Rattle.saturation_core.specs.private.Numbers.{enqueued}
use Rattle.saturation_core.proofs.QueuedLemmas.{long_there, lowered_there, number_is, number_there, queue_then, queued_then}
use Rattle.saturation_core.proofs.queued.QueuedTransitions.lower_at.Goals as goal

pub lower_at-requires : goal.lower_at-requires
lower_at-requires g c =
    let ts = c.self.inside.transitions.transitions in
    let at : index_at c.args.place ts ≡ Some c.args.k = ap (λ v. index_at c.args.place v.transitions) c.self.view_is ∙ c.requires in
    number_is ts c.self.inside.waiting.numbers c.self.inside.waiting.marks c.self.invariant c.args.place c.args.k at _ refl

pub enqueue-requires-clause-mark : goal.enqueue-requires-clause-mark
enqueue-requires-clause-mark g c =
    let ts = c.self.inside.transitions.transitions in
    let at : index_at c.args.place ts ≡ Some c.args.k = ap (λ v. index_at c.args.place v.transitions) c.self.view_is ∙ c.requires in
    let within : c.args.k < length ts = number_is ts c.self.inside.waiting.numbers c.self.inside.waiting.marks c.self.invariant c.args.place c.args.k at _ refl in
    omega (arith, within, c.self.invariant.marked, c.reserve.ensures.marks_kept)

pub invariant_of-self-2 : goal.invariant_of-self-2
invariant_of-self-2 g c =
    let ts = c.self.inside.transitions.transitions in
    let at : index_at c.args.place ts ≡ Some c.args.k = ap (λ v. index_at c.args.place v.transitions) c.self.view_is ∙ c.requires in
    let us = c.lower_at.new.self.transitions in
    let is : us ≡ lowered c.args.place c.args.weight c.args.node ts = lowered_there c.args.place c.args.weight c.args.node ts us c.args.k at c.lower_at.ensures.lowered in
    let number : index_at c.args.place us ≡ Some c.args.k = number_there c.args.place c.args.weight c.args.node ts us c.args.k at c.lower_at.ensures.lowered in
    let long : length us ≡ length ts = long_there c.args.place c.args.weight c.args.node ts us c.args.k at c.lower_at.ensures.lowered in
    queued_then ts c.self.inside.waiting.numbers c.self.inside.waiting.marks c.self.invariant c.args.place c.args.weight c.args.node us is c.args.k number
    c.enqueue.new.self.numbers (c.enqueue.ensures.numbers ∙ ap (enqueued c.args.k) c.reserve.ensures.numbers) c.enqueue.new.self.marks
    (omega (arith, long, c.self.invariant.marked, c.reserve.ensures.marks_kept, c.enqueue.ensures.marks))

pub returns-clause-transitions : goal.returns-clause-transitions
returns-clause-transitions g c =
    let ts = c.self.inside.transitions.transitions in
    let at : index_at c.args.place ts ≡ Some c.args.k = ap (λ v. index_at c.args.place v.transitions) c.self.view_is ∙ c.requires in
    lowered_there c.args.place c.args.weight c.args.node ts c.lower_at.new.self.transitions c.args.k at c.lower_at.ensures.lowered
    ∙ ap (λ v. lowered c.args.place c.args.weight c.args.node v.transitions) c.self.view_is

pub returns-clause-queue : goal.returns-clause-queue
returns-clause-queue g c =
    let ts = c.self.inside.transitions.transitions in
    let at : index_at c.args.place ts ≡ Some c.args.k = ap (λ v. index_at c.args.place v.transitions) c.self.view_is ∙ c.requires in
    let us = c.lower_at.new.self.transitions in
    let is : us ≡ lowered c.args.place c.args.weight c.args.node ts = lowered_there c.args.place c.args.weight c.args.node ts us c.args.k at c.lower_at.ensures.lowered in
    let number : index_at c.args.place us ≡ Some c.args.k = number_there c.args.place c.args.weight c.args.node ts us c.args.k at c.lower_at.ensures.lowered in
    queue_then ts c.self.inside.waiting.numbers c.self.inside.waiting.marks c.self.invariant c.args.place c.args.weight c.args.node us is c.args.k number
    c.enqueue.new.self.numbers (c.enqueue.ensures.numbers ∙ ap (enqueued c.args.k) c.reserve.ensures.numbers)
    ∙ ap (λ v. queued c.args.place v.queue) c.self.view_is
