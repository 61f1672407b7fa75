use Rattle.std.proofs.Common.{ap, sym, ◌∙◌}
use Rattle.std.specs.Prelude.{slice_get}
use Rattle.saturation_core.proofs.QueuedLemmas.{first_at, first_is, queued_rest, queued_same}
use Rattle.saturation_core.proofs.queued.QueuedTransitions.pop.Goals as goal

pub invariant_of-self : goal.invariant_of-self
invariant_of-self g c =
    queued_same c.self.inside.transitions.transitions c.self.inside.waiting.numbers c.self.inside.waiting.marks c.self.invariant c.pop.new.self.numbers c.in_err-number.ensures.number.1
    c.pop.new.self.marks c.pop.ensures.marks

pub invariant_of-self-2 : goal.invariant_of-self-2
invariant_of-self-2 g c =
    queued_rest c.self.inside.transitions.transitions c.self.inside.waiting.numbers c.pop.new.self.numbers c.self.inside.waiting.marks c.self.invariant c.in_ok-number.number c.in_ok-number.ensures.number
    c.pop.new.self.marks c.pop.ensures.marks

pub returns-clause-place : goal.returns-clause-place
returns-clause-place g c =
    ap (λ v. v.queue) (sym c.self.view_is)
    ∙ first_is c.self.inside.transitions.transitions c.self.inside.waiting.numbers c.pop.new.self.numbers c.self.inside.waiting.marks c.self.invariant c.in_ok-number.number c.in_ok-number.ensures.number
    c.entry.result.now (ap (slice_get c.self.inside.transitions.transitions) (sym c.from.ensures) ∙ c.entry.ensures.entry)

pub returns-clause-at : goal.returns-clause-at
returns-clause-at g c =
    first_at c.self.inside.transitions.transitions c.self.inside.waiting.numbers c.pop.new.self.numbers c.self.inside.waiting.marks c.self.invariant c.in_ok-number.number c.in_ok-number.ensures.number
    c.entry.result.now (ap (slice_get c.self.inside.transitions.transitions) (sym c.from.ensures) ∙ c.entry.ensures.entry)
