use Rattle.std.proofs.Common.{ap, sym, ◌∙◌}
use Rattle.std.specs.Prelude.{slice_get}
use Rattle.weighted_automata.specs.Entries.{index_at}
use Rattle.saturation_core.proofs.QueuedLemmas.{first_at}
use Rattle.saturation_core.proofs.queued.QueuedTransitions.front.Goals as goal

pub returns-clause-at : goal.returns-clause-at
returns-clause-at g c =
    ap (λ v. index_at c.entry.result.now.place v.transitions) (sym c.self.view_is)
    ∙ first_at c.self.inside.transitions.transitions c.self.inside.waiting.numbers _ c.self.inside.waiting.marks c.self.invariant c.in_ok-number.number c.in_ok-number.ensures
    c.entry.result.now (ap (slice_get c.self.inside.transitions.transitions) (sym c.from.ensures) ∙ c.entry.ensures.entry)
