use Rattle.std.proofs.Common.{[], ◌∷◌, ◌++◌, ap, ◌∙◌}
use Rattle.saturation_core.specs.JournalEvents as event
use Rattle.saturation_core.specs.private.Records.{events_of, taken}
use Rattle.saturation_core.proofs.RecordLemmas.{settle_push, taken_settle}
use Rattle.saturation_core.proofs.journal.Journal.settle.Goals as goal

pub invariant_of-self : goal.invariant_of-self
invariant_of-self c = ap taken c.push_reserved.ensures.items ∙ taken_settle c.self.inside.marks.items c.args.seat ∙ c.self.invariant

pub returns-clause-events : goal.returns-clause-events
returns-clause-events c =
    ap (λ ms. events_of ms c.self.inside.numbers.items) c.push_reserved.ensures.items
    ∙ settle_push c.self.inside.marks.items c.self.inside.numbers.items c.self.invariant c.args.seat
    ∙ ap (λ j. j.events ++ event.Settle c.args.seat ∷ []) c.self.view_is
