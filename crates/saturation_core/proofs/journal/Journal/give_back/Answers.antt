use Rattle.std.proofs.Common.{[], ◌∷◌, ◌++◌, ap, ◌∙◌}
use Rattle.saturation_core.specs.JournalEvents as event
use Rattle.saturation_core.specs.private.Records.{events_of, taken}
use Rattle.saturation_core.proofs.RecordLemmas.{give_back_push, taken_give_back}
use Rattle.saturation_core.proofs.journal.Journal.give_back.Goals as goal

pub invariant_of-self : goal.invariant_of-self
invariant_of-self c = ap taken c.push_reserved.ensures.items ∙ taken_give_back c.self.inside.marks.items c.args.seat ∙ c.self.invariant

pub returns-clause-events : goal.returns-clause-events
returns-clause-events c =
    ap (λ ms. events_of ms c.self.inside.numbers.items) c.push_reserved.ensures.items
    ∙ give_back_push c.self.inside.marks.items c.self.inside.numbers.items c.self.invariant c.args.seat
    ∙ ap (λ j. j.events ++ event.GiveBack c.args.seat ∷ []) c.self.view_is
