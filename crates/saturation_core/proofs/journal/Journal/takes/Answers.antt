use Rattle.std.proofs.Common.{sym, ◌∙◌, ap}
use Rattle.saturation_core.specs.private.Written.{takes_in}
use Rattle.saturation_core.proofs.RecordLemmas.{takes_are}
use Rattle.saturation_core.proofs.journal.Journal.takes.Goals as goal

pub returns : goal.returns
returns c =
    c.len.ensures ∙ c.self.inside.numbers.ok.0 ∙ sym (takes_are c.self.inside.marks.items c.self.inside.numbers.items c.self.invariant)
    ∙ ap (λ j. takes_in j.events) c.self.view_is
