use Rattle.std.proofs.Common.{sym, ◌∙◌, ap}
use Rattle.saturation_core.specs.private.Written.{takes_in_of}
use Rattle.saturation_core.specs.private.Records.{taken_by}
use Rattle.saturation_core.proofs.RecordLemmas.{takes_by}
use Rattle.saturation_core.proofs.journal.Journal.takes_of.Goals as goal

pub returns : goal.returns
returns c =
    c.count_takes_of.ensures ∙ ap (λ ms. taken_by c.args.seat ms) c.deref.ensures.value ∙ sym (takes_by c.args.seat c.self.inside.marks.items c.self.inside.numbers.items c.self.invariant)
    ∙ ap (λ j. takes_in_of c.args.seat j.events) c.self.view_is
