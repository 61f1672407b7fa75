use Rattle.std.proofs.Common.{sym, ap, ◌∙◌}
use Rattle.saturation_laws.specs.Bound.{takes}
use Rattle.saturation_core.proofs.JournalLemmas.{takes_with}
use Rattle.saturation_core.proofs.book.Book.takes.Goals as goal

pub returns : goal.returns
returns g c =
    c.takes.ensures ∙ sym (takes_with c.self.inside.found.value.transitions.transitions c.self.inside.journal.events c.self.invariant.3)
    ∙ ap (λ b. takes b.journal) c.self.view_is
