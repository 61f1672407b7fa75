use Rattle.std.proofs.Common.{sym, ap, ◌∙◌}
use Rattle.saturation_laws.specs.Bound.{takes_of}
use Rattle.saturation_core.proofs.JournalLemmas.{takes_with_of}
use Rattle.saturation_core.proofs.book.Book.takes_of.Goals as goal

pub returns : goal.returns
returns g c =
    c.takes_of.ensures ∙ sym (takes_with_of c.self.inside.found.value.transitions.transitions c.args.seat c.self.inside.journal.events c.self.invariant.3)
    ∙ ap (λ b. takes_of c.args.seat b.journal) c.self.view_is
