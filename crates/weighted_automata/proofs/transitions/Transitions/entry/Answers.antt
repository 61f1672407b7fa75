use Rattle.std.proofs.Common.{sym, ap, ◌∙◌}
use Rattle.std.specs.Prelude.{slice_get}
use Rattle.weighted_automata.proofs.EntryLemmas.{present_there}
use Rattle.weighted_automata.proofs.transitions.Transitions.entry.Goals as goal

pub returns-clause-present : goal.returns-clause-present
returns-clause-present g c =
    let same = ap (λ v. v.transitions) c.self.view_is in
    present_there c.self.inside.entries.members c.args.self.now.transitions c.self.invariant.0 same c.args.k c.get.result.now
    (ap (λ us. slice_get us c.args.k) (sym same) ∙ c.get.ensures)
