use Rattle.std.proofs.Common.{ap, ◌∙◌}
use Rattle.std.specs.Prelude.{Some, option_and_then, slice_get}
use Rattle.weighted_automata.specs.Entries.{index_at}
use Rattle.weighted_automata.proofs.EntryLemmas.{at_index_at}
use Rattle.weighted_automata.proofs.AskedLemmas.{found_by_place}
use Rattle.weighted_automata.proofs.transitions.Transitions.find.Goals as goal

pub returns-in-Some-clause-index : goal.returns-in-Some-clause-index
returns-in-Some-clause-index g c =
    ap Some c.from.ensures ∙ c.in-Some.ensures.number
    ∙ found_by_place c.args.place c.self.inside.entries.members c.self.invariant.0 ∙ ap (λ v. index_at c.args.place v.transitions) c.self.view_is

pub returns-in-Some-clause-entry : goal.returns-in-Some-clause-entry
returns-in-Some-clause-entry g c =
    ap (option_and_then (slice_get c.args.self.now.transitions)) (returns-in-Some-clause-index g c) ∙ at_index_at c.args.place c.args.self.now.transitions

pub returns-in-None-clause-index : goal.returns-in-None-clause-index
returns-in-None-clause-index g c =
    c.in-None.ensures.number
    ∙ found_by_place c.args.place c.self.inside.entries.members c.self.invariant.0 ∙ ap (λ v. index_at c.args.place v.transitions) c.self.view_is

pub returns-in-None-clause-entry : goal.returns-in-None-clause-entry
returns-in-None-clause-entry g c =
    ap (option_and_then (slice_get c.args.self.now.transitions)) (returns-in-None-clause-index g c) ∙ at_index_at c.args.place c.args.self.now.transitions
