use Rattle.std.proofs.Common.{◌+◌, ap, ◌∙◌, map}
use Rattle.std.specs.Prelude.{slice_get}
use Rattle.std.specs.Ordering.{eq_by_cmp, nat_cmp}
use Rattle.weighted_automata.specs.Entries.{index_from, is_empty_into, places_of}
use Rattle.weighted_automata.specs.private.Index.{empty_target}
use Rattle.weighted_automata.proofs.RowLemmas.{next_of_row, past_rows, no_row, no_target, empty_has, target_test}
use Rattle.weighted_automata.proofs.transitions.Transitions.next_empty_into.Goals as goal

pub returns-clause-row : goal.returns-clause-row
returns-clause-row g c = λ t at empty.
    c.next.ensures (map empty_target (places_of c.self.inside.entries.members)) c.self.invariant.2.by_target
    ∙ next_of_row (eq_by_cmp nat_cmp) empty_target t.place.to (is_empty_into t.place.to) (λ u. target_test t.place.to u.place) c.self.inside.entries.members c.args.k t
    (ap (λ v. slice_get v.transitions c.args.k) c.self.view_is ∙ at) (empty_has t.place empty)
    ∙ ap (λ v. index_from (is_empty_into t.place.to) (c.args.k + 1) v.transitions) c.self.view_is

pub returns-clause-past : goal.returns-clause-past
returns-clause-past g c = λ past.
    c.next.ensures (map empty_target (places_of c.self.inside.entries.members)) c.self.invariant.2.by_target
    ∙ past_rows (eq_by_cmp nat_cmp) empty_target c.self.inside.entries.members c.args.k (ap (λ v. slice_get v.transitions c.args.k) c.self.view_is ∙ past)

pub returns-clause-others : goal.returns-clause-others
returns-clause-others g c = λ t at other.
    c.next.ensures (map empty_target (places_of c.self.inside.entries.members)) c.self.invariant.2.by_target
    ∙ no_row (eq_by_cmp nat_cmp) empty_target c.self.inside.entries.members c.args.k t
    (ap (λ v. slice_get v.transitions c.args.k) c.self.view_is ∙ at) (no_target t.place other)
