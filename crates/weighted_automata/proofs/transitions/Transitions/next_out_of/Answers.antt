use Rattle.std.proofs.Common.{◌+◌, refl, ap, ◌∙◌, map}
use Rattle.std.specs.Prelude.{Some, slice_get}
use Rattle.std.specs.Ordering.{eq_by_cmp, nat_cmp}
use Rattle.weighted_automata.specs.Entries.{index_from, is_out_of, places_of}
use Rattle.weighted_automata.proofs.RowLemmas.{next_of_row, past_rows, number_test}
use Rattle.weighted_automata.proofs.transitions.Transitions.next_out_of.Goals as goal

pub returns-clause-row : goal.returns-clause-row
returns-clause-row g c = λ t at.
    c.next.ensures (map (λ p. Some p.from) (places_of c.self.inside.entries.members)) c.self.invariant.2.by_state
    ∙ next_of_row (eq_by_cmp nat_cmp) (λ p. Some p.from) t.place.from (is_out_of t.place.from) (λ u. number_test t.place.from u.place.from) c.self.inside.entries.members c.args.k t
    (ap (λ v. slice_get v.transitions c.args.k) c.self.view_is ∙ at) refl
    ∙ ap (λ v. index_from (is_out_of t.place.from) (c.args.k + 1) v.transitions) c.self.view_is

pub returns-clause-past : goal.returns-clause-past
returns-clause-past g c = λ past.
    c.next.ensures (map (λ p. Some p.from) (places_of c.self.inside.entries.members)) c.self.invariant.2.by_state
    ∙ past_rows (eq_by_cmp nat_cmp) (λ p. Some p.from) c.self.inside.entries.members c.args.k (ap (λ v. slice_get v.transitions c.args.k) c.self.view_is ∙ past)
