use Rattle.std.proofs.Common.{◌+◌, refl, ap, ◌∙◌, map}
use Rattle.std.specs.Prelude.{Some, slice_get}
use Rattle.std.specs.Ordering.{eq_by_cmp}
use Rattle.weighted_automata.specs.contracts.index.SourceOrd.TheImpl.{ghosts as of_sources}
use Rattle.weighted_automata.specs.Entries.{index_from, is_from, places_of}
use Rattle.weighted_automata.specs.private.Index.{source_of}
use Rattle.weighted_automata.proofs.RowLemmas.{next_of_row, past_rows, source_test}
use Rattle.weighted_automata.proofs.transitions.Transitions.next_from.Goals as goal

pub returns-clause-row : goal.returns-clause-row
returns-clause-row g c = λ t at.
    c.next.ensures (map (λ p. Some (source_of p)) (places_of c.self.inside.entries.members)) c.self.invariant.2.by_source
    ∙ next_of_row (eq_by_cmp of_sources.cmp) (λ p. Some (source_of p)) (source_of t.place) (is_from t.place.from t.place.label) (λ u. source_test (source_of t.place) u.place) c.self.inside.entries.members c.args.k t
    (ap (λ v. slice_get v.transitions c.args.k) c.self.view_is ∙ at) refl
    ∙ ap (λ v. index_from (is_from t.place.from t.place.label) (c.args.k + 1) v.transitions) c.self.view_is

pub returns-clause-past : goal.returns-clause-past
returns-clause-past g c = λ past.
    c.next.ensures (map (λ p. Some (source_of p)) (places_of c.self.inside.entries.members)) c.self.invariant.2.by_source
    ∙ past_rows (eq_by_cmp of_sources.cmp) (λ p. Some (source_of p)) c.self.inside.entries.members c.args.k (ap (λ v. slice_get v.transitions c.args.k) c.self.view_is ∙ past)
