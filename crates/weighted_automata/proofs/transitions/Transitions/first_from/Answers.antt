use Rattle.std.proofs.Common.{ap, ◌∙◌, map}
use Rattle.std.specs.Prelude.{Some}
use Rattle.std.specs.Ordering.{eq_by_cmp}
use Rattle.weighted_automata.specs.contracts.index.SourceOrd.TheImpl.{ghosts as of_sources}
use Rattle.weighted_automata.specs.Entries.{index_where, is_from, places_of}
use Rattle.weighted_automata.specs.private.Index.{source_of}
use Rattle.weighted_automata.proofs.RowLemmas.{first_of_row, source_test}
use Rattle.weighted_automata.proofs.transitions.Transitions.first_from.Goals as goal

pub returns : goal.returns
returns g c =
    c.first.ensures (map (λ p. Some (source_of p)) (places_of c.self.inside.entries.members)) c.self.invariant.2.by_source
    ∙ first_of_row (eq_by_cmp of_sources.cmp) (λ p. Some (source_of p)) (record { state = c.args.state; label = c.args.label }) (is_from c.args.state c.args.label) (λ t. source_test (record { state = c.args.state; label = c.args.label }) t.place) c.self.inside.entries.members
    ∙ ap (λ v. index_where (is_from c.args.state c.args.label) v.transitions) c.self.view_is
