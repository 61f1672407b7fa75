use Rattle.std.proofs.Common.{ap, ◌∙◌, map}
use Rattle.std.specs.Prelude.{Some}
use Rattle.std.specs.Ordering.{eq_by_cmp, nat_cmp}
use Rattle.weighted_automata.specs.Entries.{index_where, is_out_of, places_of}
use Rattle.weighted_automata.proofs.RowLemmas.{first_of_row, number_test}
use Rattle.weighted_automata.proofs.transitions.Transitions.first_out_of.Goals as goal

pub returns : goal.returns
returns g c =
    c.first.ensures (map (λ p. Some p.from) (places_of c.self.inside.entries.members)) c.self.invariant.2.by_state
    ∙ first_of_row (eq_by_cmp nat_cmp) (λ p. Some p.from) c.args.state (is_out_of c.args.state) (λ t. number_test c.args.state t.place.from) c.self.inside.entries.members
    ∙ ap (λ v. index_where (is_out_of c.args.state) v.transitions) c.self.view_is
