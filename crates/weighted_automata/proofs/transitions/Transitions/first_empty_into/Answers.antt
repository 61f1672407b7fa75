use Rattle.std.proofs.Common.{ap, ◌∙◌, map}
use Rattle.std.specs.Ordering.{eq_by_cmp, nat_cmp}
use Rattle.weighted_automata.specs.Entries.{index_where, is_empty_into, places_of}
use Rattle.weighted_automata.specs.private.Index.{empty_target}
use Rattle.weighted_automata.proofs.RowLemmas.{first_of_row, target_test}
use Rattle.weighted_automata.proofs.transitions.Transitions.first_empty_into.Goals as goal

pub returns : goal.returns
returns g c =
    c.first.ensures (map empty_target (places_of c.self.inside.entries.members)) c.self.invariant.2.by_target
    ∙ first_of_row (eq_by_cmp nat_cmp) empty_target c.args.state (is_empty_into c.args.state) (λ t. target_test c.args.state t.place) c.self.inside.entries.members
    ∙ ap (λ v. index_where (is_empty_into c.args.state) v.transitions) c.self.view_is
