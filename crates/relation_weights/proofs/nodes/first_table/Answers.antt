use Rattle.std.proofs.Common.{◌*◌, ◌∙◌}
use Rattle.diagram_ops.specs.Relations.{of_states}
use Rattle.diagram_ops.proofs.CallerLemmas.{no_variables}
use Rattle.relation_weights.proofs.nodes.first_table.Goals as goal

pub returns : goal.returns
returns c =
    let load = c.in_ok-identity.ensures in
    record {
      few = c.requires;
      below = load.limits (2 * c.args.n) (no_variables (2 * c.args.n) c.new-table.result c.new-table.ensures) c.in_ok-diagram.ensures.variables;
      within = load.within;
      stays = λ x y. load.value (of_states x y) ∙ c.in_ok-diagram.ensures.pairs x y;
    }
