use Rattle.std.proofs.Common.{◌∙◌}
use Rattle.diagram_ops.proofs.VariableLemmas.{restricted_below}
use Rattle.diagram_ops.proofs.restricting.restrict.Goals as goal

pub returns-clause-value : goal.returns-clause-value
returns-clause-value c = λ bits. c.in_ok-made.ensures bits ∙ c.in_ok-root.ensures.stands.means bits

pub returns-clause-variables : goal.returns-clause-variables
returns-clause-variables c = λ limit.
    restricted_below c.independent_variables.ensures limit c.in_ok-made.made c.args.a.now c.args.var c.args.value (returns-clause-value c)
