use Rattle.std.proofs.Common.{sym, ◌∙◌}
use Rattle.diagram_ops.proofs.VariableLemmas.{quantified_below}
use Rattle.diagram_ops.proofs.quantifying.exists.Goals as goal

pub returns-clause-value : goal.returns-clause-value
returns-clause-value c = λ bits.
    let means = c.in_ok-root.ensures.stands.means bits in
    (λ holds. means.0 (sym (c.in_ok-made.ensures bits) ∙ holds), λ o. c.in_ok-made.ensures bits ∙ means.1 o)

pub returns-clause-variables : goal.returns-clause-variables
returns-clause-variables c = λ limit below.
    quantified_below c.independent_variables.ensures limit c.in_ok-made.made c.args.a.now below c.args.vars.now (returns-clause-value c)
