use Rattle.std.proofs.Common.{◌*◌, arith}
use Rattle.std.proofs.lemmas.Result.{IfOk-weaker}
use Rattle.relation_picks.proofs.conditions.keep_bit.Goals as goal

pub returns-clause-variables : goal.returns-clause-variables
returns-clause-variables c =
    IfOk-weaker c.apply_table2.result _ _ (λ e h n below over. h (2 * n) over (c.in_ok-literal.ensures.variable (2 * n) (omega arith))) c.apply_table2.ensures.variables
