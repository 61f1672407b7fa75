use Rattle.std.proofs.Common.{sym, ◌∙◌}
use Rattle.diagram_ops.proofs.UnitingLemmas.{once_first, once_other, once_swapped}
use Rattle.diagram_ops.proofs.uniting.at_once.Goals as goal

pub returns-then-x-absorbing-clause-right : goal.returns-then-x-absorbing-clause-right
returns-then-x-absorbing-clause-right c = once_first c.args.junction c.args.x c.args.y (c.if-x-absorbing.true ∙ c.absorbing.ensures)

pub returns-else-x-absorbing-clause-right : goal.returns-else-x-absorbing-clause-right
returns-else-x-absorbing-clause-right c = once_other c.args.junction c.args.x c.args.y c.if-x-lt2.true (λ e. c.if-x-absorbing.false (e ∙ sym c.absorbing.ensures))

pub returns-then-y-absorbing-clause-right : goal.returns-then-y-absorbing-clause-right
returns-then-y-absorbing-clause-right c =
    once_swapped c.args.junction c.args.x c.args.y c.args.y (once_first c.args.junction c.args.y c.args.x (c.if-y-absorbing.true ∙ c.absorbing-then-y-lt2.ensures))

pub returns-else-y-absorbing-clause-right : goal.returns-else-y-absorbing-clause-right
returns-else-y-absorbing-clause-right c =
    once_swapped c.args.junction c.args.x c.args.y c.args.x (once_other c.args.junction c.args.y c.args.x c.if-y-lt2.true (λ e. c.if-y-absorbing.false (e ∙ sym c.absorbing-then-y-lt2.ensures)))
