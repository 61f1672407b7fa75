use Rattle.std.proofs.Common.{ap, ◌∙◌, ◌+◌, ◌-◌, ◌++◌}
use Rattle.ladder.specs.Ladders.{rules_from}
use Rattle.ladder.proofs.RuleLemmas.{rules_step}
use Rattle.ladder.proofs.rules.rules.Goals as goal

pub loop-rung-preserved : goal.loop-rung-preserved
loop-rung-preserved c =
    let i = c.loop-rung.rung in
    ap (λ xs. xs ++ rules_from (i + 1) (c.args.rungs - (i + 1))) c.in_ok-push_rung.ensures
    ∙ rules_step c.loop-rung.rules.items i c.args.rungs c.loop-rung-test.true ∙ c.loop-rung.invariant
