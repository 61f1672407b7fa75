use Rattle.std.proofs.Common.{ap, ◌∙◌, ◌+◌, ◌-◌, ◌++◌}
use Rattle.ladder.specs.Ladders.{symbols_from}
use Rattle.ladder.proofs.NameLemmas.{symbols_step}
use Rattle.ladder.proofs.names.symbols.Goals as goal

pub loop-rung-preserved : goal.loop-rung-preserved
loop-rung-preserved c =
    let i = c.loop-rung.rung in
    ap (λ xs. xs ++ symbols_from (i + 1) (c.args.rungs - (i + 1))) c.in_ok-push_rung.ensures
    ∙ symbols_step c.loop-rung.names.items i c.args.rungs c.loop-rung-test.true ∙ c.loop-rung.invariant
