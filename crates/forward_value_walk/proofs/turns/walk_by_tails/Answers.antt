use Rattle.std.proofs.Common.{ℕ, subst}
use Rattle.pushdown_rules.specs.Pushdown.{Pushdown}
use Rattle.forward_value_laws.specs.Tails.{IsSymbol, TakesRest}
use Rattle.forward_value_walk.proofs.StopLemmas.{stopped_by}
use Rattle.forward_value_walk.proofs.turns.walk_by_tails.Goals as goal

pub walk_to-requires-clause-stopped : goal.walk_to-requires-clause-stopped
walk_to-requires-clause-stopped g c = λ j stop.
    let a = c.args in
    let P : ℕ → Type 0 = TakesRest (IsSymbol c.system.result.now a.first.now) a.wanted.now.items in
    let rest = stopped_by c.rest_state-stop.result P c.rest_state-stop.ensures j stop in
    let Q : Pushdown g.row.S.Denot g.row.S-W.Denot g.row.S-Ret.Denot → Type 0 = λ q. TakesRest (IsSymbol q a.first.now) a.wanted.now.items j in
    (c.requires.tails, subst Q c.system.ensures.value rest)
