use Rattle.std.proofs.Common.{◌<◌, sym, ap, ◌∙◌, subst}
use Rattle.pushdown_rules.specs.Pushdown.{Pushdown}
use Rattle.weight_tables.specs.Tables.{TablesValue}
use Rattle.weight_tables.specs.Turns.{turns_left}
use Rattle.forward_value_search.specs.Search.{IsSearch, IsFinished}
use Rattle.query_answers.proofs.forward.close_from.Goals as goal

pub turns-init : goal.turns-init
turns-init g c =
    let same = ap (λ (v : TablesValue _ _ _). v.system) c.new-tables.ensures in
    let P : Pushdown _ _ _ → Type 0 = λ q. IsSearch g.S.Semiring.operations q c.args.from.now c.open.new.tables in
    (c.in_ok-open.ensures.system ∙ same, subst P same c.in_ok-open.ensures.search)

pub turn-requires : goal.turn-requires
turn-requires g c =
    let P : Pushdown _ _ _ → Type 0 = λ q. IsSearch g.S.Semiring.operations q c.args.from.now c.turns.tables in
    subst P (sym c.turns.invariant.0) c.turns.invariant.1

pub turns-preserved : goal.turns-preserved
turns-preserved g c =
    let P : Pushdown _ _ _ → Type 0 = λ q. IsSearch g.S.Semiring.operations q c.args.from.now c.turn.new.tables in
    (c.in_ok-turn.ensures.system ∙ c.turns.invariant.0, subst P c.turns.invariant.0 c.in_ok-turn.ensures.search)

pub turns-smaller : goal.turns-smaller
turns-smaller g c =
    let P : Pushdown _ _ _ → Type 0 =
    λ q. turns_left (g.S.Semiring.operations q.semiring) c.turn.new.tables.base < turns_left (g.S.Semiring.operations q.semiring) c.turns.tables.base in
    subst P c.turns.invariant.0 (c.in_ok-turn.ensures.fewer c.if-not-branch.false)

pub returns-then-not-branch-clause-system : goal.returns-then-not-branch-clause-system
returns-then-not-branch-clause-system g c = c.in_ok-turn.ensures.system ∙ c.turns.invariant.0

pub returns-then-not-branch-clause-finished : goal.returns-then-not-branch-clause-finished
returns-then-not-branch-clause-finished g c =
    let P : Pushdown _ _ _ → Type 0 = λ q. IsFinished g.S.Semiring.operations q c.args.from.now c.turn.new.tables in
    subst P c.turns.invariant.0 (c.in_ok-turn.ensures.done c.if-not-branch.true)
