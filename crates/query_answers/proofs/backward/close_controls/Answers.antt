use Rattle.std.proofs.Common.{◌<◌, sym, ap, ◌∙◌, subst}
use Rattle.pushdown_rules.specs.Pushdown.{Pushdown}
use Rattle.weight_tables.specs.Tables.{TablesValue}
use Rattle.weight_tables.specs.Turns.{turns_left}
use Rattle.value_search.specs.Finds.{FindsPops}
use Rattle.query_answers.proofs.backward.close_controls.Goals as goal

pub turns-init : goal.turns-init
turns-init g c =
    let now = c.open.new.tables in
    let same = ap (λ (v : TablesValue _ _ _). v.system) c.new-tables.ensures in
    let P : Pushdown _ _ _ → Type 0 = λ q. FindsPops (g.S.Semiring.operations q.semiring) q now in
    (c.in_ok-open.ensures.system ∙ same, subst P same c.in_ok-open.ensures.finds)

pub turn-requires : goal.turn-requires
turn-requires g c =
    let P : Pushdown _ _ _ → Type 0 = λ q. FindsPops (g.S.Semiring.operations q.semiring) q c.turns.tables in
    subst P (sym c.turns.invariant.0) c.turns.invariant.1

pub turns-preserved : goal.turns-preserved
turns-preserved g c =
    let P : Pushdown _ _ _ → Type 0 = λ q. FindsPops (g.S.Semiring.operations q.semiring) q c.turn.new.tables in
    (c.in_ok-turn.ensures.system ∙ c.turns.invariant.0, subst P c.turns.invariant.0 c.in_ok-turn.ensures.finds)

pub turns-smaller : goal.turns-smaller
turns-smaller g c =
    let P : Pushdown _ _ _ → Type 0 =
    λ q. turns_left (g.S.Semiring.operations q.semiring) c.turn.new.tables.base < turns_left (g.S.Semiring.operations q.semiring) c.turns.tables.base in
    subst P c.turns.invariant.0 (c.in_ok-turn.ensures.fewer c.if-not-branch.false)

pub returns-then-not-branch : goal.returns-then-not-branch
returns-then-not-branch g c =
    let P : Pushdown _ _ _ → Type 0 = λ q. FindsPops (g.S.Semiring.operations q.semiring) q c.turn.new.tables in
    record {
      system = c.in_ok-turn.ensures.system ∙ c.turns.invariant.0;
      finds = subst P c.turns.invariant.0 c.in_ok-turn.ensures.finds;
      closed = c.in_ok-turn.ensures.done c.if-not-branch.true;
    }
