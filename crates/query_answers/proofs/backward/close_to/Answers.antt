use Rattle.std.proofs.Common.{◌<◌, sym, ◌∙◌, subst}
use Rattle.pushdown_rules.specs.Pushdown.{Pushdown}
use Rattle.weight_tables.specs.Turns.{turns_left}
use Rattle.value_search.specs.Finds.{FindsPops, FindsEnters}
use Rattle.query_answers.proofs.ClosedLemmas.{closed_stay}
use Rattle.query_answers.proofs.backward.close_to.Goals as goal

pub aim-requires : goal.aim-requires
aim-requires g c = c.requires.finds

pub turn_to_target-requires-clause-pops : goal.turn_to_target-requires-clause-pops
turn_to_target-requires-clause-pops g c =
    let old = c.args.tables.now in
    let now = c.turns.tables in
    let is = closed_stay g.S.Semiring.operations old.system old now c.turns.invariant.0 c.turns.invariant.1 c.requires in
    let P : Pushdown _ _ _ → Type 0 = λ q. FindsPops (g.S.Semiring.operations q.semiring) q now in
    subst P (sym c.turns.invariant.0) is.finds

pub turn_to_target-requires-clause-closed : goal.turn_to_target-requires-clause-closed
turn_to_target-requires-clause-closed g c =
    let old = c.args.tables.now in
    let is = closed_stay g.S.Semiring.operations old.system old c.turns.tables c.turns.invariant.0 c.turns.invariant.1 c.requires in
    is.closed

pub turn_to_target-requires-clause-finds : goal.turn_to_target-requires-clause-finds
turn_to_target-requires-clause-finds g c =
    let P : Pushdown _ _ _ → Type 0 = λ q. FindsEnters (g.S.Semiring.operations q.semiring) q c.args.to.now c.turns.tables in
    subst P (sym c.turns.invariant.0) c.turns.invariant.2

pub turns-init : goal.turns-init
turns-init g c = (c.in_ok-aim.ensures.system, c.in_ok-aim.ensures.base, c.in_ok-aim.ensures.finds)

pub turns-preserved : goal.turns-preserved
turns-preserved g c =
    let P : Pushdown _ _ _ → Type 0 = λ q. FindsEnters (g.S.Semiring.operations q.semiring) q c.args.to.now c.turn_to_target.new.tables in (
      c.in_ok-turn_to_target.ensures.system ∙ c.turns.invariant.0,
      c.in_ok-turn_to_target.ensures.base ∙ c.turns.invariant.1,
      subst P c.turns.invariant.0 c.in_ok-turn_to_target.ensures.finds,
    )

pub turns-smaller : goal.turns-smaller
turns-smaller g c =
    let P : Pushdown _ _ _ → Type 0 =
    λ q. turns_left (g.S.Semiring.operations q.semiring) c.turn_to_target.new.tables.target < turns_left (g.S.Semiring.operations q.semiring) c.turns.tables.target in
    subst P c.turns.invariant.0 (c.in_ok-turn_to_target.ensures.fewer c.if-not-branch.false)

pub returns-then-not-branch-clause-closed : goal.returns-then-not-branch-clause-closed
returns-then-not-branch-clause-closed g c =
    let old = c.args.tables.now in
    closed_stay g.S.Semiring.operations old.system old c.turn_to_target.new.tables (c.in_ok-turn_to_target.ensures.system ∙ c.turns.invariant.0)
    (c.in_ok-turn_to_target.ensures.base ∙ c.turns.invariant.1) c.requires

pub returns-then-not-branch-clause-enters : goal.returns-then-not-branch-clause-enters
returns-then-not-branch-clause-enters g c =
    let old = c.args.tables.now in
    let new = c.turn_to_target.new.tables in
    let step = c.in_ok-turn_to_target.ensures.system in
    let same = step ∙ c.turns.invariant.0 in
    let is = closed_stay g.S.Semiring.operations old.system old new same (c.in_ok-turn_to_target.ensures.base ∙ c.turns.invariant.1) c.requires in
    let P : Pushdown _ _ _ → Type 0 = λ q. FindsPops (g.S.Semiring.operations q.semiring) q new in
    let E : Pushdown _ _ _ → Type 0 = λ q. FindsEnters (g.S.Semiring.operations q.semiring) q c.args.to.now new in
    c.closed_enters_are_sums.ensures new.system c.args.to.now new c.valid.ensures.system c.valid.ensures.tables
    (subst P (sym same) is.finds) is.closed (subst E (sym step) c.in_ok-turn_to_target.ensures.finds) (c.in_ok-turn_to_target.ensures.done c.if-not-branch.true)
