use Rattle.std.proofs.Common.{◌≡◌, sym, ap, ◌∙◌, subst}
use Rattle.pushdown_rules.specs.Pushdown.{Pushdown}
use Rattle.weight_tables.specs.Tables.{TablesValue}
use Rattle.forward_value_search.specs.Search.{IsFinished}
use Rattle.value_tails.specs.Tailing.{IsTailed}
use Rattle.value_tails.specs.private.Steps.{IsLinkedUp, IsTailing}
use Rattle.value_tails.proofs.GiveLemmas.{linked_over, all_tailed, finished_tailed, finished_walked}
use Rattle.value_tails.proofs.making.make_tails.Goals as goal

pub turn-requires-clause-linked : goal.turn-requires-clause-linked
turn-requires-clause-linked g c =
    let a = c.args in
    let v1 = c.link_all.new.tables in
    let v2 = c.begin.new.tables in
    let L : TablesValue g.row.S.Denot g.row.S-W.Denot g.row.S-Ret.Denot → Type 0 = λ u. IsLinkedUp (g.S.Semiring.operations u.system.semiring) a.first.now v1 in
    let one = subst L (sym c.in_ok-link_all.ensures.others) c.in_ok-link_all.ensures.linked in
    linked_over g.S.Semiring.operations (λ x. g.S.Semiring.laws x) a.first.now v2 c.turns.tables c.turns.invariant.0 (linked_over g.S.Semiring.operations (λ x. g.S.Semiring.laws x) a.first.now v1 v2 c.in_ok-begin.ensures.others one)

pub returns-then-not-branch-clause-tails : goal.returns-then-not-branch-clause-tails
returns-then-not-branch-clause-tails g c =
    let a = c.args in
    let v1 = c.link_all.new.tables in
    let v2 = c.begin.new.tables in
    let now = c.turns.tables in
    let v4 = c.turn.new.tables in
    let L : TablesValue g.row.S.Denot g.row.S-W.Denot g.row.S-Ret.Denot → Type 0 = λ u. IsLinkedUp (g.S.Semiring.operations u.system.semiring) a.first.now v1 in
    let one = subst L (sym c.in_ok-link_all.ensures.others) c.in_ok-link_all.ensures.linked in
    let two = linked_over g.S.Semiring.operations (λ x. g.S.Semiring.laws x) a.first.now v1 v2 c.in_ok-begin.ensures.others one in
    let three = linked_over g.S.Semiring.operations (λ x. g.S.Semiring.laws x) a.first.now v2 now c.turns.invariant.0 two in
    let linked = linked_over g.S.Semiring.operations (λ x. g.S.Semiring.laws x) a.first.now now v4 c.in_ok-turn.ensures.others three in
    let T : TablesValue g.row.S.Denot g.row.S-W.Denot g.row.S-Ret.Denot → Type 0 = λ u. IsTailing (g.S.Semiring.operations u.system.semiring) a.first.now v4 in
    let tailing = subst T (sym c.in_ok-turn.ensures.others) c.in_ok-turn.ensures.tailing in
    let tailed = all_tailed g.S.Semiring.operations (λ x. g.S.Semiring.laws x) a.first.now v4 c.valid.ensures.system c.valid.ensures.tables linked tailing (c.in_ok-turn.ensures.done c.if-not-branch.true) in
    let f = λ (u : TablesValue g.row.S.Denot g.row.S-W.Denot g.row.S-Ret.Denot). u.system in
    let same : v4.system ≡ a.tables.now.system = ap f c.in_ok-turn.ensures.others ∙ ap f c.turns.invariant.0 ∙ ap f c.in_ok-begin.ensures.others ∙ ap f c.in_ok-link_all.ensures.others in
    let P : Pushdown g.row.S.Denot g.row.S-W.Denot g.row.S-Ret.Denot → Type 0 = λ q. IsTailed (g.S.Semiring.operations q.semiring) a.first.now v4 in
    subst P same tailed

pub returns-then-not-branch-clause-finished : goal.returns-then-not-branch-clause-finished
returns-then-not-branch-clause-finished g c =
    let a = c.args in
    let p = a.tables.now.system in
    let o = g.S.Semiring.operations in
    let first = a.first.now in
    let one = finished_walked o p first a.tables.now c.link_all.new.tables c.in_ok-link_all.ensures.others c.requires in
    let two = finished_tailed o p first c.link_all.new.tables c.begin.new.tables c.in_ok-begin.ensures.others one in
    finished_tailed o p first c.turns.tables c.turn.new.tables c.in_ok-turn.ensures.others (finished_tailed o p first c.begin.new.tables c.turns.tables c.turns.invariant.0 two)
