use Rattle.std.proofs.Common.{◌≡◌, ◌<◌, sym, ap, ◌∙◌, subst}
use Rattle.weight_tables.specs.Entries.{weight_in}
use Rattle.weight_tables.specs.Tables.{TablesValue, with_entries, with_hand}
use Rattle.weight_tables.specs.Turns.{turns_left}
use Rattle.weight_tables.specs.declared.layer.Layer.TheVariants.{Walk}
use Rattle.walk_pairs.specs.Pairs.{answer_place}
use Rattle.walk_pairs.specs.Answering.{IsAnswered, IsWalkedOver}
use Rattle.forward_value_walk.specs.Walking.{is_stop}
use Rattle.forward_value_walk.specs.private.Going.{IsWalking}
use Rattle.forward_value_walk.proofs.TurnLemmas.{ended, finished_over, stopped_over}
use Rattle.forward_value_walk.proofs.turns.walk_to.Goals as goal

pub turns-init : goal.turns-init
turns-init g c = (c.in_ok-begin.ensures.others, c.in_ok-begin.ensures.walking (is_stop c.args.stop))

pub turn-requires : goal.turn-requires
turn-requires g c =
    let a = c.args in
    let v = a.tables.now in
    let over = c.turns.invariant.0 in
    let Q : TablesValue g.row.S.Denot g.row.S-W.Denot g.row.S-Ret.Denot → Type 0 = λ u. IsWalking (g.S.Semiring.operations u.system.semiring) a.first.now a.wanted.now (is_stop a.stop) c.turns.tables in
    record { finished = finished_over g.S.Semiring.operations a.first.now v c.turns.tables over c.requires.finished; stopped = stopped_over g.S.Semiring.operations a.first.now a.wanted.now (is_stop a.stop) v c.turns.tables over c.requires.stopped; walking = subst Q (sym over) c.turns.invariant.1 }

-- what a turn left, over the first tables
later : {S W Map : Type 0} (v v1 v2 : TablesValue S W Map) → IsWalkedOver v v1 → IsWalkedOver v1 v2 → IsWalkedOver v v2
later {S} {W} {Map} v v1 v2 one two = two ∙ ap (λ (u : TablesValue S W Map). with_hand v2.hand (with_entries Walk v2.walk u)) one

pub turns-preserved : goal.turns-preserved
turns-preserved g c =
    let a = c.args in
    let v = a.tables.now in
    let over = c.turns.invariant.0 in
    let Q : TablesValue g.row.S.Denot g.row.S-W.Denot g.row.S-Ret.Denot → Type 0 = λ u. IsWalking (g.S.Semiring.operations u.system.semiring) a.first.now a.wanted.now (is_stop a.stop) c.turn.new.tables in
    (later v c.turns.tables c.turn.new.tables over c.in_ok-turn.ensures.others, subst Q over c.in_ok-turn.ensures.walking)

pub turns-smaller : goal.turns-smaller
turns-smaller g c =
    let over = c.turns.invariant.0 in
    let Q : TablesValue g.row.S.Denot g.row.S-W.Denot g.row.S-Ret.Denot → Type 0 =
    λ u. turns_left (g.S.Semiring.operations u.system.semiring) c.turn.new.tables.walk < turns_left (g.S.Semiring.operations u.system.semiring) c.turns.tables.walk in
    subst Q over (c.in_ok-turn.ensures.fewer c.if-not-branch.false)

pub returns-then-not-branch-clause-answer : goal.returns-then-not-branch-clause-answer
returns-then-not-branch-clause-answer g c =
    let a = c.args in
    let v = a.tables.now in
    let v1 = c.turns.tables in
    let v2 = c.turn.new.tables in
    let s2 = g.S.Semiring.operations v2.system.semiring in
    let step = c.in_ok-turn.ensures.others in
    let all = later v v1 v2 c.turns.invariant.0 step in
    let Q : TablesValue g.row.S.Denot g.row.S-W.Denot g.row.S-Ret.Denot → Type 0 = λ u. IsWalking (g.S.Semiring.operations u.system.semiring) a.first.now a.wanted.now (is_stop a.stop) v2 in
    let answer = ended g.S.Semiring.operations (λ x. g.S.Semiring.laws x) a.first.now a.wanted.now (is_stop a.stop) v2 c.valid.ensures.system c.valid.ensures.tables (finished_over g.S.Semiring.operations a.first.now v v2 all c.requires.finished)
    (subst Q (sym step) c.in_ok-turn.ensures.walking) (stopped_over g.S.Semiring.operations a.first.now a.wanted.now (is_stop a.stop) v v2 all c.requires.stopped) (c.in_ok-turn.ensures.done c.if-not-branch.true) in
    let is : c.in_ok-value.value ≡ weight_in s2 v2.walk answer_place = c.in_ok-value.ensures ∙ ap (weight_in s2 v2.walk) c.answer_place.ensures in
    let A : g.row.S-W.Denot → Type 0 = IsAnswered s2 v2.system a.first.now a.wanted.now in
    let R : TablesValue g.row.S.Denot g.row.S-W.Denot g.row.S-Ret.Denot → Type 0 = λ u. IsAnswered (g.S.Semiring.operations u.system.semiring) u.system a.first.now a.wanted.now c.in_ok-value.value in
    subst R all (subst A (sym is) answer)
