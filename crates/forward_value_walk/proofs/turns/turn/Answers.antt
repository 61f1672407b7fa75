use Rattle.std.proofs.Common.{◌≡◌, ℕ, false, sym, ap, ◌∙◌, subst}
use Rattle.std.specs.Prelude.{Option, None, Some, IfNone, slice_get}
use Rattle.std.proofs.lemmas.Bool.{false≢true}
use Rattle.weight_tables.specs.Entries.{NoneWaits}
use Rattle.weight_tables.specs.Tables.{TablesValue, AreTables}
use Rattle.forward_value_search.specs.Search.{IsFinished}
use Rattle.forward_value_walk.specs.Walking.{is_stop}
use Rattle.forward_value_walk.specs.private.Going.{IsWalking, IsPlaceGiven, AreMade, IsStopped}
use Rattle.forward_value_walk.proofs.TurnLemmas.{taken_at, took_walkable, turned}
use Rattle.forward_value_walk.proofs.turns.turn.Goals as goal

none_of : (o : Option ℕ) (P : Type 0) → o ≡ None → IfNone o P → P
none_of o P none holds = let Q : Option ℕ → Type 0 = λ x. IfNone x P in subst Q none holds

pub returns-in_default : goal.returns-in_default
returns-in_default g c =
    let a = c.args in
    let v = a.tables.now in
    let s = g.S.Semiring.operations v.system.semiring in
    let same : c.pop.new.self ≡ v = none_of c.pop.result (c.pop.new.self ≡ v) c.in_default.is c.pop.ensures.stays in
    let none : NoneWaits v.walk = none_of c.pop.result (NoneWaits v.walk) c.in_default.is c.pop.ensures.none in
    let P : TablesValue g.row.S.Denot g.row.S-W.Denot g.row.S-Ret.Denot → Type 0 = IsWalking s a.first.now a.wanted.now (is_stop a.stop) in
    let Q : TablesValue g.row.S.Denot g.row.S-W.Denot g.row.S-Ret.Denot → Type 0 = λ u. NoneWaits u.walk in
    record {
      walking = subst P (sym same) c.requires.walking;
      others = same ∙ ap (λ (u : TablesValue g.row.S.Denot g.row.S-W.Denot g.row.S-Ret.Denot). record v { hand = u.hand; walk = u.walk }) (sym same);
      done = λ _. subst Q (sym same) none;
      fewer = λ e. absurd (false≢true e);
    }

pub give-requires : goal.give-requires
give-requires g c =
    let a = c.args in
    let v = a.tables.now in
    let entry = c.in-Some.ensures.entry in
    let e = entry.0 in
    let is = c.in-Some.ensures.taken in
    let V : TablesValue g.row.S.Denot g.row.S-W.Denot g.row.S-Ret.Denot → Type 0 = λ u. AreTables (g.S.Semiring.operations u.system.semiring) u in
    let walkable = took_walkable g.S.Semiring.operations (λ x. g.S.Semiring.laws x) a.first.now a.wanted.now (is_stop a.stop) v c.valid.ensures.system c.valid.ensures.tables c.requires.finished c.requires.walking c.in-Some.t e entry.1 entry.2
    (subst V is c.valid-2.ensures.tables) in
    let F : TablesValue g.row.S.Denot g.row.S-W.Denot g.row.S-Ret.Denot → Type 0 = λ u. IsFinished g.S.Semiring.operations u.system a.first.now u in
    let A : TablesValue g.row.S.Denot g.row.S-W.Denot g.row.S-Ret.Denot → Type 0 = λ u. AreMade (g.S.Semiring.operations u.system.semiring) a.first.now a.wanted.now u in
    let B : TablesValue g.row.S.Denot g.row.S-W.Denot g.row.S-Ret.Denot → Type 0 = λ u. IsStopped (g.S.Semiring.operations u.system.semiring) a.first.now a.wanted.now (is_stop a.stop) u in
    record { entry = c.in-Some.ensures.within; finished = subst F (sym is) walkable.finished; made = subst A (sym is) walkable.made; stopped = subst B (sym is) (λ j stop. let it = c.requires.stopped j stop in (record { sums = it.0.sums; ends = it.0.ends; reads = it.0.reads; opens = it.0.opens }, it.1)) }

pub returns : goal.returns
returns g c =
    let a = c.args in
    let v = a.tables.now in
    let t = c.in-Some.t in
    let entry = c.in-Some.ensures.entry in
    let e = entry.0 in
    let is = c.in-Some.ensures.taken in
    let there : slice_get c.pop.new.self.walk t ≡ Some (record e { waits = false }) =
    ap (λ (u : TablesValue g.row.S.Denot g.row.S-W.Denot g.row.S-Ret.Denot). slice_get u.walk t) is ∙ taken_at t v.walk e entry.1 in
    let V : TablesValue g.row.S.Denot g.row.S-W.Denot g.row.S-Ret.Denot → Type 0 = λ u. AreTables (g.S.Semiring.operations u.system.semiring) u in
    let G : TablesValue g.row.S.Denot g.row.S-W.Denot g.row.S-Ret.Denot → Type 0 = λ u. IsPlaceGiven (g.S.Semiring.operations u.system.semiring) a.first.now a.wanted.now (is_stop a.stop) e.place u c.give.new.tables in
    let all = turned g.S.Semiring.operations (λ x. g.S.Semiring.laws x) a.first.now a.wanted.now (is_stop a.stop) v c.valid.ensures.system c.valid.ensures.tables c.requires.finished c.requires.walking t e entry.1 entry.2
    (subst V is c.valid-2.ensures.tables) c.give.new.tables c.valid-3.ensures.tables.walk.few (subst G is (c.in_ok-give.ensures (record e { waits = false }) there)) in
    record { walking = all.walking; others = all.others; done = λ e. absurd (false≢true (sym e)); fewer = λ _. all.fewer }
