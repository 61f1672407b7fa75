use Rattle.std.proofs.Common.{◌≡◌, true, false, length, sym, ap, ◌∙◌, subst}
use Rattle.std.specs.Prelude.{◌↔◌, All, IfSome, IsTrue}
use Rattle.saturation_laws.specs.Jobs.{InputsFit}
use Rattle.saturation_laws.specs.Directions.{AgreeOn}
use Rattle.saturation_core.specs.Settled.{jobs_out, CanSettle}
use Rattle.saturation_core.specs.BookView.{book_view}
use Rattle.saturation_laws.specs.Openings.{AreKept}
use Rattle.saturation_core.specs.declared.found.Found.{Found}
use Rattle.saturation_core.specs.Goals.{FitsGoal, StillTell}
use Rattle.saturation_core.proofs.SettleBook.{book_keeps, decides, lists_it, out_fits}
use Rattle.saturation_core.proofs.book.Book.holds.Goals as goal

pub lists-requires-clause-out : goal.lists-requires-clause-out
lists-requires-clause-out g c =
    subst (λ z. IfSome (jobs_out c.seat.result c.deref.result.now) (All (InputsFit (g.S.Semiring.operations z)))) (sym c.semiring-semiring.ensures.value)
    (subst (λ hs. IfSome (jobs_out c.seat.result hs) (All (InputsFit (g.S.Semiring.operations c.self.inside.system.now.semiring)))) (sym c.deref.ensures.value)
    (out_fits g.S.Semiring.operations g.S.Semiring.laws g.D.Direction.way g.met.D.Direction.laws (book_view c.self.inside) c.self.invariant.0 c.seat.result))

pub lists-requires-clause-jobs : goal.lists-requires-clause-jobs
lists-requires-clause-jobs g c =
    let one : c.self.inside.system.now.semiring ≡ c.args.done.now.system.semiring =
    sym c.semiring.ensures.value ∙ c.same_kind.ensures.0 c.if-not-same_kind.false ∙ c.semiring-2.ensures.value ∙ ap (λ p. p.semiring) c.system-other.ensures in
    subst (λ js. All (InputsFit (g.S.Semiring.operations c.semiring-semiring.result.now)) js) (sym c.as_slice-jobs.ensures)
    (subst (λ z. All (InputsFit (g.S.Semiring.operations z)) c.jobs.result.now) (sym one ∙ sym c.semiring-semiring.ensures.value) c.jobs.ensures.inputs)

pub returns : goal.returns
returns g c =
    let b = book_view c.self.inside in
    let w = c.args.done.now in
    let one : b.system.semiring ≡ w.system.semiring =
    sym c.semiring.ensures.value ∙ c.same_kind.ensures.0 c.if-not-same_kind.false ∙ c.semiring-2.ensures.value ∙ ap (λ p. p.semiring) c.system-other.ensures in
    let side : (g.D.Direction.way.tables w.direction w.system).side ≡ (g.D.Direction.way.tables b.direction b.system).side =
    sym c.side-2.ensures ∙ sym (c.same_side.ensures.0 c.if-not-same_side.false) ∙ sym (c.side.ensures b.system) in
    let rules = subst (λ q. All (AgreeOn b.system q) c.as_slice-jobs.result.now) c.system-other.ensures (c.agree.ensures.0 c.if-not-agree.false) in
    let listed = c.lists.ensures.0 c.if-not-lists.false in
    let r = c.still_tell.result in
    let test = subst (λ ts. IsTrue r ↔ StillTell ts w.jobs w.goals) (c.list-transitions.ensures ∙ ap (λ (f : Found _ _ _). f.transitions.transitions) c.deref-2.ensures)
    (subst (λ js. IsTrue r ↔ StillTell c.list-transitions.result.now.transitions js w.goals) (c.as_slice-jobs.ensures ∙ c.jobs.ensures.value)
    (subst (λ gs. IsTrue r ↔ StillTell c.list-transitions.result.now.transitions c.as_slice-jobs.result.now gs) (c.as_slice.ensures ∙ c.goals.ensures.value) c.still_tell.ensures)) in
    subst (λ x. IsTrue r ↔ CanSettle g.D.Direction.way x w) c.self.view_is
    (decides g.D.Direction.way b w c.seat.result c.deref.result.now c.as_slice-jobs.result.now c.seat.ensures c.deref.ensures.value (c.as_slice-jobs.ensures ∙ c.jobs.ensures.value)
    side one rules listed r test)

pub still_tell-requires-clause-kept : goal.still_tell-requires-clause-kept
still_tell-requires-clause-kept g c =
    let n = length c.self.inside.found.value.graph.nodes in (
      n,
      subst (λ z. AreKept (g.S.Semiring.operations z) c.list-transitions.result.now.transitions n) (sym c.semiring-semiring.ensures.value)
          (subst (λ ts. AreKept (g.S.Semiring.operations c.self.inside.system.now.semiring) ts n) (sym (c.list-transitions.ensures ∙ ap (λ (f : Found _ _ _). f.transitions.transitions) c.deref-2.ensures))
          (book_keeps g.S.Semiring.operations g.S.Semiring.laws g.D.Direction.way g.met.D.Direction.laws (book_view c.self.inside) c.self.invariant.0)),
    )

pub still_tell-requires-clause-goals : goal.still_tell-requires-clause-goals
still_tell-requires-clause-goals g c =
    let one : c.self.inside.system.now.semiring ≡ c.args.done.now.system.semiring =
    sym c.semiring.ensures.value ∙ c.same_kind.ensures.0 c.if-not-same_kind.false ∙ c.semiring-2.ensures.value ∙ ap (λ p. p.semiring) c.system-other.ensures in
    subst (λ gs. All (FitsGoal (g.S.Semiring.operations c.semiring-semiring.result.now)) gs) (sym c.as_slice.ensures)
    (subst (λ z. All (FitsGoal (g.S.Semiring.operations z)) c.goals.result.now) (sym one ∙ sym c.semiring-semiring.ensures.value) c.goals.ensures.fit.seen)

pub returns-then-not-lists : goal.returns-then-not-lists
returns-then-not-lists g c = (
  λ h. cc,
  λ can.
      let here = subst (λ x. CanSettle g.D.Direction.way x c.args.done.now) (sym c.self.view_is) can in
      let listed = lists_it g.D.Direction.way (book_view c.self.inside) c.args.done.now c.seat.result c.deref.result.now c.as_slice-jobs.result.now c.seat.ensures c.deref.ensures.value (c.as_slice-jobs.ensures ∙ c.jobs.ensures.value) here in
      let e : true ≡ false = sym (c.lists.ensures.1 listed) ∙ c.if-not-lists.true in
      cc,
)
