use Rattle.std.proofs.Common.{◌≡◌, [], ◌∷◌, ◌++◌, length, refl, sym, ap, ◌∙◌, subst, arith}
use Rattle.std.specs.Prelude.{All}
use Rattle.semiring_laws.specs.Semiring.{Fits}
use Rattle.saturation_laws.specs.declared.event.Event.TheVariants.{Settle}
use Rattle.saturation_laws.specs.Books.{BookValue, Makes, IsBook}
use Rattle.saturation_core.specs.Goals.{StillTell}
use Rattle.saturation_core.specs.Seats.{hands_out}
use Rattle.saturation_core.specs.declared.found.Found.{Found}
use Rattle.saturation_core.specs.private.Plans.{changes_with, AreNodesFrom, plan_of}
use Rattle.saturation_core.specs.private.Steps.{with_hands, Becomes, IsKept}
use Rattle.saturation_core.specs.BookView.{book_view}
use Rattle.saturation_laws.proofs.CallerLemmas.{event_keeps}
use Rattle.saturation_core.proofs.HandLemmas.{hands_out-seats}
use Rattle.saturation_core.specs.private.Written.{AreThere, events_at}
use Rattle.saturation_core.proofs.JournalLemmas.{events_stay, put_grows_to, settle_then, settle_there, there_stay}
use Rattle.saturation_core.proofs.SettleBook.{on_refusal, one_out, seat_out, put_on, planned_is, ready, settled, settled_nodes, book_keeps, worths_fit, worths_long, nodes_next}
use Rattle.saturation_core.proofs.book.Book.apply.Goals as goal

pub plan_jobs-requires-clause-worths : goal.plan_jobs-requires-clause-worths
plan_jobs-requires-clause-worths g c =
    let r = ready g.S.Semiring.operations g.D.Direction.way g.met.D.Direction.same_candidate (book_view c.self.inside) c.args.self.now c.self.view_is c.args.done.now c.requires c.candidates.ensures.worked
    c.seat-seat.result c.args.done.now.jobs c.args.done.now.candidates c.seat-seat.ensures refl refl in
    subst (λ z. All (Fits (g.S.Semiring.operations z)) c.args.done.now.candidates) (sym c.semiring-semiring.ensures.value)
    (worths_fit g.S.Semiring.operations g.S.Semiring.laws g.D.Direction.way g.met.D.Direction.laws
    (book_view c.self.inside) c.self.invariant.0 c.seat-seat.result c.args.done.now.jobs r.out c.args.done.now.candidates r.worths)

pub plan_jobs-requires-clause-len : goal.plan_jobs-requires-clause-len
plan_jobs-requires-clause-len g c =
    let r = ready g.S.Semiring.operations g.D.Direction.way g.met.D.Direction.same_candidate (book_view c.self.inside) c.args.self.now c.self.view_is c.args.done.now c.requires c.candidates.ensures.worked
    c.seat-seat.result c.args.done.now.jobs c.args.done.now.candidates c.seat-seat.ensures refl refl in
    worths_long g.S.Semiring.operations g.S.Semiring.laws g.D.Direction.way g.met.D.Direction.laws
    (book_view c.self.inside) c.self.invariant.0 c.seat-seat.result c.args.done.now.jobs r.out c.args.done.now.candidates r.worths

pub plan_jobs-requires-clause-kept : goal.plan_jobs-requires-clause-kept
plan_jobs-requires-clause-kept g c =
    subst (λ (f : Found _ _ _). IsKept (g.S.Semiring.operations c.semiring-semiring.result.now) f) (sym c.deref.ensures)
    (subst (λ z. IsKept (g.S.Semiring.operations z) c.self.inside.found.value) (sym c.semiring-semiring.ensures.value)
    (book_keeps g.S.Semiring.operations g.S.Semiring.laws g.D.Direction.way g.met.D.Direction.laws (book_view c.self.inside) c.self.invariant.0))

-- room alone is no change of the book
pub invariant_of-self : goal.invariant_of-self
invariant_of-self g c =
    let b = book_view c.self.inside in
    let same = c.make_room.ensures.state c.self.inside.out.items ∙ ap (λ (f : Found _ _ _). with_hands f c.self.inside.out.items) c.deref_mut-found.ensures.value in
    let spare = ap (λ (f : Found _ _ _). f.transitions.spare) c.deref_mut-found.ensures.value in (
      subst (λ st. IsBook g.S.Semiring.operations g.D.Direction.way (record b { state = st; journal = events_at st.transitions c.self.inside.journal.events })) (sym same) c.self.invariant.0,
      record {
        journal = c.self.invariant.1.journal;
        queue = omega (arith, spare, c.self.invariant.1.queue, c.make_room.ensures.kept);
      },
      c.make_room.ensures.side ∙ ap (λ (f : Found _ _ _). f.graph.side) c.deref_mut-found.ensures.value ∙ c.self.invariant.2,
      subst (λ st. AreThere st.transitions c.self.inside.journal.events) (sym same) c.self.invariant.3,
    )

pub returns-in_err-make_room-clause-err : goal.returns-in_err-make_room-clause-err
returns-in_err-make_room-clause-err g c =
    let b = book_view c.self.inside in
    on_refusal c.from_residual-in_err-make_room.result (ap (λ st. record b { state = st; journal = events_at st.transitions c.self.inside.journal.events }) (c.make_room.ensures.state c.self.inside.out.items ∙ ap (λ (f : Found _ _ _). with_hands f c.self.inside.out.items) c.deref_mut-found.ensures.value) ∙ c.self.view_is)

pub lower_all-requires-clause-nodes : goal.lower_all-requires-clause-nodes
lower_all-requires-clause-nodes g c =
    let r = ready g.S.Semiring.operations g.D.Direction.way g.met.D.Direction.same_candidate (book_view c.self.inside) c.args.self.now c.self.view_is c.args.done.now c.requires c.candidates.ensures.worked
    c.seat-seat.result c.args.done.now.jobs c.args.done.now.candidates c.seat-seat.ensures refl refl in
    let planned = planned_is g.S.Semiring.operations g.D.Direction.way c.self.inside.system.now.semiring c.semiring-semiring.result.now (changes_with c.args.done.now.jobs c.args.done.now.candidates) (length c.self.inside.found.value.graph.nodes)
    c.self.inside.found.value.transitions.transitions c.in_ok-plan.plan
    (c.in_ok-plan.ensures ∙ ap (λ (f : Found _ _ _). plan_of (g.S.Semiring.operations c.semiring-semiring.result.now) (changes_with c.args.done.now.jobs c.args.done.now.candidates) (length f.graph.nodes) f.transitions.transitions) c.deref.ensures)
    c.semiring-semiring.ensures.value in
    subst (λ ns. AreNodesFrom (length ns) c.in_ok-plan.plan) (sym (ap (λ st. st.nodes) (c.make_room.ensures.state []) ∙ ap (λ (f : Found _ _ _). f.graph.nodes) c.deref_mut-found.ensures.value))
    (nodes_next g.S.Semiring.operations g.S.Semiring.laws g.D.Direction.way g.met.D.Direction.laws
    (book_view c.self.inside) c.self.invariant.0 c.seat-seat.result c.args.done.now.jobs r.out c.args.done.now.candidates r.worths
    (length c.self.inside.found.value.graph.nodes) c.in_ok-plan.plan refl planned)

pub settle-requires-clause-seat : goal.settle-requires-clause-seat
settle-requires-clause-seat g c =
    let r = ready g.S.Semiring.operations g.D.Direction.way g.met.D.Direction.same_candidate (book_view c.self.inside) c.args.self.now c.self.view_is c.args.done.now c.requires c.candidates.ensures.worked
    c.seat-seat.result c.args.done.now.jobs c.args.done.now.candidates c.seat-seat.ensures refl refl in
    let seats : length c.self.inside.out.items ≡ 64 = c.self.invariant.0.lock.shape.seats in
    omega (arith, seats, seat_out c.self.inside.out.items c.seat-seat.result c.args.done.now.jobs r.out)

pub settle-requires-clause-room : goal.settle-requires-clause-room
settle-requires-clause-room g c =
    let r = ready g.S.Semiring.operations g.D.Direction.way g.met.D.Direction.same_candidate (book_view c.self.inside) c.args.self.now c.self.view_is c.args.done.now c.requires c.candidates.ensures.worked
    c.seat-seat.result c.args.done.now.jobs c.args.done.now.candidates c.seat-seat.ensures refl refl in
    omega (arith, one_out c.self.inside.out.items c.seat-seat.result c.args.done.now.jobs r.out, c.self.invariant.1.journal)

-- room alone changes nothing that was found
roomy : (g : _) (c : goal.After-put g) → Becomes c.self.inside.found.value (λ st. st) c.make_room.new.self
roomy g c = λ hands. c.make_room.ensures.state hands ∙ ap (λ (f : Found _ _ _). with_hands f hands) c.deref_mut-found.ensures.value

made : (g : _) (c : goal.After-put g) → Makes g.S.Semiring.operations g.D.Direction.way (book_view c.self.inside) (Settle c.seat-seat.result)
    (record (book_view c.self.inside) {
      state = with_hands c.lower_all.new.self c.put.new.out.items;
      journal = events_at c.lower_all.new.self.transitions.transitions c.settle.new.self.events;
    })
made g c =
    let r = ready g.S.Semiring.operations g.D.Direction.way g.met.D.Direction.same_candidate (book_view c.self.inside) c.args.self.now c.self.view_is c.args.done.now c.requires c.candidates.ensures.worked
    c.seat-seat.result c.args.done.now.jobs c.args.done.now.candidates c.seat-seat.ensures refl refl in
    let planned = planned_is g.S.Semiring.operations g.D.Direction.way c.self.inside.system.now.semiring c.semiring-semiring.result.now (changes_with c.args.done.now.jobs c.args.done.now.candidates) (length c.self.inside.found.value.graph.nodes)
    c.self.inside.found.value.transitions.transitions c.in_ok-plan.plan
    (c.in_ok-plan.ensures ∙ ap (λ (f : Found _ _ _). plan_of (g.S.Semiring.operations c.semiring-semiring.result.now) (changes_with c.args.done.now.jobs c.args.done.now.candidates) (length f.graph.nodes) f.transitions.transitions) c.deref.ensures)
    c.semiring-semiring.ensures.value in
    let b = book_view c.self.inside in
    settled g.S.Semiring.operations g.D.Direction.way b c.seat-seat.result c.args.done.now.jobs c.args.done.now.candidates (length c.self.inside.found.value.graph.nodes) c.in_ok-plan.plan
    r.out r.worths refl planned
    c.lower_all.new.self c.put.new.out.items (events_at c.lower_all.new.self.transitions.transitions c.settle.new.self.events)
    (put_on c.in_ok-plan.plan c.self.inside.found.value c.make_room.new.self c.lower_all.new.self (roomy g c) c.lower_all.ensures.state c.self.inside.out.items)
    c.put.ensures
    (settle_then c.lower_all.new.self.transitions.transitions c.self.inside.journal.events c.settle.new.self.events c.seat-seat.result c.settle.ensures.events
    ∙ ap (λ es. es ++ Settle c.seat-seat.result ∷ []) (events_stay c.self.inside.found.value.transitions.transitions c.lower_all.new.self.transitions.transitions (put_grows_to c.in_ok-plan.plan c.self.inside.found.value c.make_room.new.self c.lower_all.new.self (roomy g c) c.lower_all.ensures.state) c.self.inside.journal.events c.self.invariant.3))

pub invariant_of-self-2 : goal.invariant_of-self-2
invariant_of-self-2 g c =
    let r = ready g.S.Semiring.operations g.D.Direction.way g.met.D.Direction.same_candidate (book_view c.self.inside) c.args.self.now c.self.view_is c.args.done.now c.requires c.candidates.ensures.worked
    c.seat-seat.result c.args.done.now.jobs c.args.done.now.candidates c.seat-seat.ensures refl refl in
    let seats : length c.self.inside.out.items ≡ 64 = c.self.invariant.0.lock.shape.seats in
    let one = one_out c.self.inside.out.items c.seat-seat.result c.args.done.now.jobs r.out in
    let now = ap hands_out c.put.ensures in
    let few = hands_out-seats c.self.inside.out.items c.put.new.out.items c.seat-seat.result _ c.put.ensures in (
      event_keeps g.S.Semiring.operations g.S.Semiring.laws g.D.Direction.way g.met.D.Direction.laws
          (book_view c.self.inside) c.self.invariant.0 (Settle c.seat-seat.result) _ (made g c),
      record {
        journal = omega (arith, one, now, c.self.invariant.1.journal, c.settle.ensures.spare);
        queue = omega (arith, few, seats, c.in_ok-make_room.ensures.queue, c.lower_all.ensures.queue);
      },
      c.lower_all.ensures.side ∙ c.make_room.ensures.side ∙ ap (λ (f : Found _ _ _). f.graph.side) c.deref_mut-found.ensures.value ∙ c.self.invariant.2,
      settle_there c.lower_all.new.self.transitions.transitions c.self.inside.journal.events c.settle.new.self.events c.seat-seat.result c.settle.ensures.events
          (there_stay c.self.inside.found.value.transitions.transitions c.lower_all.new.self.transitions.transitions (put_grows_to c.in_ok-plan.plan c.self.inside.found.value c.make_room.new.self c.lower_all.new.self (roomy g c) c.lower_all.ensures.state) c.self.inside.journal.events c.self.invariant.3),
    )

pub returns-clause-settled : goal.returns-clause-settled
returns-clause-settled g c =
    let new : BookValue g.row.S.Denot g.row.S-W.Denot g.row.S-Ret.Denot g.row.D.Denot = record (book_view c.self.inside) {
      state = with_hands c.lower_all.new.self c.put.new.out.items;
      journal = events_at c.lower_all.new.self.transitions.transitions c.settle.new.self.events;
    } in
    subst (λ k. Makes g.S.Semiring.operations g.D.Direction.way c.args.self.now (Settle k) new) c.seat-seat.ensures
    (subst (λ b. Makes g.S.Semiring.operations g.D.Direction.way b (Settle c.seat-seat.result) new) c.self.view_is (made g c))

pub returns-clause-count : goal.returns-clause-count
returns-clause-count g c =
    let b = book_view c.self.inside in
    let was : length c.args.self.now.state.nodes ≡ length b.state.nodes = ap (λ v. length v.state.nodes) (sym c.self.view_is) in
    let all = settled_nodes g.S.Semiring.operations g.D.Direction.way b c.in_ok-plan.plan c.lower_all.new.self
    (put_on c.in_ok-plan.plan c.self.inside.found.value c.make_room.new.self c.lower_all.new.self (roomy g c) c.lower_all.ensures.state c.self.inside.out.items) in
    omega (arith, was, all)

pub plan_jobs-requires-clause-semiring : goal.plan_jobs-requires-clause-semiring
plan_jobs-requires-clause-semiring g c =
    c.semiring-semiring.ensures.value ∙ ap (λ (b : BookValue _ _ _ _). b.system.semiring) c.self.view_is ∙ c.requires.semiring

pub plan_jobs-requires-clause-tell : goal.plan_jobs-requires-clause-tell
plan_jobs-requires-clause-tell g c =
    subst (λ (f : Found _ _ _). StillTell f.transitions.transitions c.args.done.now.jobs c.args.done.now.goals) (sym c.deref.ensures)
    (subst (λ (b : BookValue _ _ _ _). StillTell b.state.transitions c.args.done.now.jobs c.args.done.now.goals) (sym c.self.view_is) c.requires.goals)
