use Rattle.std.proofs.Common.{◌≡◌, ◌<◌, [], ◌∷◌, ◌++◌, length, map, sym, ap, ◌∙◌, subst, arith}
use Rattle.std.specs.Prelude.{All}
use Rattle.saturation_laws.specs.declared.event.Event.TheVariants.{Take, Settle}
use Rattle.saturation_laws.specs.States.{change_of, hand_at}
use Rattle.saturation_laws.specs.Openings.{AreKept}
use Rattle.saturation_laws.specs.Ways.{HaveFitWeights, jobs_of_place}
use Rattle.saturation_laws.specs.Books.{Makes}
use Rattle.saturation_core.specs.BookView.{book_view}
use Rattle.saturation_core.specs.declared.found.Found.{Found}
use Rattle.saturation_core.specs.private.Steps.{with_hands, IsFitChange}
use Rattle.saturation_laws.proofs.CallerLemmas.{book_fits, event_keeps}
use Rattle.saturation_core.specs.private.Written.{AreThere, events_at}
use Rattle.saturation_core.proofs.JournalLemmas.{events_stay, jobs_grow_to, settle_then, settle_there, take_then, take_there, there_stay}
use Rattle.saturation_core.proofs.HandLemmas.{moved}
use Rattle.saturation_core.proofs.SettleBook.{book_keeps}
use Rattle.saturation_core.proofs.TurnBook.{nobody_out, hands_meanwhile, meanwhile, took, settled_in_place, book_meanwhile, jobs_change}
use Rattle.saturation_core.proofs.book.Book.turn_alone.Goals as goal

pub apply_place-requires-clause-weights : goal.apply_place-requires-clause-weights
apply_place-requires-clause-weights g c =
    subst (HaveFitWeights g.S.Semiring.operations c.book.inside.system.now) (sym (c.pop.ensures.transitions ∙ ap (λ (f : Found _ _ _). f.transitions.transitions) c.deref_mut-found.ensures.value))
    (book_fits g.S.Semiring.operations g.S.Semiring.laws g.D.Direction.way g.met.D.Direction.laws (book_view c.book.inside) c.book.invariant.0)

pub apply_place-requires-clause-kept : goal.apply_place-requires-clause-kept
apply_place-requires-clause-kept g c =
    let b = book_view c.book.inside in
    subst (λ ts. AreKept (g.S.Semiring.operations b.system.semiring) ts (length c.deref_mut-found.result.now.graph.nodes)) (sym (c.pop.ensures.transitions ∙ ap (λ (f : Found _ _ _). f.transitions.transitions) c.deref_mut-found.ensures.value))
    (subst (λ (f : Found _ _ _). AreKept (g.S.Semiring.operations b.system.semiring) b.state.transitions (length f.graph.nodes)) (sym c.deref_mut-found.ensures.value)
    (book_keeps g.S.Semiring.operations g.S.Semiring.laws g.D.Direction.way g.met.D.Direction.laws (book_view c.book.inside) c.book.invariant.0))

pub apply_place-requires-clause-fit : goal.apply_place-requires-clause-fit
apply_place-requires-clause-fit g c =
    let b = book_view c.book.inside in
    let seats : length c.book.inside.out.items ≡ 64 = c.book.invariant.0.lock.shape.seats in
    let seat : c.args.seat < 64 = c.requires.seat in
    let within : c.args.seat < length c.book.inside.out.items = omega (arith, seats, seat) in
    let none = ap (λ v. hand_at c.args.seat v.state.hands) c.book.view_is ∙ c.requires.free c.args.seat in
    let js = jobs_of_place g.S.Semiring.operations g.D.Direction.way b.direction b.system c.in-Some.next.place c.pop.new.self.transitions in
    let listed = ap (jobs_of_place g.S.Semiring.operations g.D.Direction.way b.direction b.system c.in-Some.next.place) (c.pop.ensures.transitions ∙ ap (λ (f : Found _ _ _). f.transitions.transitions) c.deref_mut-found.ensures.value) in
    let s = g.S.Semiring.operations b.system.semiring in
    subst (λ (f : Found _ _ _). All (IsFitChange s (length f.graph.nodes)) (map (change_of s (g.D.Direction.way.tables b.direction b.system)) js)) (sym c.deref_mut-found.ensures.value)
    (jobs_change g.S.Semiring.operations g.D.Direction.way b c.args.seat c.in-Some.next.place c.pop.new.self.queue js within none (ap (λ (f : Found _ _ _). f.transitions.queue) (sym c.deref_mut-found.ensures.value) ∙ c.in-Some.ensures.place) listed g.S.Semiring.laws g.met.D.Direction.laws c.book.invariant.0)

pub invariant_of-book : goal.invariant_of-book
invariant_of-book g c =
    let b = book_view c.book.inside in
    let seats : length c.book.inside.out.items ≡ 64 = c.book.invariant.0.lock.shape.seats in
    let seat : c.args.seat < 64 = c.requires.seat in
    let within : c.args.seat < length c.book.inside.out.items = omega (arith, seats, seat) in
    let none = ap (λ v. hand_at c.args.seat v.state.hands) c.book.view_is ∙ c.requires.free c.args.seat in
    let js = jobs_of_place g.S.Semiring.operations g.D.Direction.way b.direction b.system c.in-Some.next.place c.pop.new.self.transitions in
    let listed = ap (jobs_of_place g.S.Semiring.operations g.D.Direction.way b.direction b.system c.in-Some.next.place) (c.pop.ensures.transitions ∙ ap (λ (f : Found _ _ _). f.transitions.transitions) c.deref_mut-found.ensures.value) in
    let nobody = nobody_out c.book.inside.out.items (λ k. ap (λ v. hand_at k v.state.hands) c.book.view_is ∙ c.requires.free k) in
    let ts = c.pop.new.self.transitions in
    let there : AreThere ts c.book.inside.journal.events = subst (λ vs. AreThere vs c.book.inside.journal.events) (sym (c.pop.ensures.transitions ∙ ap (λ (f : Found _ _ _). f.transitions.transitions) c.deref_mut-found.ensures.value)) c.book.invariant.3 in
    let grows = (jobs_grow_to (g.S.Semiring.operations b.system.semiring) (g.D.Direction.way.tables b.direction b.system) js (record { transitions = c.pop.new.self; graph = c.deref_mut-found.result.now.graph }) c.apply_place.new.self c.in_ok-apply_place.ensures.state) in
    let settled =
    settled_in_place g.S.Semiring.operations g.D.Direction.way b c.args.seat c.in-Some.next.place c.pop.new.self.queue js within none (ap (λ (f : Found _ _ _). f.transitions.queue) (sym c.deref_mut-found.ensures.value) ∙ c.in-Some.ensures.place) listed
    (record { transitions = c.pop.new.self; graph = c.deref_mut-found.result.now.graph }) c.apply_place.new.self (events_at c.apply_place.new.self.transitions.transitions c.settle.new.self.events)
    (ap (λ (f : Found _ _ _). with_hands (record { transitions = c.pop.new.self; graph = f.graph }) (hands_meanwhile g.S.Semiring.operations g.D.Direction.way b c.args.seat c.in-Some.next.place c.pop.new.self.queue js)) c.deref_mut-found.ensures.value
    ∙ ap (λ ts. (moved b ts b.state.nodes c.pop.new.self.queue (hands_meanwhile g.S.Semiring.operations g.D.Direction.way b c.args.seat c.in-Some.next.place c.pop.new.self.queue js) []).state) (c.pop.ensures.transitions ∙ ap (λ (f : Found _ _ _). f.transitions.transitions) c.deref_mut-found.ensures.value)) (c.in_ok-apply_place.ensures.state (hands_meanwhile g.S.Semiring.operations g.D.Direction.way b c.args.seat c.in-Some.next.place c.pop.new.self.queue js))
    (settle_then c.apply_place.new.self.transitions.transitions c.take.new.self.events c.settle.new.self.events c.args.seat c.settle.ensures.events
    ∙ ap (λ es. es ++ Settle c.args.seat ∷ [])
    (events_stay ts c.apply_place.new.self.transitions.transitions grows c.take.new.self.events (take_there ts c.book.inside.journal.events c.take.new.self.events c.args.seat c.in-Some.next.number c.in-Some.next.place c.in-Some.ensures.at c.in_ok-take.ensures.ok there)
    ∙ take_then ts c.book.inside.journal.events c.take.new.self.events c.args.seat c.in-Some.next.number c.in-Some.next.place c.in-Some.ensures.at c.in_ok-take.ensures.ok ∙ ap (λ vs. events_at vs c.book.inside.journal.events ++ Take c.args.seat c.in-Some.next.place ∷ []) (c.pop.ensures.transitions ∙ ap (λ (f : Found _ _ _). f.transitions.transitions) c.deref_mut-found.ensures.value))) in (
      event_keeps g.S.Semiring.operations g.S.Semiring.laws g.D.Direction.way g.met.D.Direction.laws _
          (book_meanwhile g.S.Semiring.operations g.D.Direction.way b c.args.seat c.in-Some.next.place c.pop.new.self.queue js within none (ap (λ (f : Found _ _ _). f.transitions.queue) (sym c.deref_mut-found.ensures.value) ∙ c.in-Some.ensures.place) listed g.S.Semiring.laws g.met.D.Direction.laws c.book.invariant.0) (Settle c.args.seat) _ settled,
      record { journal = omega (arith, nobody); queue = omega (arith, nobody) },
      c.apply_place.ensures.side ∙ ap (λ (f : Found _ _ _). f.graph.side) c.deref_mut-found.ensures.value ∙ c.book.invariant.2,
      settle_there c.apply_place.new.self.transitions.transitions c.take.new.self.events c.settle.new.self.events c.args.seat c.settle.ensures.events
          (there_stay ts c.apply_place.new.self.transitions.transitions grows c.take.new.self.events (take_there ts c.book.inside.journal.events c.take.new.self.events c.args.seat c.in-Some.next.number c.in-Some.next.place c.in-Some.ensures.at c.in_ok-take.ensures.ok there)),
    )

pub returns : goal.returns
returns g c =
    let b = book_view c.book.inside in
    let seats : length c.book.inside.out.items ≡ 64 = c.book.invariant.0.lock.shape.seats in
    let seat : c.args.seat < 64 = c.requires.seat in
    let within : c.args.seat < length c.book.inside.out.items = omega (arith, seats, seat) in
    let none = ap (λ v. hand_at c.args.seat v.state.hands) c.book.view_is ∙ c.requires.free c.args.seat in
    let js = jobs_of_place g.S.Semiring.operations g.D.Direction.way b.direction b.system c.in-Some.next.place c.pop.new.self.transitions in
    let listed = ap (jobs_of_place g.S.Semiring.operations g.D.Direction.way b.direction b.system c.in-Some.next.place) (c.pop.ensures.transitions ∙ ap (λ (f : Found _ _ _). f.transitions.transitions) c.deref_mut-found.ensures.value) in
    let mid = meanwhile g.S.Semiring.operations g.D.Direction.way b c.args.seat c.in-Some.next.place c.pop.new.self.queue js in
    let ts = c.pop.new.self.transitions in
    let there : AreThere ts c.book.inside.journal.events = subst (λ vs. AreThere vs c.book.inside.journal.events) (sym (c.pop.ensures.transitions ∙ ap (λ (f : Found _ _ _). f.transitions.transitions) c.deref_mut-found.ensures.value)) c.book.invariant.3 in
    let grows = (jobs_grow_to (g.S.Semiring.operations b.system.semiring) (g.D.Direction.way.tables b.direction b.system) js (record { transitions = c.pop.new.self; graph = c.deref_mut-found.result.now.graph }) c.apply_place.new.self c.in_ok-apply_place.ensures.state) in
    let settled =
    settled_in_place g.S.Semiring.operations g.D.Direction.way b c.args.seat c.in-Some.next.place c.pop.new.self.queue js within none (ap (λ (f : Found _ _ _). f.transitions.queue) (sym c.deref_mut-found.ensures.value) ∙ c.in-Some.ensures.place) listed
    (record { transitions = c.pop.new.self; graph = c.deref_mut-found.result.now.graph }) c.apply_place.new.self (events_at c.apply_place.new.self.transitions.transitions c.settle.new.self.events)
    (ap (λ (f : Found _ _ _). with_hands (record { transitions = c.pop.new.self; graph = f.graph }) (hands_meanwhile g.S.Semiring.operations g.D.Direction.way b c.args.seat c.in-Some.next.place c.pop.new.self.queue js)) c.deref_mut-found.ensures.value
    ∙ ap (λ ts. (moved b ts b.state.nodes c.pop.new.self.queue (hands_meanwhile g.S.Semiring.operations g.D.Direction.way b c.args.seat c.in-Some.next.place c.pop.new.self.queue js) []).state) (c.pop.ensures.transitions ∙ ap (λ (f : Found _ _ _). f.transitions.transitions) c.deref_mut-found.ensures.value)) (c.in_ok-apply_place.ensures.state (hands_meanwhile g.S.Semiring.operations g.D.Direction.way b c.args.seat c.in-Some.next.place c.pop.new.self.queue js))
    (settle_then c.apply_place.new.self.transitions.transitions c.take.new.self.events c.settle.new.self.events c.args.seat c.settle.ensures.events
    ∙ ap (λ es. es ++ Settle c.args.seat ∷ [])
    (events_stay ts c.apply_place.new.self.transitions.transitions grows c.take.new.self.events (take_there ts c.book.inside.journal.events c.take.new.self.events c.args.seat c.in-Some.next.number c.in-Some.next.place c.in-Some.ensures.at c.in_ok-take.ensures.ok there)
    ∙ take_then ts c.book.inside.journal.events c.take.new.self.events c.args.seat c.in-Some.next.number c.in-Some.next.place c.in-Some.ensures.at c.in_ok-take.ensures.ok ∙ ap (λ vs. events_at vs c.book.inside.journal.events ++ Take c.args.seat c.in-Some.next.place ∷ []) (c.pop.ensures.transitions ∙ ap (λ (f : Found _ _ _). f.transitions.transitions) c.deref_mut-found.ensures.value))) in
    (c.in-Some.next.place, mid, subst (λ v. Makes g.S.Semiring.operations g.D.Direction.way v (Take c.args.seat c.in-Some.next.place) mid) c.book.view_is (took g.S.Semiring.operations g.D.Direction.way b c.args.seat c.in-Some.next.place c.pop.new.self.queue js within none (ap (λ (f : Found _ _ _). f.transitions.queue) (sym c.deref_mut-found.ensures.value) ∙ c.in-Some.ensures.place) listed), settled)
