use Rattle.std.proofs.Common.{◌≡◌, List, length, sym, ap, ◌∙◌, subst, arith}
use Rattle.std.specs.Prelude.{IsSome, option_map}
use Rattle.weighted_automata.specs.declared.transitions.Entry.{Entry}
use Rattle.weighted_automata.specs.Entries.{entry_at}
use Rattle.witness_graph.specs.declared.node.Node.{Node}
use Rattle.saturation_laws.specs.declared.event.Event.TheVariants.{GiveBack}
use Rattle.saturation_laws.specs.States.{hand_at}
use Rattle.saturation_laws.specs.Books.{Makes}
use Rattle.saturation_laws.specs.Queues.{queued}
use Rattle.saturation_core.specs.declared.found.Found.{Found}
use Rattle.saturation_core.specs.Seats.{hands_out}
use Rattle.saturation_core.specs.BookView.{book_view}
use Rattle.saturation_laws.proofs.CallerLemmas.{event_keeps, given}
use Rattle.saturation_core.specs.private.Written.{AreThere, events_at}
use Rattle.saturation_core.proofs.JournalLemmas.{give_then, give_there}
use Rattle.saturation_core.proofs.HandLemmas.{hands_out-read, moved, place_read, seat_read}
use Rattle.saturation_core.proofs.book.Book.give_back.Goals as goal

pub enqueue-requires-clause-spare : goal.enqueue-requires-clause-spare
enqueue-requires-clause-spare g c =
    let spare = ap (λ (f : Found _ _ _). f.transitions.spare) c.deref_mut.ensures.value in
    omega (arith, spare, hands_out-read c.self.inside.out.items c.args.seat c.in-Some.place (ap (λ hands. option_map (λ h. h.place) (hand_at c.args.seat hands)) (sym c.deref.ensures.value) ∙ sym c.place_out.ensures ∙ c.in-Some.is), c.self.invariant.1.queue)

pub give_back-requires-clause-seat : goal.give_back-requires-clause-seat
give_back-requires-clause-seat g c =
    let seats : length c.self.inside.out.items ≡ 64 = c.self.invariant.0.lock.shape.seats in
    omega (arith, seats, seat_read c.self.inside.out.items c.args.seat c.in-Some.place (ap (λ hands. option_map (λ h. h.place) (hand_at c.args.seat hands)) (sym c.deref.ensures.value) ∙ sym c.place_out.ensures ∙ c.in-Some.is))

pub give_back-requires-clause-room : goal.give_back-requires-clause-room
give_back-requires-clause-room g c = omega (arith, hands_out-read c.self.inside.out.items c.args.seat c.in-Some.place (ap (λ hands. option_map (λ h. h.place) (hand_at c.args.seat hands)) (sym c.deref.ensures.value) ∙ sym c.place_out.ensures ∙ c.in-Some.is), c.self.invariant.1.journal)

pub enqueue-requires-clause-there : goal.enqueue-requires-clause-there
enqueue-requires-clause-there g c =
    let h = place_read c.self.inside.out.items c.args.seat c.in-Some.place (ap (λ hands. option_map (λ h. h.place) (hand_at c.args.seat hands)) (sym c.deref.ensures.value) ∙ sym c.place_out.ensures ∙ c.in-Some.is) in
    subst (λ (f : Found _ _ _). IsSome (entry_at c.in-Some.place f.transitions.transitions)) (sym c.deref_mut.ensures.value)
    (subst (λ x. IsSome (entry_at x c.self.inside.found.value.transitions.transitions)) h.2 (c.self.invariant.0.lock.hands c.args.seat h.0 h.1).place)

-- no transition changes
stay : (g : _) (c : goal.After-put g) → c.enqueue.new.self.transitions ≡ c.self.inside.found.value.transitions.transitions
stay g c = c.enqueue.ensures.transitions ∙ ap (λ (f : Found _ _ _). f.transitions.transitions) c.deref_mut.ensures.value

made : (g : _) (c : goal.After-put g) → Makes g.S.Semiring.operations g.D.Direction.way (book_view c.self.inside) (GiveBack c.args.seat)
    (moved (book_view c.self.inside) c.enqueue.new.self.transitions c.deref_mut.result.now.graph.nodes c.enqueue.new.self.queue c.put.new.out.items (events_at c.enqueue.new.self.transitions c.give_back.new.self.events))
made g c =
    let b = book_view c.self.inside in
    let Made : List (Entry _ _ _) → List Node → Type 0 = λ ts ns. Makes g.S.Semiring.operations g.D.Direction.way b (GiveBack c.args.seat)
    (moved b ts ns c.enqueue.new.self.queue c.put.new.out.items (events_at ts c.give_back.new.self.events)) in
    subst (Made c.enqueue.new.self.transitions) (sym (ap (λ (f : Found _ _ _). f.graph.nodes) c.deref_mut.ensures.value))
    (subst (λ ts. Made ts b.state.nodes) (sym (stay g c))
    (given g.S.Semiring.operations g.D.Direction.way (book_view c.self.inside) c.args.seat c.in-Some.place
    c.enqueue.new.self.queue c.put.new.out.items (events_at c.self.inside.found.value.transitions.transitions c.give_back.new.self.events)
    (ap (λ hands. option_map (λ h. h.place) (hand_at c.args.seat hands)) (sym c.deref.ensures.value) ∙ sym c.place_out.ensures ∙ c.in-Some.is)
    (c.enqueue.ensures.queue ∙ ap (λ (f : Found _ _ _). queued c.in-Some.place f.transitions.queue) c.deref_mut.ensures.value)
    c.put.ensures
    (give_then c.self.inside.found.value.transitions.transitions c.self.inside.journal.events c.give_back.new.self.events c.args.seat c.give_back.ensures.events)))

pub invariant_of-self : goal.invariant_of-self
invariant_of-self g c = (
  event_keeps g.S.Semiring.operations g.S.Semiring.laws g.D.Direction.way g.met.D.Direction.laws
      (book_view c.self.inside) c.self.invariant.0 (GiveBack c.args.seat) _ (made g c),
  let one = hands_out-read c.self.inside.out.items c.args.seat c.in-Some.place (ap (λ hands. option_map (λ h. h.place) (hand_at c.args.seat hands)) (sym c.deref.ensures.value) ∙ sym c.place_out.ensures ∙ c.in-Some.is) in
      let now = ap hands_out c.put.ensures in
      record {
        journal = omega (arith, one, now, c.self.invariant.1.journal, c.give_back.ensures.spare);
        queue = omega (arith, one, now, ap (λ (f : Found _ _ _). f.transitions.spare) c.deref_mut.ensures.value, c.self.invariant.1.queue, c.enqueue.ensures.spare);
      },
  ap (λ (f : Found _ _ _). f.graph.side) c.deref_mut.ensures.value ∙ c.self.invariant.2,
  subst (λ ts. AreThere ts c.give_back.new.self.events) (sym (stay g c))
      (give_there c.self.inside.found.value.transitions.transitions c.self.inside.journal.events c.give_back.new.self.events c.args.seat c.give_back.ensures.events c.self.invariant.3),
)

pub returns-in-Some : goal.returns-in-Some
returns-in-Some g c =
    subst (λ b. Makes g.S.Semiring.operations g.D.Direction.way b (GiveBack c.args.seat)
    (moved (book_view c.self.inside) c.enqueue.new.self.transitions c.deref_mut.result.now.graph.nodes c.enqueue.new.self.queue c.put.new.out.items (events_at c.enqueue.new.self.transitions c.give_back.new.self.events))) c.self.view_is (made g c)
