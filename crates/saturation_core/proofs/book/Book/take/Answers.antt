use Rattle.std.proofs.Common.{◌≡◌, ◌<◌, ◌≤◌, ◌+◌, [], ◌∷◌, sym, ap, ap₂, ◌∙◌, subst, length, drop, List, arith}
use Rattle.std.specs.Prelude.{MatchOption, IfSome, Option, Some}
use Rattle.weighted_automata.specs.declared.transitions.Entry.{Entry}
use Rattle.weighted_automata.specs.Entries.{index_at}
use Rattle.witness_graph.specs.declared.node.Node.{Node}
use Rattle.saturation_laws.specs.declared.event.Event.TheVariants.{Take}
use Rattle.saturation_laws.specs.declared.job.Job.{Job}
use Rattle.saturation_core.specs.declared.hand.Hand.{Hand}
use Rattle.saturation_laws.specs.States.{hand_at}
use Rattle.saturation_laws.specs.Books.{BookValue, Makes, CanWork}
use Rattle.saturation_laws.specs.Openings.{AreKept}
use Rattle.saturation_laws.specs.Ways.{HaveFitWeights, jobs_of_place, worths_of}
use Rattle.saturation_core.specs.Goals.{goals_of, CanSum}
use Rattle.saturation_core.specs.declared.found.Found.{Found}
use Rattle.saturation_core.specs.BookView.{book_view}
use Rattle.saturation_laws.proofs.CallerLemmas.{book_fits, event_keeps, taken_works, taken}
use Rattle.saturation_core.specs.declared.queued.NumberedPlace.{NumberedPlace}
use Rattle.saturation_core.specs.private.Written.{AreThere, events_at}
use Rattle.saturation_core.proofs.JournalLemmas.{take_then, take_there}
use Rattle.saturation_core.proofs.HandLemmas.{hands_out-seats, hands_out-set, moved, popped}
use Rattle.saturation_core.proofs.SeenLemmas.{sums_begin}
use Rattle.saturation_core.proofs.SettleBook.{book_keeps, on_refusal, taken_worths}
use Rattle.saturation_core.proofs.book.Book.take.Goals as goal

-- no transition changes
stay : (g : _) (c : goal.After-put g) → c.pop.new.self.transitions ≡ c.self.inside.found.value.transitions.transitions
stay g c = c.pop.ensures.transitions ∙ ap (λ (f : Found _ _ _). f.transitions.transitions) c.deref_mut.ensures.value

-- the front is what is taken
front : (g : _) (c : goal.After-put g) → c.self.inside.found.value.transitions.queue ≡ c.in-Some.next.place ∷ drop 1 c.self.inside.found.value.transitions.queue
front g c = subst (λ (f : Found _ _ _). f.transitions.queue ≡ c.in-Some.next.place ∷ drop 1 f.transitions.queue) c.deref.ensures c.in-Some.ensures.place

took : (g : _) (c : goal.After-put g) → (c.self.inside.found.value.transitions.queue ≡ c.in-Some.next.place ∷ c.pop.new.self.queue) × (c.self.inside.found.value.transitions.spare + 1 ≤ c.pop.new.self.spare)
took g c =
    popped (λ (n : NumberedPlace). n.place) c.pop.result c.self.inside.found.value.transitions.queue c.pop.new.self.queue c.in-Some.next.place (c.self.inside.found.value.transitions.spare + 1 ≤ c.pop.new.self.spare) (front g c)
    (subst (λ (f : Found _ _ _). MatchOption c.pop.result (f.transitions.queue ≡ []) (λ n. f.transitions.queue ≡ n.place ∷ c.pop.new.self.queue)) c.deref_mut.ensures.value c.pop.ensures.place)
    (subst (λ (f : Found _ _ _). IfSome c.pop.result (λ _. f.transitions.spare + 1 ≤ c.pop.new.self.spare)) c.deref_mut.ensures.value c.pop.ensures.spare)

-- the number is that of the place
at : (g : _) (c : goal.After-put g) → index_at c.in-Some.next.place c.self.inside.found.value.transitions.transitions ≡ Some c.in-Some.next.number
at g c = subst (λ (f : Found _ _ _). index_at c.in-Some.next.place f.transitions.transitions ≡ Some c.in-Some.next.number) c.deref.ensures c.in-Some.ensures.at

listed : (g : _) (c : goal.After-put g) → c.in_ok-listed-in-Some.listed
    ≡ jobs_of_place g.S.Semiring.operations g.D.Direction.way c.self.inside.direction c.self.inside.system.now c.in-Some.next.place c.self.inside.found.value.transitions.transitions
listed g c =
    c.in_ok-listed-in-Some.ensures
    ∙ ap (λ (f : Found _ _ _). jobs_of_place g.S.Semiring.operations g.D.Direction.way c.self.inside.direction c.self.inside.system.now c.in-Some.next.place f.transitions.transitions) c.deref.ensures

made : (g : _) (c : goal.After-put g) → Makes g.S.Semiring.operations g.D.Direction.way (book_view c.self.inside) (Take c.args.seat c.in-Some.next.place)
    (moved (book_view c.self.inside) c.pop.new.self.transitions c.deref_mut.result.now.graph.nodes c.pop.new.self.queue c.put.new.out.items (events_at c.pop.new.self.transitions c.take.new.self.events))
made g c =
    let b = book_view c.self.inside in
    let seats : length c.self.inside.out.items ≡ 64 = c.self.invariant.0.lock.shape.seats in
    let seat : c.args.seat < 64 = c.requires.seat in
    let within : c.args.seat < length c.self.inside.out.items = omega arith in
    let Made : List (Entry _ _ _) → List Node → Type 0 = λ ts ns. Makes g.S.Semiring.operations g.D.Direction.way b (Take c.args.seat c.in-Some.next.place)
    (moved b ts ns c.pop.new.self.queue c.put.new.out.items (events_at ts c.take.new.self.events)) in
    subst (Made c.pop.new.self.transitions) (sym (ap (λ (f : Found _ _ _). f.graph.nodes) c.deref_mut.ensures.value))
    (subst (λ ts. Made ts b.state.nodes) (sym (stay g c))
    (taken g.S.Semiring.operations g.D.Direction.way (book_view c.self.inside) c.args.seat c.in-Some.next.place
    c.pop.new.self.queue c.put.new.out.items (events_at c.self.inside.found.value.transitions.transitions c.take.new.self.events)
    within
    (ap (λ b. hand_at c.args.seat b.state.hands) c.self.view_is ∙ c.requires.free)
    (took g c).0
    c.in_ok-kept-in-Some.kept
    (c.in_ok-kept-in-Some.ensures ∙ c.in_ok-jobs-in-Some.ensures ∙ listed g c)
    c.put.ensures
    (take_then c.self.inside.found.value.transitions.transitions c.self.inside.journal.events c.take.new.self.events c.args.seat c.in-Some.next.number c.in-Some.next.place (at g c) c.in_ok-take-in-Some.ensures.ok)))

pub invariant_of-self-in-Some : goal.invariant_of-self-in-Some
invariant_of-self-in-Some g c =
    let seats : length c.self.inside.out.items ≡ 64 = c.self.invariant.0.lock.shape.seats in
    let seat : c.args.seat < 64 = c.requires.seat in
    let more = hands_out-set c.self.inside.out.items c.put.new.out.items c.args.seat _ c.put.ensures in
    let few = hands_out-seats c.self.inside.out.items c.put.new.out.items c.args.seat _ c.put.ensures in
    let one = took g c in (
      event_keeps g.S.Semiring.operations g.S.Semiring.laws g.D.Direction.way
          g.met.D.Direction.laws
          (book_view c.self.inside) c.self.invariant.0 (Take c.args.seat c.in-Some.next.place) _ (made g c),
      record {
        journal = omega (arith, few, seats, c.in_ok-take-in-Some.ensures.room);
        queue = omega (arith, more, one.1, c.self.invariant.1.queue);
      },
      ap (λ (f : Found _ _ _). f.graph.side) c.deref_mut.ensures.value ∙ c.self.invariant.2,
      subst (λ ts. AreThere ts c.take.new.self.events) (sym (stay g c))
          (take_there c.self.inside.found.value.transitions.transitions c.self.inside.journal.events c.take.new.self.events c.args.seat c.in-Some.next.number c.in-Some.next.place (at g c) c.in_ok-take-in-Some.ensures.ok c.self.invariant.3),
    )

-- what is listed is what the place gives
listed_at : (g : _) (c : goal.After-put g) → c.as_slice.result.now
    ≡ jobs_of_place g.S.Semiring.operations g.D.Direction.way c.self.inside.direction c.self.inside.system.now c.in-Some.next.place c.self.inside.found.value.transitions.transitions
listed_at g c = c.as_slice.ensures ∙ listed g c

-- and what was seen at the goals is what is there
seen : (g : _) (c : goal.After-put g) → c.in_ok-goals-in-Some.goals
    ≡ goals_of (jobs_of_place g.S.Semiring.operations g.D.Direction.way c.self.inside.direction c.self.inside.system.now c.in-Some.next.place c.self.inside.found.value.transitions.transitions) c.self.inside.found.value.transitions.transitions
seen g c =
    c.in_ok-goals-in-Some.ensures
    ∙ ap (λ js. goals_of js c.list-places.result.now.transitions) (listed_at g c)
    ∙ ap (goals_of (jobs_of_place g.S.Semiring.operations g.D.Direction.way c.self.inside.direction c.self.inside.system.now c.in-Some.next.place c.self.inside.found.value.transitions.transitions))
    (c.list-places.ensures ∙ ap (λ (f : Found _ _ _). f.transitions.transitions) c.deref.ensures)

pub returns-in_ok-take-in-Some-clause-taken : goal.returns-in_ok-take-in-Some-clause-taken
returns-in_ok-take-in-Some-clause-taken g c =
    let new = moved (book_view c.self.inside) c.pop.new.self.transitions c.deref_mut.result.now.graph.nodes c.pop.new.self.queue c.put.new.out.items (events_at c.pop.new.self.transitions c.take.new.self.events) in
    let hand : List (Job _ _ _) → List (Option (Entry _ _ _)) → Hand g.row.S.Denot g.row.S-W.Denot g.row.S-Ret.Denot = λ js gs. record { seat = c.args.seat; jobs = js; goals = gs } in
    let jobs : BookValue g.row.S.Denot g.row.S-W.Denot g.row.S-Ret.Denot g.row.D.Denot → List (Job g.row.S.Denot g.row.S-W.Denot g.row.S-Ret.Denot) =
    λ b. jobs_of_place g.S.Semiring.operations g.D.Direction.way b.direction b.system c.in-Some.next.place b.state.transitions in (
      c.in-Some.next.place,
      subst (λ b. Makes g.S.Semiring.operations g.D.Direction.way b (Take c.args.seat c.in-Some.next.place) new) c.self.view_is (made g c),
      ap₂ hand (c.in_ok-jobs-in-Some.ensures ∙ listed g c) (seen g c) ∙ ap (λ b. hand (jobs b) (goals_of (jobs b) b.state.transitions)) c.self.view_is,
    )

pub list_jobs-requires-clause-weights : goal.list_jobs-requires-clause-weights
list_jobs-requires-clause-weights g c =
    subst (λ (f : Found _ _ _). HaveFitWeights g.S.Semiring.operations c.self.inside.system.now f.transitions.transitions) (sym c.deref.ensures)
    (book_fits g.S.Semiring.operations g.S.Semiring.laws g.D.Direction.way g.met.D.Direction.laws
    (book_view c.self.inside) c.self.invariant.0)

pub list_goals-requires : goal.list_goals-requires
list_goals-requires g c =
    let n = length c.self.inside.found.value.graph.nodes in (
      n,
      subst (λ z. AreKept (g.S.Semiring.operations z) c.list-places.result.now.transitions n) (sym c.semiring-semiring.ensures.value)
          (subst (λ ts. AreKept (g.S.Semiring.operations c.self.inside.system.now.semiring) ts n) (sym (c.list-places.ensures ∙ ap (λ (f : Found _ _ _). f.transitions.transitions) c.deref.ensures))
          (book_keeps g.S.Semiring.operations g.S.Semiring.laws g.D.Direction.way g.met.D.Direction.laws (book_view c.self.inside) c.self.invariant.0)),
    )

pub returns-in_ok-take-in-Some-clause-works : goal.returns-in_ok-take-in-Some-clause-works
returns-in_ok-take-in-Some-clause-works g c =
    let seats : length c.self.inside.out.items ≡ 64 = c.self.invariant.0.lock.shape.seats in
    let seat : c.args.seat < 64 = c.requires.seat in
    let b = book_view c.self.inside in
    let s = g.S.Semiring.operations b.system.semiring in
    let js = c.in_ok-jobs-in-Some.jobs in
    let Made : List (Entry _ _ _) → List Node → Type 0 = λ ts ns. Makes g.S.Semiring.operations g.D.Direction.way b (Take c.args.seat c.in-Some.next.place)
    (moved b ts ns c.pop.new.self.queue c.put.new.out.items (events_at ts c.take.new.self.events)) in
    let stays = subst (Made b.state.transitions) (ap (λ (f : Found _ _ _). f.graph.nodes) c.deref_mut.ensures.value)
    (subst (λ ts. Made ts c.deref_mut.result.now.graph.nodes) (stay g c) (made g c)) in
    let within : c.args.seat < length b.state.hands = omega (arith, seats, seat) in
    let works = taken_works g.S.Semiring.operations g.S.Semiring.laws g.D.Direction.way g.met.D.Direction.laws
    b c.self.invariant.0 c.args.seat c.in-Some.next.place c.pop.new.self.queue c.put.new.out.items (events_at c.self.inside.found.value.transitions.transitions c.take.new.self.events)
    stays within c.in_ok-kept-in-Some.kept js c.put.ensures (sym c.in_ok-kept-in-Some.ensures) in
    let worths = taken_worths g.S.Semiring.operations g.S.Semiring.laws g.D.Direction.way g.met.D.Direction.laws
    b c.self.invariant.0 c.args.seat c.in-Some.next.place b.state.transitions b.state.nodes c.pop.new.self.queue c.put.new.out.items (events_at c.self.inside.found.value.transitions.transitions c.take.new.self.events)
    stays within c.in_ok-kept-in-Some.kept js c.put.ensures (sym c.in_ok-kept-in-Some.ensures) in
    let goals = seen g c ∙ ap (λ ks. goals_of ks b.state.transitions) (sym (c.in_ok-jobs-in-Some.ensures ∙ listed g c)) in
    let sums = sums_begin (g.S.Semiring.laws b.system.semiring) b.state.transitions (length b.state.nodes)
    (book_keeps g.S.Semiring.operations g.S.Semiring.laws g.D.Direction.way g.met.D.Direction.laws b c.self.invariant.0) js c.in_ok-goals-in-Some.goals
    (worths_of g.D.Direction.way b.direction b.system js) goals worths in
    subst (λ (x : BookValue _ _ _ _). CanWork g.S.Semiring.operations g.D.Direction.way x js
    × CanSum (g.S.Semiring.operations x.system.semiring) js c.in_ok-goals-in-Some.goals (worths_of g.D.Direction.way x.direction x.system js)) c.self.view_is (works, sums)

pub returns-in_err-take-in-Some-clause-err : goal.returns-in_err-take-in-Some-clause-err
returns-in_err-take-in-Some-clause-err g c =
    let b = book_view c.self.inside in
    on_refusal c.from_residual-in_err-take-in-Some.result
    (ap (λ es. record b { journal = events_at c.self.inside.found.value.transitions.transitions es }) c.in_err-take-in-Some.ensures.err ∙ c.self.view_is)
