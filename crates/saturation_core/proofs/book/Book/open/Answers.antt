use Rattle.std.proofs.Common.{◌≡◌, sym, ap, ◌∙◌, subst, arith}
use Rattle.saturation_laws.specs.Openings.{opening_state}
use Rattle.saturation_core.specs.declared.found.Found.{Found}
use Rattle.saturation_core.specs.private.Steps.{with_hands}
use Rattle.saturation_core.specs.private.Written.{AreThere, events_at}
use Rattle.saturation_core.proofs.OpeningBook.{begin_is, begun, filled, no_hand_out}
use Rattle.saturation_core.proofs.book.Book.open.Goals as goal

opened : (g : _) (c : goal.After-new-4 g)
    → with_hands c.in_ok-found.found.value c.in_ok-no_hands.field-0.items
    ≡ opening_state (g.S.Semiring.operations c.args.system.now.semiring) (g.D.Direction.way.tables c.args.direction c.args.system.now).side c.args.system.now c.args.opening.edges
opened g c =
    ap (λ (f : Found _ _ _). with_hands f c.in_ok-no_hands.field-0.items) c.in_ok-found.ensures.ok
    ∙ filled (g.S.Semiring.operations c.args.system.now.semiring) (g.S.Semiring.operations c.semiring.result.now) c.args.system.now
    c.args.opening.edges c.as_slice-edges.result.now c.side-side.result (g.D.Direction.way.tables c.args.direction c.args.system.now).side
    c.in_ok-begun.begun c.add_edges.new.self c.add_pops_of.new.self _
    (ap g.S.Semiring.operations c.semiring.ensures.value) c.as_slice-edges.ensures (c.side-side.ensures c.args.system.now)
    c.in_ok-begun.ensures.transitions c.in_ok-begun.ensures.nodes c.in_ok-begun.ensures.queue
    c.in_ok-add_edges.ensures.state c.in_ok-add_pops_of.ensures.state c.in_ok-no_hands.ensures

pub invariant_of-result : goal.invariant_of-result
invariant_of-result g c = (
  begun g.S.Semiring.operations g.S.Semiring.laws g.D.Direction.way g.met.D.Direction.laws
      _ c.semiring.ensures.valid c.requires (opened g c) (ap (events_at c.in_ok-found.found.value.transitions.transitions) c.new-3.ensures),
  let none = no_hand_out c.in_ok-no_hands.field-0.items c.in_ok-no_hands.ensures in
      record {
        journal = omega (arith, none);
        queue = omega (arith, none);
      },
  ap (λ (f : Found _ _ _). f.graph.side) c.in_ok-found.ensures.ok ∙ c.add_pops_of.ensures.side ∙ c.add_edges.ensures.side ∙ c.in_ok-begun.ensures.side ∙ sym (c.side-side.ensures c.args.system.now),
  subst (AreThere c.in_ok-found.found.value.transitions.transitions) (sym c.new-3.ensures) tt,
)

pub returns : goal.returns
returns g c = begin_is c.args.system.now c.args.direction c.args.opening _ _ (events_at c.in_ok-found.found.value.transitions.transitions c.new-3.result.events) (opened g c) (ap (events_at c.in_ok-found.found.value.transitions.transitions) c.new-3.ensures)
