use Rattle.std.proofs.Common.{sym, ap, subst, arith, length}
use Rattle.weighted_automata.specs.Entries.{HasDistinctPlaces, places_of}
use Rattle.weighted_automata.specs.private.Index.{AreAsked, AreIndexed, HasRoomFor}
use Rattle.weighted_automata.proofs.WaitingLemmas.{room_for_none}
use Rattle.weighted_automata.proofs.transitions.Transitions.new.Goals as goal

pub invariant_of-result : goal.invariant_of-result
invariant_of-result g c = (
  subst HasDistinctPlaces (sym (ap (λ v. v.members) c.new.ensures)) tt,
  omega (arith, ap length c.new-3.ensures.items),
  subst (λ ts. AreIndexed (places_of ts) c.new-2.result) (sym (ap (λ v. v.members) c.new.ensures)) c.new-2.ensures.rows,
  subst (λ ps. HasRoomFor ps c.new-2.result) (sym c.new-3.ensures.items) (room_for_none c.new-2.result c.new-2.ensures.spaces),
  subst (λ ps. AreAsked ps c.new-4.result) (sym c.new-3.ensures.items) (λ p e. cc),
)
