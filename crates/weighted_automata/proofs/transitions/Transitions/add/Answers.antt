use Rattle.std.proofs.Common.{◌≡◌, true, false, ◌∷◌, ◌++◌, length, sym, ap, ◌∙◌, subst}
use Rattle.std.specs.Prelude.{Some, unwrap_or}
use Rattle.weighted_automata.specs.Places.{has_place}
use Rattle.weighted_automata.specs.Entries.{index_at, lowered, places_of, HasDistinctPlaces}
use Rattle.weighted_automata.specs.private.Index.{AreIndexed}
use Rattle.weighted_automata.proofs.EntryLemmas.{distinct-lowered, places-added, lowered_last, index_at-lowered}
use Rattle.weighted_automata.proofs.AskedLemmas.{asked_left}
use Rattle.weighted_automata.proofs.RoomLemmas.{missed_has, room_kept, room_only, without_only, waits_beside}
use Rattle.weighted_automata.proofs.transitions.Transitions.add.Goals as goal

added : (g : _) (c : goal.In_ok-add g) → c.add.new.entries.members ≡ lowered c.args.place c.args.weight c.args.node c.self.inside.entries.members
added g c = c.in_ok-add.ensures.ok
    ∙ sym (lowered_last c.args.place c.args.weight c.args.node c.self.inside.entries.members (ap (λ v. index_at c.args.place v.transitions) c.self.view_is ∙ c.requires))

pub invariant_of-self-2 : goal.invariant_of-self-2
invariant_of-self-2 g c = (
  subst HasDistinctPlaces (sym (added g c)) (distinct-lowered c.args.place c.args.weight c.args.node c.self.inside.entries.members c.self.invariant.0),
  c.add.ensures.room,
  subst (λ ps. AreIndexed ps c.add.new.index) (sym (ap places_of c.in_ok-add.ensures.ok ∙ places-added c.self.inside.entries.members _))
      (c.in_ok-add.ensures.added (places_of c.self.inside.entries.members) c.self.invariant.2),
  c.add.ensures.rooms,
  asked_left c.args.place c.self.inside.waiting.items c.add.new.waiting.items c.self.inside.asked c.in_ok-add.ensures.left c.self.invariant.4,
)

pub returns-clause-ok : goal.returns-clause-ok
returns-clause-ok g c = added g c ∙ ap (λ v. lowered c.args.place c.args.weight c.args.node v.transitions) c.self.view_is

pub returns-clause-index : goal.returns-clause-index
returns-clause-index g c =
    ap (index_at c.args.place) (added g c)
    ∙ index_at-lowered c.args.place c.args.weight c.args.node c.self.inside.entries.members
    ∙ ap (λ o. Some (unwrap_or o (length c.self.inside.entries.members))) (ap (λ v. index_at c.args.place v.transitions) c.self.view_is ∙ c.requires)
    ∙ ap Some (ap (λ v. length v.transitions) c.self.view_is ∙ sym c.len-k.ensures.len)

pub returns-clause-kept : goal.returns-clause-kept
returns-clause-kept g c = λ z h.
    ap (λ ts. has_place z (places_of ts ++ c.add.new.waiting.items)) (added g c)
    ∙ ap (λ ws. has_place z (places_of (lowered c.args.place c.args.weight c.args.node c.self.inside.entries.members) ++ ws)) c.in_ok-add.ensures.left
    ∙ room_kept c.args.place c.args.weight c.args.node z c.self.inside.entries.members c.self.inside.waiting.items (ap (λ v. has_place z v.room) c.self.view_is ∙ h)

pub returns-clause-only : goal.returns-clause-only
returns-clause-only g c = λ z h.
    ap (λ v. has_place z (c.args.place ∷ v.room)) (sym c.self.view_is)
    ∙ room_only c.args.place c.args.weight c.args.node z c.self.inside.entries.members c.self.inside.waiting.items c.add.new.waiting.items
    (λ e. without_only c.args.place z c.self.inside.waiting.items (sym (ap (has_place z) c.in_ok-add.ensures.left) ∙ e))
    (sym (ap (λ ts. has_place z (places_of ts ++ c.add.new.waiting.items)) (added g c)) ∙ h)

pub returns-in_err-add-clause-room : goal.returns-in_err-add-clause-room
returns-in_err-add-clause-room g c = λ h.
    let f : false ≡ true = c.in_err-add.ensures.waited
    (waits_beside c.args.place (places_of c.self.inside.entries.members) c.self.inside.waiting.items
    (missed_has c.args.place c.self.inside.entries.members (ap (λ v. index_at c.args.place v.transitions) c.self.view_is ∙ c.requires)).0
    (ap (λ v. has_place c.args.place v.room) c.self.view_is ∙ h)) in cc
