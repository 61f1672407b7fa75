use Rattle.std.proofs.Common.{◌≡◌, ◌∷◌, ◌++◌, length, sym, ap, ◌∙◌, subst, arith}
use Rattle.std.specs.Prelude.{Some, unwrap_or}
use Rattle.weighted_automata.specs.Places.{has_place}
use Rattle.weighted_automata.specs.Entries.{index_at, lowered, places_of, HasDistinctPlaces}
use Rattle.weighted_automata.specs.private.Index.{AreIndexed}
use Rattle.weighted_automata.proofs.EntryLemmas.{distinct-lowered, places-lowered, lowered_at, index_at-lowered, found_place, found_within}
use Rattle.weighted_automata.proofs.RoomLemmas.{room_stays, room_only}
use Rattle.weighted_automata.proofs.transitions.Transitions.lower.Goals as goal

-- Where the place is there its entry is written.
replaced : (g : _) (c : goal.After-replace g) → c.replace.new.self.members ≡ lowered c.args.place c.args.weight c.args.node c.self.inside.entries.members
replaced g c = c.replace.ensures.members
    ∙ sym (lowered_at c.args.place c.args.weight c.args.node c.self.inside.entries.members c.in-Some.k (ap (λ v. index_at c.args.place v.transitions) c.self.view_is ∙ sym c.find.ensures.index ∙ c.in-Some.is))

pub invariant_of-self : goal.invariant_of-self
invariant_of-self g c = (
  subst HasDistinctPlaces (sym (replaced g c)) (distinct-lowered c.args.place c.args.weight c.args.node c.self.inside.entries.members c.self.invariant.0),
  omega (arith, c.replace.ensures.spare, c.self.invariant.1),
  subst (λ ps. AreIndexed ps c.self.inside.index)
      (sym (ap places_of (replaced g c)
      ∙ places-lowered c.args.place c.args.weight c.args.node c.self.inside.entries.members c.in-Some.k (ap (λ v. index_at c.args.place v.transitions) c.self.view_is ∙ sym c.find.ensures.index ∙ c.in-Some.is)))
      c.self.invariant.2,
  c.self.invariant.3,
  c.self.invariant.4,
)

pub returns-in-Some-clause-ok : goal.returns-in-Some-clause-ok
returns-in-Some-clause-ok g c = replaced g c ∙ ap (λ v. lowered c.args.place c.args.weight c.args.node v.transitions) c.self.view_is

pub returns-in-Some-clause-index : goal.returns-in-Some-clause-index
returns-in-Some-clause-index g c =
    ap (index_at c.args.place) (replaced g c)
    ∙ index_at-lowered c.args.place c.args.weight c.args.node c.self.inside.entries.members
    ∙ ap (λ o. Some (unwrap_or o (length c.self.inside.entries.members))) (ap (λ v. index_at c.args.place v.transitions) c.self.view_is ∙ sym c.find.ensures.index ∙ c.in-Some.is)

pub returns-in-Some-clause-kept : goal.returns-in-Some-clause-kept
returns-in-Some-clause-kept g c = λ z h.
    ap (λ ts. has_place z (places_of ts ++ c.self.inside.waiting.items)) (replaced g c)
    ∙ room_stays c.args.place c.args.weight c.args.node z c.self.inside.entries.members c.self.inside.waiting.items (ap (λ v. has_place z v.room) c.self.view_is ∙ h)

pub returns-in-Some-clause-only : goal.returns-in-Some-clause-only
returns-in-Some-clause-only g c = λ z h.
    ap (λ v. has_place z (c.args.place ∷ v.room)) (sym c.self.view_is)
    ∙ room_only c.args.place c.args.weight c.args.node z c.self.inside.entries.members c.self.inside.waiting.items c.self.inside.waiting.items (λ e. e)
    (sym (ap (λ ts. has_place z (places_of ts ++ c.self.inside.waiting.items)) (replaced g c)) ∙ h)

pub replace-requires-clause-number : goal.replace-requires-clause-number
replace-requires-clause-number g c =
    found_within c.args.place c.self.inside.entries.members c.in-Some.k (ap (λ v. index_at c.args.place v.transitions) c.self.view_is ∙ sym c.in-Some.ensures.index)

pub replace-requires-clause-key : goal.replace-requires-clause-key
replace-requires-clause-key g c = λ t there.
    sym (found_place c.args.place c.self.inside.entries.members c.in-Some.k (ap (λ v. index_at c.args.place v.transitions) c.self.view_is ∙ sym c.in-Some.ensures.index) t there)
