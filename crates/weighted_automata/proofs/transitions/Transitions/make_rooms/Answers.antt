use Rattle.std.proofs.Common.{[], refl, sym, ap, ◌∙◌, inl, inr}
use Rattle.std.proofs.lemmas.Bool.{or_right}
use Rattle.std.proofs.lemmas.List.{append-nil}
use Rattle.weighted_automata.specs.Places.{has_place}
use Rattle.weighted_automata.proofs.RoomLemmas.{has_place-take_more, has_place-append, made_only, then_more}
use Rattle.weighted_automata.proofs.transitions.Transitions.make_rooms.Goals as goal

pub loop-place-init : goal.loop-place-init
loop-place-init g c = (
  refl,
  λ x h. cc,
  λ x h. h,
  λ x h. has_place-append x c.args.places.now c.args.self.now.room ∙ or_right (has_place x c.args.places.now) (has_place x c.args.self.now.room) h,
  ([], sym (append-nil c.args.self.now.room)),
)

pub loop-place-preserved : goal.loop-place-preserved
loop-place-preserved g c = (
  c.in_ok-make_room.ensures.transitions ∙ c.loop-place.invariant.0,
  λ x h. elim (has_place-take_more x c.args.places.now c.loop-place.place-index _ c.loop-place-test.true h) [
    | inl before ↦ c.make_room.ensures.kept x (c.loop-place.invariant.1 x before)
    | inr here ↦ ap (λ p. has_place p c.make_room.new.self.room) (sym here) ∙ c.in_ok-make_room.ensures.named
  ],
  λ x h. c.make_room.ensures.kept x (c.loop-place.invariant.2 x h),
  λ x h. made_only x c.args.places.now c.loop-place.self.room c.args.self.now.room c.loop-place.place-index _ c.loop-place-test.true (c.loop-place.invariant.3 x) (c.make_room.ensures.only x h),
  then_more _ _ _ (c.loop-place.invariant.4) (c.make_room.ensures.more),
)

pub returns-in_err-make_room-clause-only : goal.returns-in_err-make_room-clause-only
returns-in_err-make_room-clause-only g c = λ x h.
    made_only x c.args.places.now c.loop-place.self.room c.args.self.now.room c.loop-place.place-index _ c.loop-place-test.true (c.loop-place.invariant.3 x) (c.make_room.ensures.only x h)

pub returns-in_err-make_room-clause-more : goal.returns-in_err-make_room-clause-more
returns-in_err-make_room-clause-more g c = then_more _ _ _ (c.loop-place.invariant.4) (c.make_room.ensures.more)
