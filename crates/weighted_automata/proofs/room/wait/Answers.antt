use Rattle.std.proofs.Common.{subst, sym, ap, ◌∙◌}
use Rattle.weighted_automata.specs.private.Index.{AreAsked, HasRoomFor}
use Rattle.weighted_automata.specs.Places.{has_place}
use Rattle.weighted_automata.proofs.AskedLemmas.{asked_before, asked_for_more}
use Rattle.weighted_automata.proofs.WaitingLemmas.{room_for_more}
use Rattle.weighted_automata.proofs.room.wait.Goals as goal

pub returns-clause-rooms : goal.returns-clause-rooms
returns-clause-rooms g c =
    subst (λ ps. HasRoomFor ps c.make_space.new.index) (sym c.in_ok-push_back.ensures.items)
    (room_for_more c.args.waiting.now.items c.args.place c.make_space.new.index (c.make_space.ensures.rooms c.requires.rooms) c.in_ok-make_space.ensures.cells c.in_ok-make_space.ensures.spaces)

pub returns-in_err-push_back-clause-asked : goal.returns-in_err-push_back-clause-asked
returns-in_err-push_back-clause-asked g c = λ p e.
    asked_before c.args.place c.args.asked.now c.make.new.self c.in_ok-make.ensures.members p (c.requires.asked p (sym (ap (has_place p) c.in_err-push_back.ensures.items) ∙ e))

pub returns-clause-asked : goal.returns-clause-asked
returns-clause-asked g c =
    subst (λ ps. AreAsked ps c.make.new.self) (sym c.in_ok-push_back.ensures.items)
    (asked_for_more c.args.place c.args.asked.now c.make.new.self c.in_ok-make.ensures.members c.args.waiting.now.items c.requires.asked)
