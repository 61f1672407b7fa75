use Rattle.std.proofs.Common.{length, sym, ap, ◌∙◌, subst, arith}
use Rattle.weighted_automata.specs.private.Index.{HasRoomFor}
use Rattle.weighted_automata.proofs.RoomLemmas.{length-without, without_none, at_refusal}
use Rattle.weighted_automata.proofs.WaitingLemmas.{room_kept_in, room_left, space_left}
use Rattle.weighted_automata.proofs.room.add.Goals as goal

pub returns-then-take_out-clause-rooms : goal.returns-then-take_out-clause-rooms
returns-then-take_out-clause-rooms g c =
    let left = c.take_out.new.waiting.items in
    let here = sym c.if-take_out.ensures.taken in
    room_kept_in left c.args.index.now c.add_waited.new.index c.add_waited.ensures.cells
    (c.add_waited.ensures.spaces (length left) (space_left c.args.entry.place c.args.waiting.now.items left c.args.index.now c.requires.rooms c.take_out.ensures.left here))
    (room_left c.args.entry.place c.args.waiting.now.items left c.args.index.now c.requires.rooms c.take_out.ensures.left here)

pub returns-then-take_out-clause-room : goal.returns-then-take_out-clause-room
returns-then-take_out-clause-room g c =
    omega (arith, ap length c.take_out.ensures.left, length-without c.args.entry.place c.args.waiting.now.items (sym c.if-take_out.ensures.taken), c.requires.room, c.add_waited.ensures.spare)

pub add_new-requires-clause-room : goal.add_new-requires-clause-room
add_new-requires-clause-room g c =
    omega (arith, ap length (c.take_out.ensures.left ∙ without_none c.args.entry.place c.args.waiting.now.items (sym c.if-take_out.ensures.taken)), c.requires.room)

pub add_new-requires-clause-rooms : goal.add_new-requires-clause-rooms
add_new-requires-clause-rooms g c =
    subst (λ ps. HasRoomFor ps c.args.index.now) (sym (c.take_out.ensures.left ∙ without_none c.args.entry.place c.args.waiting.now.items (sym c.if-take_out.ensures.taken))) c.requires.rooms

pub returns-clause-stays : goal.returns-clause-stays
returns-clause-stays g c =
    at_refusal c.add_new.result (c.take_out.ensures.left ∙ without_none c.args.entry.place c.args.waiting.now.items (sym c.if-take_out.ensures.taken))
