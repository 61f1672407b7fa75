use Rattle.std.proofs.Common.{rules, ◌+◌, ◌≤◌, length}
use Rattle.weighted_automata.proofs.WaitingLemmas.{fewer_spaces, room_kept_in}
use Rattle.weighted_automata.proofs.room.add_new.Goals as goal

pub returns-in_err-reserve-clause-rooms : goal.returns-in_err-reserve-clause-rooms
returns-in_err-reserve-clause-rooms g c =
    room_kept_in c.args.waiting.now.items c.args.index.now c.reserve.new.self c.reserve.ensures.cells
    (c.reserve.ensures.spaces (length c.args.waiting.now.items) c.requires.rooms.spaces) c.requires.rooms

pub returns-in_err-append-clause-rooms : goal.returns-in_err-append-clause-rooms
returns-in_err-append-clause-rooms g c =
    room_kept_in c.args.waiting.now.items c.args.index.now c.reserve.new.self c.reserve.ensures.cells
    (c.reserve.ensures.spaces (length c.args.waiting.now.items) c.requires.rooms.spaces) c.requires.rooms

wide : (g : _) (c : goal.After-add g) → length c.args.waiting.now.items + 1 ≤ c.in_ok-wanted.wanted
wide g c = search rules

pub returns-clause-rooms : goal.returns-clause-rooms
returns-clause-rooms g c =
    let waiting = c.args.waiting.now.items in
    room_kept_in waiting c.args.index.now c.add.new.self (λ p had. c.add.ensures.cells p (c.reserve.ensures.cells p had))
    (c.add.ensures.spaces (length waiting) (fewer_spaces (length waiting + 1) c.in_ok-wanted.wanted c.reserve.new.self (wide g c) c.in_ok-reserve.ensures.space)) c.requires.rooms
