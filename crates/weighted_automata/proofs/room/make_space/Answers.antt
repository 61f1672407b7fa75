use Rattle.std.proofs.Common.{length}
use Rattle.weighted_automata.proofs.WaitingLemmas.{room_kept_in}
use Rattle.weighted_automata.proofs.room.make_space.Goals as goal

pub returns-clause-rooms : goal.returns-clause-rooms
returns-clause-rooms g c = λ h.
    room_kept_in c.args.waiting.now.items c.args.index.now c.reserve-2.new.self c.reserve-2.ensures.cells (c.reserve-2.ensures.spaces (length c.args.waiting.now.items) h.spaces) h
