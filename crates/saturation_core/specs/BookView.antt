-- What a book is seen as, and the room that it keeps.
use Rattle.std.specs.Prelude.{◌≤◌}
use Rattle.saturation_core.specs.declared.book.Book.TheInside.{Inside}
use Rattle.saturation_laws.specs.Books.{BookValue}
use Rattle.saturation_core.specs.Seats.{hands_out}
use Rattle.saturation_core.specs.private.Written.{events_at}

abbrev pub book_view : {S D W Map : Type 0} → Inside S D W Map → BookValue S W Map D
book_view b = record {
  system = b.system.now;
  direction = b.direction;
  opening = b.opening;
  state = record { transitions = b.found.value.transitions.transitions; nodes = b.found.value.graph.nodes; queue = b.found.value.transitions.queue; hands = b.out.items };
  journal = events_at b.found.value.transitions.transitions b.journal.events;
}

-- Each hand that is out can be given back without memory.
pub record HasRoom {S D W Map : Type 0} (b : Inside S D W Map) : Type 0 where
  pub journal : hands_out b.out.items ≤ b.journal.spare
  pub queue : hands_out b.out.items ≤ b.found.value.transitions.spare
