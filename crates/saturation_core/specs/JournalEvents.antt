-- Events by the numbers of the transitions that are taken, in the order in which they came, and for how many more there is room.
use Rattle.std.specs.Prelude.{ℕ, List}

pub data NumberedEvent : Type 0 where
  Take : (seat : ℕ) → (number : ℕ) → NumberedEvent
  Settle : (seat : ℕ) → NumberedEvent
  GiveBack : (seat : ℕ) → NumberedEvent

pub record JournalEvents : Type 0 where
  pub events : List NumberedEvent
  pub spare : ℕ
