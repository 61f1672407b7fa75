mod PlaceLemmas
mod IndexLemmas
mod EntryLemmas
mod RoomLemmas
mod WaitingLemmas
mod RowLemmas
mod AskedLemmas
pub mod CallerLemmas
