mod LineLemmas
mod AsciiLemmas
mod TotalLemmas
mod ConcatenationLemmas
mod OpeningLemmas
mod WalkLemmas
mod RoomLemmas
pub mod CallerLemmas
