mod MeetingLemmas
mod DeepLemmas
mod SoundLemmas
mod WalkLemmas
mod StopLemmas
mod TailLemmas
mod SettleLemmas
pub mod CallerLemmas
