pub mod CallerLemmas
mod ShownLemmas
mod WidthLemmas
pub mod PointLemmas
mod FrameLemmas
mod WayLemmas
mod TraceLemmas
mod FirstLemmas
