mod LinkLemmas
mod LoopLemmas
mod TailLemmas
mod ReadLemmas
mod BeginLemmas
mod GiveLemmas
