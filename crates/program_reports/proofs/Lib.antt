mod AskedLemmas
mod GroupLemmas
mod PartLemmas
mod PatternLemmas
mod ServingLemmas
mod TellingLemmas
mod TracingLemmas
