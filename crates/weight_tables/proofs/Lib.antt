mod FitLemmas
mod EntryLemmas
mod TurnLemmas
mod RowLemmas
mod MarkLemmas
mod CellLemmas
mod ValueLemmas
mod LayerLemmas
mod RenewalLemmas
mod ListLemmas
mod IndexLemmas
mod BoundLemmas
pub mod CallerLemmas
