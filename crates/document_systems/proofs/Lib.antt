mod Examples
mod PatternLemmas
mod TakenLemmas
mod ActionLemmas
mod LineLemmas
mod ConstantLemmas
mod RowLemmas
mod RelationLemmas
mod RuleLemmas
mod SetLemmas
mod ItemLemmas
pub mod CallerLemmas
