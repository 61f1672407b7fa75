mod Examples
mod KeptLemmas
mod AnswerLemmas
mod RuleLemmas
mod FactLemmas
mod CopyLemmas
mod RelationLemmas
mod ToldLemmas
mod SystemLemmas
pub mod CallerLemmas
