pub mod CallerLemmas
mod ActionLemmas
mod DigitLemmas
mod CopyLemmas
mod EachLemmas
mod FactLemmas
mod FormLemmas
mod FrontNameLemmas
mod NamesOnceLemmas
mod NumberedLemmas
mod PairLemmas
mod PieceLemmas
mod ReturnLemmas
mod RuleLemmas
mod TreeLemmas
