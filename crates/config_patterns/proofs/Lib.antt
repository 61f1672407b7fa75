mod SetTestLemmas
mod MemberLemmas
mod PathLemmas
mod PlaceLemmas
mod CountLemmas
mod ItemLemmas
mod SetLemmas
mod RangeLemmas
mod SymbolLemmas
mod SkipLemmas
mod OnceLemmas
mod Examples
pub mod CallerLemmas
