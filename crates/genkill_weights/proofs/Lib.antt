mod MakingLemmas
mod FunctionLemmas
mod EffectLemmas
mod OperationLemmas
mod FoldLemmas
mod WidthLemmas
pub mod CallerLemmas
