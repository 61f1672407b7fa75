mod ListLemmas
mod SlotLemmas
mod JoinLemmas
mod BackLemmas
mod WalkLemmas
mod EndLemmas
mod ProgressLemmas
mod MomentLemmas
