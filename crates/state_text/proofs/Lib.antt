mod BitLemmas
mod OwnerLemmas
mod StateLemmas
