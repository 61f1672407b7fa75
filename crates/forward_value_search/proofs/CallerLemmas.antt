-- What crates above may cite.
pub use Rattle.forward_value_search.proofs.NumberLemmas.{item_number, CalleeIs, callee_is, callee_number, one_source, goes_there}
pub use Rattle.forward_value_search.proofs.GiveLemmas.{enters_by, head_by}
