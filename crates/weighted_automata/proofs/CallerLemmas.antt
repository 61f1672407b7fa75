-- What crates above may cite.
pub use Rattle.weighted_automata.proofs.EntryLemmas.{distinct-lowered, entry_at-lowered_other, entry_at-lowered_same}
pub use Rattle.weighted_automata.proofs.EntryLemmas.{entry_at-place, at_index_at, get_at_place, index_at-lowered}
pub use Rattle.weighted_automata.proofs.EntryLemmas.{lowered_last, places-added, places-lowered, stands_once}
pub use Rattle.weighted_automata.proofs.PlaceLemmas.{cases_place, other_place, same_place_from, same_place_is}
pub use Rattle.weighted_automata.proofs.PlaceLemmas.{same_place_itself}
pub use Rattle.weighted_automata.proofs.RowLemmas.{place_test}
