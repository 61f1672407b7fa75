-- What crates above may cite.
pub use Rattle.weight_tables.proofs.EntryLemmas.{KeepPlaces, places_stay, places_then, index_place, index_there}
pub use Rattle.weight_tables.proofs.EntryLemmas.{settled_of, none_weight, weight_at_index, settled_or_none, none_settled, all_settled, place_fits, taken_weight, taken_settled, taken_places}
pub use Rattle.weight_tables.proofs.EntryLemmas.{lowered_weight_here, lowered_settled_here, lowered_weight_other, lowered_settled_other, lowered_places}
pub use Rattle.weight_tables.proofs.TurnLemmas.{lowered_turns, taken_turns}
pub use Rattle.weight_tables.proofs.RowLemmas.{none_from, before_from, IsRowWalk, to_go, walk_starts, walk_at, walk_within, walk_goes_on, walk_ends, less_to_go}
