-- What crates above may cite.
pub use Rattle.saturation_laws.proofs.ApplyChange.{Grows, IsSoundChange, IsSoundState, change_fits}
pub use Rattle.saturation_laws.proofs.ApplyChange.{entry_fits, tight_same, weights_fit}
pub use Rattle.saturation_laws.proofs.BookFields.{after, given, indexed, none_at_all, none_more}
pub use Rattle.saturation_laws.proofs.BookFields.{not_some, some_there, taken}
pub use Rattle.saturation_laws.proofs.BookInvariant.{book_fits, book_from, book_takes, book_works}
pub use Rattle.saturation_laws.proofs.BookInvariant.{closed_applies, event_keeps, taken_works}
pub use Rattle.saturation_laws.proofs.CombinationLemmas.{IsLinear, after_rule, all_map, all_pairs}
pub use Rattle.saturation_laws.proofs.CombinationLemmas.{bilinear, linear, then_empty}
pub use Rattle.saturation_laws.proofs.EventsKeepBound.{Counts, apply_counts, counts_further}
pub use Rattle.saturation_laws.proofs.EventsKeepBound.{counts_itself}
pub use Rattle.saturation_laws.proofs.EventsKeepInvariant.{each_or_some, job_sound}
pub use Rattle.saturation_laws.proofs.ListMembers.{from_filter, from_flat_map, from_map, from_range}
pub use Rattle.saturation_laws.proofs.ListMembers.{in_filter, in_flat_map, in_map, in_present}
pub use Rattle.saturation_laws.proofs.ListMembers.{in_range, length-flat_map_of, present_once}
pub use Rattle.saturation_laws.proofs.OpeningState.{none_out, opening_fits}
pub use Rattle.saturation_laws.proofs.OpeningWeights.{edges_fit, edges_one, entry_in, in_right}
pub use Rattle.saturation_laws.proofs.OpeningWeights.{opened_below, opening_edges, opening_pops}
pub use Rattle.saturation_laws.proofs.OpeningWeights.{opening_weights_fit}
pub use Rattle.saturation_laws.proofs.QueueLemmas.{all_append, get_push, has_place_is, in_append}
pub use Rattle.saturation_laws.proofs.QueueLemmas.{in_left, in_queued, once_queued, queued_cases, queued_keeps}
pub use Rattle.saturation_laws.proofs.ReplayLemmas.{others_leave, replay_append, step_leaves}
pub use Rattle.saturation_laws.proofs.SearchLemmas.{search_applies, search_begun, search_falls}
pub use Rattle.saturation_laws.proofs.SearchLemmas.{search_turns}
pub use Rattle.saturation_laws.proofs.SettleState.{apply_keeps, grows_further, grows_itself}
pub use Rattle.saturation_laws.proofs.ValueLemmas.{worth_fits}
