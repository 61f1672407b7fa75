-- What crates above may cite.
pub use Rattle.walk_pairs.proofs.LoweringLemmas.{AllFit, none_lowered, one_lowered, lowered_then, lowered_wider, lowered_all_fit, lowered_falls, lowered_counts, lowered_all_turns, lowered_holds, one_below}
pub use Rattle.walk_pairs.proofs.PairLemmas.{pair_parts, stages_apart, same_layer, none_pairs, pairs_then, pairs_wider, one_pair, pairs_fit, below_later}
pub use Rattle.walk_pairs.proofs.FallLemmas.{worth_fits, ways_fit}
pub use Rattle.walk_pairs.proofs.ReadLemmas.{hand_below, stands_comes, skip_comes, comes_edge, comes_final, readings_read, readings_end, pair_kept, before_kept, state_kept, skip_kept, edge_above}
pub use Rattle.walk_pairs.proofs.GivenLemmas.{worth_stays, on_made, on_met}
pub use Rattle.walk_pairs.proofs.WayLemmas.{edge_from, edge_to}
pub use Rattle.walk_pairs.proofs.FallLemmas.{fall_fits}
