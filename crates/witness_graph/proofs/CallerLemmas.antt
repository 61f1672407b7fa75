-- What crates above may cite.
pub use Rattle.witness_graph.proofs.ListingLemmas.{listing_is, listing_runs, listing_tight}
pub use Rattle.witness_graph.proofs.NodeLemmas.{each_earlier, nodes_push, orderly_from}
pub use Rattle.witness_graph.proofs.RunLemmas.{runs_of-push_new, runs_of-push_old}
pub use Rattle.witness_graph.proofs.ShorterRunLemmas.{is_listing, same_runs}
pub use Rattle.witness_graph.proofs.TightLemmas.{stays_tight}
