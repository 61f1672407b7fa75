-- What crates above may cite.
pub use Rattle.pattern_openings.proofs.EdgeLemmas.{edge_is, final_is_state, last_is_final}
pub use Rattle.pattern_openings.proofs.EdgeLemmas.{opening_edge, opening_final}
pub use Rattle.pattern_openings.proofs.JointLemmas.{joint_edge, IsLaterEdge, later_edge}
pub use Rattle.pattern_openings.proofs.ReadLemmas.{is_final}
