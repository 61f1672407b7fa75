-- What crates above may cite.
pub use Rattle.relation_laws.proofs.BuildingLemmas.{parts_same, turn_kept}
pub use Rattle.relation_laws.proofs.StateLemmas.{agree_same, each_from, each_gives, each_same, new_of_states, old_of_states, states_agree, states_of_bits}
pub use Rattle.relation_laws.proofs.StateLemmas.{same_bit_is, same_bit_itself, same_truth, some_gives, some_of}
pub use Rattle.relation_laws.proofs.PairLemmas.{FitsIn, ReadsSource, combined, extended, nothing, stay}
pub use Rattle.relation_laws.proofs.PairLemmas.{fits_below, identity_reads, is_relation_of, leads_of, leads_reads, parts_are}
pub use Rattle.relation_laws.proofs.PairLemmas.{pairs_same, parts_equal, relation_fits, same_relation}
pub use Rattle.relation_laws.proofs.PairLemmas.{combined_assoc, combined_comm, combined_nothing, combined_same, leads_combined}
pub use Rattle.relation_laws.proofs.PairLemmas.{composition_from, composition_gives, extended_assoc, extended_from, extended_gives}
pub use Rattle.relation_laws.proofs.PairLemmas.{extended_nothing_left, extended_nothing_right, leads_nothing}
pub use Rattle.relation_laws.proofs.PairLemmas.{extended_stay_left, extended_stay_right, leads_stay, stay_is_something}
pub use Rattle.relation_laws.proofs.PairLemmas.{extended-combined_left, extended-combined_right}
pub use Rattle.relation_laws.proofs.PairLemmas.{back_combined, back_from, back_gives, back_nothing}
pub use Rattle.relation_laws.proofs.RankLemmas.{outside_falls, outside_never_rises, outside_nothing}
