-- What crates above may cite.
pub use Rattle.rule_reader.proofs.ActionLemmas.{either_faults, told_as, sound_both, values_faults, becomes_test}
pub use Rattle.rule_reader.proofs.EachLemmas.{read_none, piece_more}
pub use Rattle.rule_reader.proofs.NamesOnceLemmas.{any_push, seen_more, not_twice}
pub use Rattle.rule_reader.proofs.TreeLemmas.{sound_parts}
