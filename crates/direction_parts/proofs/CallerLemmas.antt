-- What crates above may cite.
pub use Rattle.direction_parts.proofs.EdgeLemmas.{all_from, all_listed, reads_more, reads_to_item, symbol_of}
pub use Rattle.direction_parts.proofs.LabelLemmas.{distinct_once, from_is, is_from_there, label_from}
pub use Rattle.direction_parts.proofs.PassLemmas.{IsByRule, all_rules, from_only, from_rules, in_only, in_rules}
pub use Rattle.direction_parts.proofs.PassLemmas.{once_append, once_by_rule, once_flat_map, once_only}
pub use Rattle.direction_parts.proofs.PassLemmas.{one_symbol_is, two_symbols_are}
pub use Rattle.direction_parts.proofs.WeightLemmas.{IsThere, along_fits, is_there, linear_extend}
pub use Rattle.direction_parts.proofs.WeightLemmas.{linear_extended, weights_at_fit}
pub use Rattle.direction_parts.proofs.MergeLemmas.{by_number-none, by_rule_is, not_there, only_where, none_where}
pub use Rattle.direction_parts.proofs.MergeLemmas.{IsPass, pass_starts, pass_at, pass_here, pass_goes_on}
pub use Rattle.direction_parts.proofs.MergeLemmas.{IsFork, fork_starts, as_pass, fork_at, fork_goes_on, fork_ends}
pub use Rattle.direction_parts.proofs.MergeLemmas.{less_to_fork, less_to_go, pass_ends, passes_at, to_go}
pub use Rattle.direction_parts.proofs.MadeLemmas.{made_by_each, made_by_rule}
