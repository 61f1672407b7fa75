-- What crates above may cite.
pub use Rattle.prestar_laws.proofs.LaterRuleLemmas.{search_takes_rule, rules_still_below, rule_falls}
pub use Rattle.prestar_laws.proofs.LawLemmas.{pre_has_sums, pre_laws, same_candidates}
pub use Rattle.prestar_laws.proofs.OnceLemmas.{jobs_once}
pub use Rattle.prestar_laws.proofs.PlaceLemmas.{above_each, above_most, above_start, length-arrows}
