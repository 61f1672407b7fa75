-- What crates above may cite.
pub use Rattle.document_systems.proofs.PatternLemmas.{one_member}
pub use Rattle.document_systems.proofs.RuleLemmas.{is_system}
pub use Rattle.document_systems.proofs.TakenLemmas.{all_taken, relations_taken}
