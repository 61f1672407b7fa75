-- What crates above may cite.
pub use Rattle.poststar_laws.proofs.LawLemmas.{post_has_sums, post_laws, same_candidates}
pub use Rattle.poststar_laws.proofs.OnceLemmas.{jobs_once}
