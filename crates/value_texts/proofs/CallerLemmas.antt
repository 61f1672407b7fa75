-- What crates above may cite.
pub use Rattle.value_texts.proofs.AnswerLemmas.{answer_fits}
pub use Rattle.value_texts.proofs.SystemLemmas.{fact_system}
