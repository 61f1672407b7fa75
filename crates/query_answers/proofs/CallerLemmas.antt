-- What crates above may cite.
pub use Rattle.query_answers.proofs.ValueLemmas.{at_place}
