-- What crates above may cite.
pub use Rattle.boolean_meaning.proofs.NumberLemmas.{number_fits}
pub use Rattle.boolean_meaning.proofs.StateLemmas.{state_back, state_held}
pub use Rattle.boolean_meaning.proofs.ValueLemmas.{length_listed, listed_same}
