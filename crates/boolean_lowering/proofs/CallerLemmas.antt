-- What crates above may cite.
pub use Rattle.boolean_lowering.proofs.SpotLemmas.{code_left}
