-- What crates above may cite.
pub use Rattle.program_laws.proofs.ListLemmas.{each_joined, each_more}
