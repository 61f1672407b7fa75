-- What crates above may cite.
pub use Rattle.program_tables.proofs.TableLemmas.{flat_with, params_names}
