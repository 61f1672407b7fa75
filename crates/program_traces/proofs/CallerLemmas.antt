-- What crates above may cite.
pub use Rattle.program_traces.proofs.PointLemmas.{no_symbol, symbol_there}
