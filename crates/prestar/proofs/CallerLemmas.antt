-- What crates above may cite.
pub use Rattle.prestar.proofs.FitLemmas.{pattern_fits}
