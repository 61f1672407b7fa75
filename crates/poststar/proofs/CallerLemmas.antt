-- What crates above may cite.
pub use Rattle.poststar.proofs.FitLemmas.{pattern_fits}
