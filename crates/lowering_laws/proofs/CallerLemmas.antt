-- What crates above may cite.
pub use Rattle.lowering_laws.proofs.SymbolLemmas.{entry_of_member}
