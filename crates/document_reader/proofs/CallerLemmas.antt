-- What crates above may cite.
pub use Rattle.document_reader.proofs.NameLineLemmas.{names_known}
pub use Rattle.document_reader.proofs.SymbolLemmas.{once_again}
