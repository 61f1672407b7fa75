-- What crates above may cite.
pub use Rattle.config_patterns.proofs.PathLemmas.{members_read}
pub use Rattle.config_patterns.proofs.SkipLemmas.{edges_are}
pub use Rattle.config_patterns.proofs.CountLemmas.{count_push, finals_push}
