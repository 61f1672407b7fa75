-- What crates above may cite.
pub use Rattle.seat_lock.proofs.ClientLemmas.{gave-new, each-own, grown-by, grown-none, grown-or, seen-grows, only-newcomers}
pub use Rattle.seat_lock.proofs.Lists.{own-after, each-map, each-both, each-append, among_or}
pub use Rattle.seat_lock.proofs.Lists.{among-each, filter-none, prefix-self}
