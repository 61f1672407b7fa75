-- What crates above may cite.
pub use Rattle.semiring_laws.proofs.CombinationLemmas.{below_combination, combination-append, combination_fits}
pub use Rattle.semiring_laws.proofs.CombinationLemmas.{combination_of_zeros, fits}
pub use Rattle.semiring_laws.proofs.OrderLemmas.{after_keeps_below, below_each_other, below_itself, below_trans}
pub use Rattle.semiring_laws.proofs.OrderLemmas.{below_zero, combine_below_left, combine_below_right, combine_zero}
pub use Rattle.semiring_laws.proofs.OrderLemmas.{extend_keeps_below, extend_left_keeps_below, extend_right_keeps_below}
pub use Rattle.semiring_laws.proofs.OrderLemmas.{zero_below}
