-- What crates above may cite.
pub use Rattle.boolean_machine.proofs.ActionLemmas.{calls_at_call, call_at, enough_values}
pub use Rattle.boolean_machine.proofs.ListLemmas.{get_front, get_back, get_joined, get_within, get_replicate, get_mapped, get_map}
pub use Rattle.boolean_machine.proofs.MachineExamples.{small, small_is_lawful, failure, fails, trace, loop}
pub use Rattle.boolean_machine.proofs.BlockLemmas.{goes_on}
pub use Rattle.boolean_machine.proofs.ReadingLemmas.{place_once}
pub use Rattle.boolean_machine.proofs.NextLemmas.{next_follows}
pub use Rattle.boolean_machine.proofs.BitLemmas.{below_or, length_listed, bit_listed, bit_global, bit_local, listed_is}
