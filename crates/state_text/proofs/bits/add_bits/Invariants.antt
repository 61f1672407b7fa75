use Rattle.std.proofs.Common.{◌≡◌, ◌+◌, ◌++◌, ℕ, length}
use Rattle.boolean_machine.specs.Picks.{listed}
use Rattle.boolean_meaning.specs.Bits.{bit_of}
use Rattle.state_text.specs.States.{bits_text}
use Rattle.state_text.proofs.bits.add_bits.Given as goal

abbrev pub decreases-loop-name : goal.decreases-loop-name
decreases-loop-name l = length l.left

abbrev pub invariant-loop-name : goal.invariant-loop-name
invariant-loop-name l = record {
  text : l.text.items ++ bits_text l.left (listed (length l.left) (bit_of l.rest)) ≡ l.fn.text.items ++ bits_text l.fn.names (listed (length l.fn.names) (bit_of l.fn.number));
  rest : (k : ℕ) → bit_of l.rest (length l.left + k) ≡ bit_of l.fn.number (length l.fn.names + k);
}
