use Rattle.std.proofs.Common.{◌≡◌, ◌+◌, ◌≤◌, ◌++◌, length}
use Rattle.boolean_machine.specs.Picks.{listed}
use Rattle.boolean_meaning.specs.Bits.{bit_of}
use Rattle.boolean_meaning.proofs.valuation.Valuation.push_bits.Given as goal

abbrev pub decreases-loop-count : goal.decreases-loop-count
decreases-loop-count l = l.count

abbrev pub invariant-loop-count : goal.invariant-loop-count
invariant-loop-count l = record {
  same : l.self ++ listed l.count (bit_of l.number) ≡ l.initial.self ++ listed l.fn.count (bit_of l.fn.number);
  room : length l.self + l.count ≤ 24;
}
