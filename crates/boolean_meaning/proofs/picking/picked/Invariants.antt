use Rattle.std.proofs.Common.{◌≡◌, ℕ, ◌+◌, ◌-◌, ◌++◌, length, drop}
use Rattle.boolean_machine.specs.Picks.{picked, stars}
use Rattle.boolean_meaning.specs.Bits.{bit_of}
use Rattle.boolean_meaning.specs.private.GivenValues.{values_of}
use Rattle.boolean_meaning.specs.private.Outcomes.{bit_in}
use Rattle.boolean_meaning.proofs.picking.picked.Given as goal

abbrev pub decreases-loop-place : goal.decreases-loop-place
decreases-loop-place l = length (values_of l.values) - l.place

abbrev pub invariant-loop-place : goal.invariant-loop-place
invariant-loop-place l = record {
  new : picked (bit_in l.old) (bit_of l.initial.bits) 0 (values_of l.values) ≡ l.new.items ++ picked (bit_in l.old) (bit_of l.bits) 0 (drop l.place (values_of l.values));
  left : (j : ℕ) → bit_of l.bits (stars (drop l.place (values_of l.values)) + j) ≡ bit_of l.initial.bits (stars (values_of l.values) + j);
}
