use Rattle.std.proofs.Common.{◌≡◌, ◌≤◌, length}
use Rattle.boolean_machine.specs.Machine.{value_for}
use Rattle.boolean_machine.specs.Tests.{all_below, becomes}
use Rattle.boolean_meaning.specs.private.GivenValues.{values_of}
use Rattle.boolean_meaning.specs.private.HeldMoves.{have_got}
use Rattle.boolean_meaning.specs.private.Outcomes.{bit_in}
use Rattle.boolean_meaning.proofs.moving.Assignment.gives_all.Given as goal

abbrev pub decreases-loop-name : goal.decreases-loop-name
decreases-loop-name l = l.name

abbrev pub invariant-loop-name : goal.invariant-loop-name
invariant-loop-name l = record {
  within : l.name ≤ length l.kept;
  rest : have_got l.self.targets.now (values_of l.self.values) l.self.old.now l.kept l.new
      ≡ all_below l.name (λ k. becomes (value_for l.self.targets.now (values_of l.self.values) k) (bit_in l.self.old.now) (bit_in l.kept) k (bit_in l.new k));
}
