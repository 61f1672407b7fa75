use Rattle.std.proofs.Common.{◌≡◌, drop}
use Rattle.boolean_machine.specs.Tests.{are_arguments}
use Rattle.boolean_meaning.specs.private.Outcomes.{bit_in}
use Rattle.boolean_meaning.proofs.moving.are_arguments.Given as goal

abbrev pub invariant-loop-place : goal.invariant-loop-place
invariant-loop-place l = are_arguments (bit_in l.old) (drop l.place l.arguments) (drop l.place l.names) ≡ are_arguments (bit_in l.old) l.arguments l.names
