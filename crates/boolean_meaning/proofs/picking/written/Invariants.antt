use Rattle.std.proofs.Common.{◌≡◌}
use Rattle.boolean_machine.specs.Picks.{listed, written}
use Rattle.boolean_meaning.specs.private.Outcomes.{bit_in}
use Rattle.boolean_meaning.proofs.picking.written.Given as goal

abbrev pub invariant-loop-name : goal.invariant-loop-name
invariant-loop-name l = l.bits ≡ listed l.name (written l.targets l.new (bit_in l.kept))
