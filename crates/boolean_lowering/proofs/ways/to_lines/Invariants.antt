use Rattle.std.proofs.Common.{◌≡◌, ◌++◌, drop, map}
use Rattle.boolean_machine.specs.Machine.{always}
use Rattle.boolean_lowering.specs.private.Ways.{way_of}
use Rattle.boolean_lowering.proofs.ways.to_lines.Given as goal

abbrev pub invariant-loop-line : goal.invariant-loop-line
invariant-loop-line l = map always l.lines ≡ map way_of l.ways.items ++ map always (drop l.line-index l.lines)
