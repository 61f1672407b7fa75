use Rattle.std.proofs.Common.{length}
use Rattle.truth_tables.specs.private.Kept.{IsBegun}
use Rattle.truth_tables.proofs.reading.build.Given as goal

abbrev pub decreases-loop-lexeme : goal.decreases-loop-lexeme
decreases-loop-lexeme l = length l.left

abbrev pub invariant-loop-lexeme : goal.invariant-loop-lexeme
invariant-loop-lexeme l = IsBegun l.limit l.fn.words l.position l.place l.left l.reader.pending.items l.reader.parts
