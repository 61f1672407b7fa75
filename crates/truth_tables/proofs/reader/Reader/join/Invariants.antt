use Rattle.std.proofs.Common.{vec_len}
use Rattle.truth_tables.proofs.KeptLemmas.{Reaches}
use Rattle.truth_tables.proofs.reader.Reader.join.Given as goal

abbrev pub decreases-loop-top : goal.decreases-loop-top
decreases-loop-top l = vec_len l.self.pending

abbrev pub invariant-loop-top : goal.invariant-loop-top
invariant-loop-top l = Reaches l.limit l.level l.fn.self.pending.items l.fn.self.parts l.fn.operand l.self.pending.items l.self.parts l.joined
