use Rattle.std.proofs.Common.{take}
use Rattle.query_answers.specs.private.Answered.{AreAnswered}
use Rattle.query_answers.proofs.book.book_values.Given as goal

abbrev pub invariant-loop-to : goal.invariant-loop-to
invariant-loop-to g l = AreAnswered g.S.Semiring.operations l.system l.from (take l.to-index l.tos) l.values.items
