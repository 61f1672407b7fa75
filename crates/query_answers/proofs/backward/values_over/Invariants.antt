use Rattle.std.proofs.Common.{take}
use Rattle.query_answers.specs.private.Closed.{IsClosedOver}
use Rattle.query_answers.specs.private.Answered.{AreAnswered}
use Rattle.query_answers.proofs.backward.values_over.Given as goal

abbrev pub invariant-loop-to : goal.invariant-loop-to
invariant-loop-to g l =
    let operations = g.S.Semiring.operations in
    let p = l.fn.tables.system in
    IsClosedOver operations p l.tables × AreAnswered operations p l.from (take l.to-index l.tos) l.values.items
