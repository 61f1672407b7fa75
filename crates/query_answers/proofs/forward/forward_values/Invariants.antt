use Rattle.std.proofs.Common.{◌≡◌, true, take}
use Rattle.forward_value_search.specs.Search.{IsFinished}
use Rattle.value_tails.specs.Tailing.{IsTailed}
use Rattle.query_answers.specs.private.Answered.{AreAnswered}
use Rattle.query_answers.proofs.forward.forward_values.Given as goal

abbrev pub invariant-loop-to : goal.invariant-loop-to
invariant-loop-to g l =
    let operations = g.S.Semiring.operations in
    (l.tables.system ≡ l.system) × IsFinished operations l.system l.from l.tables × (l.by_tails ≡ true → IsTailed (operations l.tables.system.semiring) l.from l.tables)
    × AreAnswered operations l.system l.from (take l.to-index l.tos) l.values.items
