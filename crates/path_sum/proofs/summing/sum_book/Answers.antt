use Rattle.std.proofs.Common.{sym}
use Rattle.std.specs.Prelude.{IfOk}
use Rattle.path_sum.specs.Answers.{Shows}
use Rattle.path_sum.specs.Results.{IsSumOver}
use Rattle.path_sum.specs.Saturated.{IsSaturatedAutomaton}
use Rattle.path_sum.proofs.BookLemmas.{book_saturated, moved}
use Rattle.path_sum.proofs.summing.sum_book.Goals as goal

pub sum_shown-requires-clause-automaton : goal.sum_shown-requires-clause-automaton
sum_shown-requires-clause-automaton g c =
    moved (IsSaturatedAutomaton g.S.Semiring.operations g.D.Direction.way) (sym c.system-system.ensures.value) (sym c.direction-direction.ensures)
    (sym c.opening-opening.ensures) (sym c.transitions-transitions.ensures) (sym c.graph-graph.ensures.nodes)
    (book_saturated g.S.Semiring.operations g.S.Semiring.laws g.D.Direction.way g.met.D.Direction.laws c.args.book.now c.system-system.ensures.book c.requires.closed)

pub returns : goal.returns
returns g c =
    moved (λ p d o ts ns. IfOk c.sum_shown.result (Shows c.args.listed (IsSumOver g.S.Semiring.operations g.D.Direction.way p d o ts ns c.args.pattern.now)))
    c.system-system.ensures.value c.direction-direction.ensures c.opening-opening.ensures c.transitions-transitions.ensures c.graph-graph.ensures.nodes c.sum_shown.ensures
