use Rattle.std.proofs.Common.{sym}
use Rattle.std.specs.Prelude.{slice_index_or}
use Rattle.path_sum.specs.Saturated.{IsSaturatedAutomaton}
use Rattle.path_sum.specs.Values.{IsSaturatedTo}
use Rattle.prestar_laws.specs.Ways.{pre_way}
use Rattle.query_answers.proofs.JointLemmas.{book_saturated, book_saturated_to, moved}
use Rattle.query_answers.proofs.joint.sums.Goals as goal

pub sum_values-requires-clause-automaton : goal.sum_values-requires-clause-automaton
sum_values-requires-clause-automaton g c =
    let operations = g.S.Semiring.operations in
    moved (IsSaturatedAutomaton operations (pre_way operations)) (sym c.system-system.ensures.value) (sym c.direction-direction.ensures)
    (sym c.opening-opening.ensures) (sym c.transitions-transitions.ensures) (sym c.graph.ensures.nodes)
    (book_saturated operations g.S.Semiring.laws c.args.book.now c.system-system.ensures.book c.requires.closed c.requires.bare)

pub sum_values-requires-clause-each : goal.sum_values-requires-clause-each
sum_values-requires-clause-each g c = λ k d within.
    let operations = g.S.Semiring.operations in
    let finals = slice_index_or c.args.finals.now k d in
    moved (λ p w o ts ns. IsSaturatedTo operations (pre_way operations) p w o ts ns finals) (sym c.system-system.ensures.value) (sym c.direction-direction.ensures)
    (sym c.opening-opening.ensures) (sym c.transitions-transitions.ensures) (sym c.graph.ensures.nodes)
    (book_saturated_to operations g.S.Semiring.laws c.args.book.now c.system-system.ensures.book c.requires.closed finals)
