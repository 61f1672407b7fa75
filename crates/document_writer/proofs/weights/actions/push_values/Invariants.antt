use Rattle.std.proofs.Common.{◌≡◌, ◌++◌, false, map, drop, nat_lt, codes}
use Rattle.document_forms.specs.Writing.{value_text}
use Rattle.document_writer.specs.private.Rows.{marked}
use Rattle.document_writer.proofs.weights.actions.push_values.Given as goal

abbrev pub invariant-loop-place : goal.invariant-loop-place
invariant-loop-place l =
    l.out.items ++ marked (codes ", ") (nat_lt 0 l.place) (map (λ p. value_text l.names p.value) (drop l.place l.assignments))
    ≡ l.initial.out.items ++ marked (codes ", ") false (map (λ p. value_text l.names p.value) l.assignments)
