use Rattle.std.proofs.Common.{◌≡◌, ◌++◌, false, map, drop, nat_lt, codes}
use Rattle.document_forms.specs.Names.{name}
use Rattle.document_writer.specs.private.Rows.{marked}
use Rattle.document_writer.proofs.weights.actions.push_targets.Given as goal

abbrev pub invariant-loop-place : goal.invariant-loop-place
invariant-loop-place l =
    l.out.items ++ marked (codes ", ") (nat_lt 0 l.place) (map (λ p. name l.names p.variable) (drop l.place l.assignments))
    ≡ l.initial.out.items ++ marked (codes ", ") false (map (λ p. name l.names p.variable) l.assignments)
