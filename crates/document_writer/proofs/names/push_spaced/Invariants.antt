use Rattle.std.proofs.Common.{◌≡◌, ◌++◌, false, map, drop, nat_lt, codes}
use Rattle.document_forms.specs.Names.{name}
use Rattle.document_writer.specs.private.Rows.{marked}
use Rattle.document_writer.proofs.names.push_spaced.Given as goal

abbrev pub invariant-loop-place : goal.invariant-loop-place
invariant-loop-place l =
    l.out.items ++ marked (codes " ") (nat_lt 0 l.place) (map (name l.names) (drop l.place l.numbers))
    ≡ l.initial.out.items ++ marked (codes " ") false (map (name l.names) l.numbers)
