use Rattle.std.proofs.Common.{◌≡◌, ◌++◌, map, take}
use Rattle.document_forms.specs.Writing.{query_text}
use Rattle.document_writer.specs.private.Rows.{lines}
use Rattle.document_writer.proofs.rules.push_queries.Given as goal

abbrev pub invariant-loop-query : goal.invariant-loop-query
invariant-loop-query l = l.out.items ≡ l.initial.out.items ++ lines (map (query_text l.document) (take l.query-index l.document.queries))
