use Rattle.std.proofs.Common.{◌≡◌, ◌+◌, ◌-◌, ◌^◌, ◌≤◌, map, drop}
use Rattle.document_forms.specs.Kinds.{edges}
use Rattle.document_forms.specs.Lawful.{item_count}
use Rattle.document_reader.proofs.EdgeLemmas.{capped}
use Rattle.document_reader.proofs.patterns.has_many_edges.Given as goal

abbrev pub invariant-loop-item : goal.invariant-loop-item
invariant-loop-item l = record {
  from : l.from ≤ l.item-index + 1;
  fits : l.edges ≤ 2 ^ 64 - 1;
  edges : capped (l.edges + edges l.from (map (item_count l.all) (drop l.item-index l.items)))
      ≡ capped (edges 1 (map (item_count l.all) l.items));
}
