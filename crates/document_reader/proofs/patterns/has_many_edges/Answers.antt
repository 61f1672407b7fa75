use Rattle.std.proofs.Common.{◌∙◌, rules, arith}
use Rattle.document_reader.proofs.EdgeLemmas.{edges_step, edges_end, behind_few}
use Rattle.document_reader.proofs.patterns.has_many_edges.Goals as goal

pub starts-requires : goal.starts-requires
starts-requires c = omega (arith, c.loop-item.invariant.from, c.requires, c.loop-item-test.true)

pub loop-item-preserved : goal.loop-item-preserved
loop-item-preserved c = record {
  from = behind_few c.loop-item.from c.loop-item.item-index c.item-item.result.star c.starts_behind-from.result
      c.loop-item.invariant.from c.starts_behind-from.ensures;
  fits = omega (arith, c.saturating_add-edges.ensures);
  edges = edges_step c.args.all c.args.items.now c.loop-item.item-index c.loop-item.from c.loop-item.edges
      c.item-item.result c.starts_behind-from.result c.saturating_add-edges.result c.loop-item-test.true
      c.item-item.is c.starts_behind-from.ensures (search rules)
      ∙ c.loop-item.invariant.edges;
}

pub returns : goal.returns
returns c = edges_end c.args.all c.args.items.now c.loop-item.item-index c.loop-item.from c.loop-item.edges c.loop-item.invariant.fits c.loop-item-test.false c.loop-item.invariant.edges
