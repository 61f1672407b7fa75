use Rattle.std.proofs.Common.{◌∙◌}
use Rattle.diagram_ops.proofs.RenamingLemmas.{named_canonical, named_value, named_below}
use Rattle.diagram_ops.proofs.renaming.rename.Goals as goal

pub invariant_of-result : goal.invariant_of-result
invariant_of-result c = record {
  is_canonical = named_canonical c.args.map.now c.nodes.result.now c.args.a.now.nodes c.from_vec.result c.args.a.now.root c.nodes.ensures c.args.a.now.is_canonical c.requires.covers c.requires.rises (c.from_vec.ensures ∙ c.in_ok-nodes.ensures);
}

pub returns-clause-value : goal.returns-clause-value
returns-clause-value c = named_value c.args.map.now c.nodes.result.now c.args.a.now.nodes c.from_vec.result c.args.a.now.root c.nodes.ensures c.args.a.now.is_canonical c.requires.covers c.requires.rises (c.from_vec.ensures ∙ c.in_ok-nodes.ensures)

pub returns-clause-variables : goal.returns-clause-variables
returns-clause-variables c = named_below c.args.map.now c.nodes.result.now c.args.a.now.nodes c.from_vec.result c.nodes.ensures c.requires.covers (c.from_vec.ensures ∙ c.in_ok-nodes.ensures)
