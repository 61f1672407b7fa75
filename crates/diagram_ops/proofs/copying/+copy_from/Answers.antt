use Rattle.std.proofs.Common.{sym, ◌∙◌}
use Rattle.diagram_ops.specs.private.Places.{placed}
use Rattle.diagram_ops.proofs.CopyLemmas.{copies_placed, copies_constant, copies_made}
use Rattle.diagram_ops.proofs.copying.+copy_from.Goals as goal

pub returns-in-Some-clause-copies : goal.returns-in-Some-clause-copies
returns-in-Some-clause-copies t c =
    copies_placed c.args.scratch.now (placed c.args.copy.now.places) c.args.copy.now.nodes.items c.args.reference c.in-Some.place c.requires.copy (sym c.get.ensures ∙ c.in-Some.is)

pub returns-in-None-clause-copies : goal.returns-in-None-clause-copies
returns-in-None-clause-copies t c =
    copies_constant c.args.scratch.now (placed c.args.copy.now.places) c.args.copy.now.nodes.items c.args.reference c.requires.copy c.requires.within
    (sym c.node.ensures.found ∙ c.in-None.is)

pub returns-in_ok-place-in-Some-node-clause-copies : goal.returns-in_ok-place-in-Some-node-clause-copies
returns-in_ok-place-in-Some-node-clause-copies t c =
    copies_made c.args.scratch.now c.node.ensures.reduced (c.one_reference.ensures c.args.scratch.now c.node.ensures.reduced) c.args.reference c.in-Some-node.found (sym c.node.ensures.found ∙ c.in-Some-node.is)
    (placed c.args.copy.now.places) c.args.copy.now.nodes.items
    (placed c.copy_from.new.copy.places) c.copy_from.new.copy.nodes.items
    (placed c.copy_from-in-Some-node.new.copy.places) c.copy_from-in-Some-node.new.copy.nodes.items
    c.in_ok-low-in-Some-node.low c.in_ok-high-in-Some-node.high
    c.in_ok-low-in-Some-node.ensures.copies c.in_ok-high-in-Some-node.ensures.copies
    (sym c.get.ensures ∙ c.in_default.is)
    (placed c.place_node.new.copy.places) c.place_node.new.copy.nodes.items
    c.in_ok-place-in-Some-node.place c.in_ok-place-in-Some-node.ensures.place c.in_ok-place-in-Some-node.ensures.nodes c.in_ok-place-in-Some-node.ensures.places
