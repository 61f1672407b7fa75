use Rattle.std.proofs.Common.{sym, ◌∙◌}
use Rattle.std.specs.Prelude.{None, Some}
use Rattle.diagram_store.specs.Meaning.{bits_of}
use Rattle.diagram_store.proofs.NodeLemmas.{node_found}
use Rattle.diagram_store.proofs.ValueLemmas.{value_of_high, value_of_low, value_at_end}
use Rattle.diagram_store.proofs.diagram.Diagram.value.Goals as goal

pub loop-found-preserved-then-bits-found : goal.loop-found-preserved-then-bits-found
loop-found-preserved-then-bits-found c =
    sym (value_of_high c.args.self.now.nodes c.args.self.now.is_canonical.reduced c.loop-found.at c.in-Some.found (bits_of c.args.bits.now)
    (node_found c.as_slice.result.now c.args.self.now.nodes c.node.result (Some c.in-Some.found) c.loop-found.at c.as_slice.ensures c.node.ensures c.in-Some.is)
    c.if-bits-found.true)
    ∙ c.loop-found.invariant

pub loop-found-preserved : goal.loop-found-preserved
loop-found-preserved c =
    sym (value_of_low c.args.self.now.nodes c.args.self.now.is_canonical.reduced c.loop-found.at c.in-Some.found (bits_of c.args.bits.now)
    (node_found c.as_slice.result.now c.args.self.now.nodes c.node.result (Some c.in-Some.found) c.loop-found.at c.as_slice.ensures c.node.ensures c.in-Some.is)
    c.if-bits-found.false)
    ∙ c.loop-found.invariant

pub returns : goal.returns
returns c =
    sym (value_at_end c.args.self.now.nodes c.loop-found.at (bits_of c.args.bits.now)
    (node_found c.as_slice.result.now c.args.self.now.nodes c.node.result None c.loop-found.at c.as_slice.ensures c.node.ensures c.in_default.is))
    ∙ c.loop-found.invariant
