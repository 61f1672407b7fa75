use Rattle.std.proofs.Common.{sym, ◌∙◌}
use Rattle.diagram_ops.proofs.MadeLemmas.{made_found, made_at}
use Rattle.diagram_ops.proofs.node_table.make_node.Goals as goal

pub unreachable-requires : goal.unreachable-requires
unreachable-requires c = made_found c.args.nodes.now.members c.make.new.self.members c.args.node c.in_ok-make.ensures.members (sym c.find_made.ensures.number ∙ c.in_default.is)

pub returns-clause-made : goal.returns-clause-made
returns-clause-made c =
    made_at c.args.nodes.now.members c.make.new.self.members c.args.node c.in_ok-make.ensures.members c.in-Some.number (sym c.find_made.ensures.number ∙ c.in-Some.is)
