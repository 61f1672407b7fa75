use Rattle.diagram_store.proofs.SmallLemmas.{literal_canonical, literal_value, literal_variable}
use Rattle.diagram_store.proofs.diagram.Diagram.literal.Goals as goal

pub of_nodes-requires : goal.of_nodes-requires
of_nodes-requires c = literal_canonical c.args.var

pub returns-clause-value : goal.returns-clause-value
returns-clause-value c = λ bits. literal_value c.args.var c.in_ok-made.made.nodes c.in_ok-made.made.root c.in_ok-made.ensures.root c.in_ok-made.ensures.nodes bits

pub returns-clause-variable : goal.returns-clause-variable
returns-clause-variable c = literal_variable c.args.var c.in_ok-made.made.nodes c.in_ok-made.ensures.nodes
