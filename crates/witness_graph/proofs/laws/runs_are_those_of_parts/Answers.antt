use Rattle.witness_graph.specs.declared.node.Node.TheVariants.{Start, Lower}
use Rattle.witness_graph.proofs.ListingLemmas.{runs_of-at, runs_of-append}
use Rattle.witness_graph.proofs.laws.runs_are_those_of_parts.Goals as goal

pub returns-clause-start : goal.returns-clause-start
returns-clause-start c = λ side nodes k all at. runs_of-at side nodes all k Start at

pub returns-clause-lower : goal.returns-clause-lower
returns-clause-lower c = λ side nodes k before rule first second all at. runs_of-at side nodes all k (Lower before rule first second) at

pub returns-clause-kept : goal.returns-clause-kept
returns-clause-kept c = runs_of-append
