use Rattle.semiring_laws.specs.Semiring.{Fits}
use Rattle.relation_weights.specs.Relations.{relation_operations}
use Rattle.tests_weights.proofs.relations.repeated.Given as goal

abbrev pub invariant-loop : goal.invariant-loop
invariant-loop l = Fits (relation_operations l.relations) l.all
