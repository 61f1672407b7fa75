use Rattle.std.proofs.Common.{◌≡◌, take}
use Rattle.document_systems.specs.FactWeights.{facts_behind}
use Rattle.document_systems.proofs.facts.facts_behind.Given as goal

abbrev pub invariant-loop-sign : goal.invariant-loop-sign
invariant-loop-sign l = l.facts.items ≡ facts_behind l.plus (take l.sign-index l.signs)
