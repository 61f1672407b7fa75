-- What a step makes of two relations.
use Rattle.std.specs.Prelude.{ℕ}
use Rattle.relation_laws.specs.Building.{Parts}
use Rattle.relation_laws.specs.Relations.{leads, relation_of, union, composition}
use Rattle.relation_weights.specs.declared.results.Step.{Step}
use Rattle.relation_weights.specs.declared.results.Step.TheVariants.{Union, Composition}

abbrev pub result_of : ℕ → Step → Parts → Parts → Parts
result_of n Union a b = relation_of n (union (leads a) (leads b))
result_of n Composition a b = relation_of n (composition n (leads a) (leads b))
