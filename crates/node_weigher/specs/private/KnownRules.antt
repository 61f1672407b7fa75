-- What is known of the rules of a system.
use Rattle.std.specs.Prelude.{◌≡◌, ℕ, List, Some, slice_get}
use Rattle.std.specs.List.{AllByRecursion}
use Rattle.pushdown_rules.specs.declared.rule.Rule.{Rule}
use Rattle.relation_laws.specs.Building.{Parts}
use Rattle.relation_weights.specs.RelationNodes.{IsReference, IsReturnBy, relation_at}
use Rattle.relation_weights.specs.declared.rel_map.RelMap.{RelMap}
use Rattle.node_weigher.specs.NodeWeighers.{WeigherOf, nodes_of}
use Rattle.node_weigher.specs.declared.rules.RuleWeight.{RuleWeight}
use Rattle.node_weigher.specs.declared.rules.RuleReturn.{RuleReturn}

-- the reference is that of the weight of its rule
pub record IsRuleWeight (m : WeigherOf) (w : RuleWeight) : Type 0 where
  pub within : IsReference (nodes_of m) w.weight
  pub is : (r : Rule ℕ Parts RelMap) → slice_get m.system.rules w.rule ≡ Some r → relation_at (nodes_of m) w.weight ≡ r.weight

-- the references are those of the return map of its rule
pub record IsRuleReturn (m : WeigherOf) (b : RuleReturn) : Type 0 where
  pub some : (map : RelMap) × IsReturnBy (nodes_of m) map b.by
  pub is : (r : Rule ℕ Parts RelMap) (map : RelMap) → slice_get m.system.rules b.rule ≡ Some r → r.map ≡ Some map → IsReturnBy (nodes_of m) map b.by

-- The references of weights and return maps that are known already.
pub record AreKnownRules (m : WeigherOf) (weights : List RuleWeight) (returns : List RuleReturn) : Type 0 where
  pub of_weights : AllByRecursion (IsRuleWeight m) weights
  pub of_returns : AllByRecursion (IsRuleReturn m) returns
