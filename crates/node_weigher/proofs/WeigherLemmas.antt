-- What stays as nodes are added, and what is known of rules.
use Rattle.std.proofs.Common.{◌≡◌, ℕ, zero, suc, ◌+◌, ◌<◌, Bool, List, [], ◌∷◌, ◌++◌, length, refl, sym, ap, ◌∙◌, subst}
use Rattle.std.specs.Prelude.{Some, None, IsTrue, slice_get}
use Rattle.std.specs.List.{AllByRecursion}
use Rattle.std.proofs.lemmas.Option.{same_Some}
use Rattle.pushdown_rules.specs.Pushdown.{Pushdown}
use Rattle.diagram_ops.specs.NodeTables.{leads_at}
use Rattle.relation_laws.specs.Building.{Parts}
use Rattle.relation_laws.proofs.CallerLemmas.{pairs_same}
use Rattle.relation_weights.specs.RelationNodes.{NodesOf, HasMore, HasReturnParts, IsReturnBy, relation_at}
use Rattle.relation_weights.specs.declared.nodes.ReturnNodes.{ReturnNodes}
use Rattle.relation_weights.specs.declared.nodes.ReturnNodes.TheVariants.{Same, Both}
use Rattle.relation_weights.specs.declared.rel_map.RelMap.{RelMap}
use Rattle.weight_tables.specs.Growth.{Grows}
use Rattle.node_weigher.specs.declared.rules.RuleWeight.{RuleWeight}
use Rattle.node_weigher.specs.declared.rules.RuleReturn.{RuleReturn}
use Rattle.node_weigher.specs.NodeWeighers.{WeigherOf, Knows, nodes_of, worth}
use Rattle.node_weigher.specs.private.KnownRules.{AreKnownRules, IsRuleReturn, IsRuleWeight}

abbrev pub system_of : WeigherOf → Pushdown ℕ Parts RelMap
system_of m = m.system

abbrev pub GrowsTo : WeigherOf → WeigherOf → Type 0
GrowsTo old new = Grows system_of Knows worth old new

pub grows_both : (a b c : WeigherOf) → GrowsTo a b → GrowsTo b c → GrowsTo a c
grows_both a b c one two = record {
  system = two.system ∙ one.system;
  known = λ r w. two.known r (one.known r w);
  stays = λ r w. two.stays r (one.known r w) ∙ one.stays r w;
}

pub grows_none : (a : WeigherOf) → GrowsTo a a
grows_none a = record { system = refl; known = λ r w. w; stays = λ r w. refl }

-- As nodes are added.
module _ (p : Pushdown ℕ Parts RelMap) (old new : NodesOf) (bits : old.bits ≡ p.semiring) (more : HasMore old new) where
  abbrev before : WeigherOf
  before = record { system = p; nodes = old.nodes }

  abbrev after : WeigherOf
  after = record { system = p; nodes = new.nodes }

  pub bits_stay : new.bits ≡ p.semiring
  bits_stay = more.bits ∙ bits

  pub worth_stays : (r : ℕ) → Knows before r → worth after r ≡ worth before r
  worth_stays r w = pairs_same p.semiring (leads_at new.nodes r) (leads_at old.nodes r) (more.stays r w)

  pub more_grows : GrowsTo before after
  more_grows = record { system = refl; known = more.within; stays = worth_stays }

  return_stays : (map : RelMap) (by : ReturnNodes) → IsReturnBy (nodes_of before) map by → IsReturnBy (nodes_of after) map by
  return_stays map Same is = is
  return_stays map (Both moves stays) is = let parts = is.3 in (
    is.0,
    is.1,
    is.2,
    record {
      moves_within = more.within moves parts.moves_within;
      stays_within = more.within stays parts.stays_within;
      moves_lead = λ x y. more.stays moves parts.moves_within x y ∙ parts.moves_lead x y;
      stays_lead = λ x y. more.stays stays parts.stays_within x y ∙ parts.stays_lead x y;
    },
  )

  weights_stay : (ws : List RuleWeight) → AllByRecursion (IsRuleWeight before) ws → AllByRecursion (IsRuleWeight after) ws
  weights_stay [] all = tt
  weights_stay (w ∷ ws) all = (
    record {
      within = more.within w.weight all.0.within;
      is = λ r there. worth_stays w.weight all.0.within ∙ all.0.is r there;
    },
    weights_stay ws all.1,
  )

  returns_stay : (bs : List RuleReturn) → AllByRecursion (IsRuleReturn before) bs → AllByRecursion (IsRuleReturn after) bs
  returns_stay [] all = tt
  returns_stay (b ∷ bs) all = (
    record {
      some = (all.0.some.0, return_stays all.0.some.0 b.by all.0.some.1);
      is = λ r map there with_map. return_stays map b.by (all.0.is r map there with_map);
    },
    returns_stay bs all.1,
  )

  pub rules_stay : (ws : List RuleWeight) (bs : List RuleReturn) → AreKnownRules before ws bs → AreKnownRules after ws bs
  rules_stay ws bs are = record { of_weights = weights_stay ws are.of_weights; of_returns = returns_stay bs are.of_returns }

pub all_append : {X : Type 0} (P : X → Type 0) (xs : List X) (x : X) → AllByRecursion P xs → P x → AllByRecursion P (xs ++ x ∷ [])
all_append P [] x all one = (one, tt)
all_append P (y ∷ xs) x all one = (all.0, all_append P xs x all.1 one)

pub all_at : {X : Type 0} (P : X → Type 0) (xs : List X) (k : ℕ) (x : X) → AllByRecursion P xs → slice_get xs k ≡ Some x → P x
all_at P [] k x all at = cc
all_at P (y ∷ xs) zero x all at = subst P (same_Some y x at) all.0
all_at P (y ∷ xs) (suc k) x all at = all_at P xs k x all.1 at
