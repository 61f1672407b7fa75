-- The weights and return maps of a document's rules are such as its semiring takes.
use Rattle.std.proofs.Common.{◌≡◌, ℕ, List, [], ◌∷◌, length, subst}
use Rattle.std.specs.Prelude.{Option, None, Some, IfSome}
use Rattle.std.specs.List.{AllByRecursion}
use Rattle.std.proofs.lemmas.List.Elements.{All-from_recursion, All-weaker}
use Rattle.document_forms.specs.declared.weight.WeightText.{WeightText}
use Rattle.document_forms.specs.declared.weight.WeightsLine.TheVariants.{Relation}
use Rattle.document_forms.specs.declared.document.MapText.{MapText}
use Rattle.document_forms.specs.declared.document.RuleLine.{RuleLine}
use Rattle.document_forms.specs.Documents.{Document}
use Rattle.document_forms.specs.Lawful.{IsDocument, IsRuleOf, IsWeightText, IsMapText}
use Rattle.document_systems.specs.Kinds.{Kind}
use Rattle.document_systems.specs.RelationWeights.{relation_kind, IsRelationMap}
use Rattle.document_systems.specs.Systems.{IsTaken, AreTaken}

module _ {S W Map : Type 0} (kind : Kind S W Map) (s : S) (weights : (t : WeightText) → kind.takes s t) (maps : (m : MapText) → kind.takes_map s m) where
  any_map : (m : Option MapText) → IfSome m (kind.takes_map s)
  any_map None = tt
  any_map (Some m) = maps m

  any_rules : (rs : List RuleLine) → AllByRecursion (IsTaken kind s) rs
  any_rules [] = tt
  any_rules (r ∷ rs) = ((weights r.weight, any_map r.map), any_rules rs)

  -- a semiring that takes all weights and all maps takes the rules of each document
  pub all_taken : (d : Document) → AreTaken kind s d
  all_taken d = All-from_recursion (IsTaken kind s) d.rules (any_rules d.rules)

map_taken : (n : ℕ) (right : List ℕ) (m : Option MapText) → IsMapText Relation n right m → IfSome m (IsRelationMap n)
map_taken n right None is = tt
map_taken n right (Some m) is = (right, is)

-- relations between as many variables as a document has names for take its rules
pub relations_taken : (d : Document) → IsDocument d → d.weights ≡ Relation → AreTaken relation_kind (length d.items) d
relations_taken d is e =
    let n = length d.items in
    All-weaker (IsRuleOf d) (IsTaken relation_kind n) (λ r rule. (
      subst (λ u. IsWeightText u n r.weight) e rule.weight,
      map_taken n r.right r.map (subst (λ u. IsMapText u n r.right r.map) e rule.map),
    )) d.rules is.rules
