-- What the weights and return maps of a document have, the rules of its system have.
use Rattle.std.proofs.Common.{◌≡◌, ℕ, zero, suc, Bool, true, false, cond, List, [], ◌∷◌, length, map, subst}
use Rattle.std.specs.Prelude.{Option, None, Some, IfSome, option_map, unwrap_or, slice_get, nat_eq}
use Rattle.std.specs.List.{AllByRecursion}
use Rattle.std.proofs.lemmas.Option.{same_Some}
use Rattle.std.proofs.lemmas.List.Elements.{recursion_from_All}
use Rattle.pushdown_rules.specs.Pushdown.{map_of}
use Rattle.pushdown_rules.specs.declared.rule.Rule.{Rule}
use Rattle.document_forms.specs.declared.weight.WeightsLine.{WeightsLine}
use Rattle.document_forms.specs.declared.weight.WeightText.{WeightText}
use Rattle.document_forms.specs.declared.document.MapText.{MapText}
use Rattle.document_forms.specs.declared.document.RuleLine.{RuleLine}
use Rattle.document_forms.specs.Documents.{Document}
use Rattle.document_forms.specs.Lawful.{IsDocument, IsRuleOf, IsWeightText, IsPushMap, IsMapText}
use Rattle.document_systems.specs.Kinds.{Kind}
use Rattle.document_systems.specs.Systems.{rule_of, system_of}
use Rattle.value_texts.proofs.KeptLemmas.{RuleHas}

module _ {S W Map : Type 0} (kind : Kind S W Map) (s : S) (P : W → Type 0) (Q : Map → Type 0) (plain : Q (kind.operations s).plain) (u : WeightsLine) (items : ℕ)
    (weights : (t : WeightText) → IsWeightText u items t → P (kind.weight s t)) (maps : (right : List ℕ) (m : MapText) → IsPushMap u items right m → Q (kind.map s m)) where
  or_plain : (right : List ℕ) (m : Option MapText) → IsMapText u items right m → Q (unwrap_or (option_map (kind.map s) m) (kind.operations s).plain)
  or_plain right None is = plain
  or_plain right (Some m) is = maps right m is

  map_has : (right : List ℕ) (m : Option MapText) → IsMapText u items right m → IfSome (map_of (kind.operations s) right (option_map (kind.map s) m)) Q
  map_has right m is = go (nat_eq (length right) 2)
    where
      go : (b : Bool) → IfSome (cond b (Some (unwrap_or (option_map (kind.map s) m) (kind.operations s).plain)) None) Q
      go true = or_plain right m is
      go false = tt

  rule_has : (r : RuleLine) → IsWeightText u items r.weight → IsMapText u items r.right r.map → RuleHas P Q (rule_of kind s r)
  rule_has r weight is = (weights r.weight weight, map_has r.right r.map is)

  lines_have : (d : Document) → d.weights ≡ u → length d.items ≡ items → (rs : List RuleLine) → AllByRecursion (IsRuleOf d) rs
      → (k : ℕ) (r : Rule S W Map) → slice_get (map (rule_of kind s) rs) k ≡ Some r → RuleHas P Q r
  lines_have d e count [] all k r at = cc
  lines_have d e count (x ∷ xs) all zero r at =
      let line = all.0 in
      subst (RuleHas P Q) (same_Some (rule_of kind s x) r at)
      (rule_has x (subst (λ w. IsWeightText w items x.weight) e (subst (λ n. IsWeightText d.weights n x.weight) count line.weight))
      (subst (λ w. IsMapText w items x.right x.map) e (subst (λ n. IsMapText d.weights n x.right x.map) count line.map)))
  lines_have d e count (x ∷ xs) all (suc k) r at = lines_have d e count xs all.1 k r at

  pub rules_have : (d : Document) → IsDocument d → d.weights ≡ u → length d.items ≡ items → (k : ℕ) (r : Rule S W Map) → slice_get (system_of kind s d).rules k ≡ Some r → RuleHas P Q r
  rules_have d is e count = lines_have d e count d.rules (recursion_from_All (IsRuleOf d) d.rules is.rules)
