-- The rules of a document are those of a system.
use Rattle.std.proofs.Common.{◌≡◌, ◌↔◌, ℕ, Bool, true, false, cond, List, [], ◌∷◌, length, map, Option, Some, None, refl, sym, ◌∙◌, arith}
use Rattle.std.specs.Prelude.{nat_eq, unwrap_or, option_map, IfSome, IsSome}
use Rattle.std.specs.List.{AllByRecursion}
use Rattle.std.proofs.lemmas.Bool.{eqb-true, eq-eqb, true≢false}
use Rattle.std.proofs.lemmas.List.{length-map}
use Rattle.std.proofs.lemmas.List.Elements.{All-from_recursion, recursion_from_All}
use Rattle.semiring_laws.specs.Semiring.{Operations, Fits, FitsMap}
use Rattle.pushdown_rules.specs.Pushdown.{IsRule, IsSystem, map_of}
use Rattle.document_forms.specs.declared.weight.WeightsLine.{WeightsLine}
use Rattle.document_forms.specs.declared.weight.WeightText.{WeightText}
use Rattle.document_forms.specs.declared.document.MapText.{MapText}
use Rattle.document_forms.specs.declared.document.RuleLine.{RuleLine}
use Rattle.document_forms.specs.Documents.{Document}
use Rattle.document_forms.specs.Lawful.{IsRuleLine, IsDocument}
use Rattle.document_systems.specs.Kinds.{Kind}
use Rattle.document_systems.specs.Systems.{rule_of, system_of, IsTaken, AreTaken}

module _ {W Map : Type 0} (s : Operations W Map) (plain : FitsMap s s.plain) where
  or_plain : (m : Option Map) → IfSome m (FitsMap s) → FitsMap s (unwrap_or m s.plain)
  or_plain None fits = plain
  or_plain (Some h) fits = fits

  map_fits : (right : List ℕ) (m : Option Map) → IfSome m (FitsMap s) → IfSome (map_of s right m) (FitsMap s)
  map_fits right m fits = go (nat_eq (length right) 2)
    where
      go : (b : Bool) → IfSome (cond b (Some (unwrap_or m s.plain)) None) (FitsMap s)
      go true = or_plain m fits
      go false = tt

  pushes_two : (right : List ℕ) (m : Option Map) → IsSome (map_of s right m) ↔ (length right ≡ 2)
  pushes_two right m = go (nat_eq (length right) 2) refl
    where
      go : (b : Bool) → nat_eq (length right) 2 ≡ b → IsSome (cond b (Some (unwrap_or m s.plain)) None) ↔ (length right ≡ 2)
      go true is = (λ some. eqb-true (length right) 2 is, λ two. refl)
      go false is = (λ some. absurd (true≢false (sym some)), λ two. absurd (true≢false (sym (eq-eqb (length right) 2 two) ∙ is)))

module _ {S W Map : Type 0} (kind : Kind S W Map) (s : S) (plain : FitsMap (kind.operations s) (kind.operations s).plain) (weights : (t : WeightText) → kind.takes s t → Fits (kind.operations s) (kind.weight s t)) (maps : (t : MapText) → kind.takes_map s t → FitsMap (kind.operations s) (kind.map s t)) where
  written_fits : (m : Option MapText) → IfSome m (kind.takes_map s) → IfSome (option_map (kind.map s) m) (FitsMap (kind.operations s))
  written_fits None taken = tt
  written_fits (Some t) taken = maps t taken

  module _ (line : WeightsLine) (controls symbols items : ℕ) where
    is_rule : (r : RuleLine) → IsRuleLine line controls symbols items r → IsTaken kind s r → IsRule (kind.operations s) controls symbols (rule_of kind s r)
    is_rule r is taken = record {
      control = is.control;
      symbol = is.symbol;
      to = is.to;
      right = is.right;
      fits = record {
        weight = weights r.weight taken.0;
        map = map_fits (kind.operations s) plain r.right (option_map (kind.map s) r.map) (written_fits r.map taken.1);
        short = is.short;
        pushes = pushes_two (kind.operations s) plain r.right (option_map (kind.map s) r.map);
      };
    }

    are_rules : (rs : List RuleLine) → AllByRecursion (IsRuleLine line controls symbols items) rs → AllByRecursion (IsTaken kind s) rs → AllByRecursion (IsRule (kind.operations s) controls symbols) (map (rule_of kind s) rs)
    are_rules [] all taken = tt
    are_rules (r ∷ rs) all taken = (is_rule r all.0 taken.0, are_rules rs all.1 taken.1)

  -- what a document means is a system
  pub is_system : (d : Document) → IsDocument d → AreTaken kind s d → IsSystem kind.operations (system_of kind s d)
  is_system d is taken =
      let controls = length d.controls in
      let symbols = length d.symbols in
      let items = length d.items in
      let count = length-map d.rules (rule_of kind s) in
      record {
        few_controls = is.controls.few;
        few_symbols = is.symbols.few;
        few = omega (arith, is.few_rules);
        rules =
            All-from_recursion (IsRule (kind.operations s) controls symbols) (map (rule_of kind s) d.rules)
            (are_rules d.weights controls symbols items d.rules (recursion_from_All (IsRuleLine d.weights controls symbols items) d.rules is.rules) (recursion_from_All (IsTaken kind s) d.rules taken));
      }
