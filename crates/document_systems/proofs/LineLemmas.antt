-- A line of a document is a rule that is not refused.
use Rattle.std.proofs.Common.{◌≡◌, ℕ, ◌<◌, ◌≤◌, false, List, [], ◌∷◌, length, get_or, take, map, refl, sym, ◌∙◌, subst, arith}
use Rattle.std.specs.Prelude.{nat_le, nat_lt, nat_eq, not, ◌&&◌, Option, Some, None, All, is_some}
use Rattle.std.specs.List.{list_any, AllByRecursion}
use Rattle.std.proofs.lemmas.Bool.Decides.{nat_tests}
use Rattle.std.proofs.lemmas.List.{length-take-le, length-map}
use Rattle.std.proofs.lemmas.List.Elements.{recursion_from_All}
use Rattle.document_forms.specs.declared.weight.WeightsLine.{WeightsLine}
use Rattle.document_forms.specs.declared.document.RuleLine.{RuleLine}
use Rattle.document_forms.specs.declared.document.MapText.{MapText}
use Rattle.document_forms.specs.Lawful.{IsRuleLine, IsMapText}
use Rattle.pushdown_rules.specs.Pushdown.{Pushdown}
use Rattle.pushdown_rules.specs.Fault.{rule_fault}

pub is_below : (n k : ℕ) → k < n → nat_le n k ≡ false
is_below n k low = grind (arith, nat_tests)

pub none_from : (n : ℕ) (gs : List ℕ) → AllByRecursion (λ g. g < n) gs → list_any (λ g. nat_le n g) gs ≡ false
none_from n [] _ = refl
none_from n (g ∷ gs) all = rw (is_below n g all.0, none_from n gs all.1) refl

-- a rule with a return map pushes
pushes : (weights : WeightsLine) (items : ℕ) (right : List ℕ) (map : Option MapText) → IsMapText weights items right map
    → (is_some map && not (nat_eq (length right) 2)) ≡ false
pushes weights items right None is = refl
pushes weights items right (Some m) is = let two : length right ≡ 2 = is.push in rw two refl

not_refused : {S W Map : Type 0} (p : Pushdown S W Map) (weights : WeightsLine) (items : ℕ) (r : RuleLine) → IsRuleLine weights p.controls p.symbols items r → length p.rules < 130000
    → rule_fault p r.control r.symbol r.to r.right (is_some r.map) ≡ None
not_refused p weights items r line few =
    let long : nat_lt 2 (length r.right) ≡ false = let short : length r.right ≤ 2 = line.short in grind (arith, nat_tests) in
    rw (
      is_below p.controls r.control line.control,
      is_below p.controls r.to line.to,
      is_below p.symbols r.symbol line.symbol,
      none_from p.symbols r.right (recursion_from_All (λ g. g < p.symbols) r.right line.right),
      long,
      pushes weights items r.right r.map line.map,
      is_below 130000 (length p.rules) few,
    ) refl

-- the line that comes next is not refused by the system `p` that has the rules of the lines before it
pub next_is_not_refused : {S W Map : Type 0} (p : Pushdown S W Map) (weights : WeightsLine) (items : ℕ) (lines : List RuleLine) (i : ℕ) (r : RuleLine)
    → All (IsRuleLine weights p.controls p.symbols items) lines → length lines ≤ 130000 → i < length lines → r ≡ get_or lines i r → length p.rules ≡ i
    → rule_fault p r.control r.symbol r.to r.right (is_some r.map) ≡ None
next_is_not_refused p weights items lines i r all few within read count =
    not_refused p weights items r (subst (IsRuleLine weights p.controls p.symbols items) (sym read) (all i r within)) (omega arith)

-- how many rules the lines before it are
pub rules_before : {X : Type 0} (f : RuleLine → X) (lines : List RuleLine) (i : ℕ) → i < length lines → length (map f (take i lines)) ≡ i
rules_before f lines i within = length-map (take i lines) f ∙ length-take-le i lines (omega arith)
