-- Right sides by their lengths.
use Rattle.std.proofs.Common.{◌≡◌, ℕ, ◌<◌, ◌≤◌, ◌+◌, List, [], ◌∷◌, length, get_or, refl, sym, ap, ◌∙◌, arith}
use Rattle.std.specs.Prelude.{None, Some, option_map, slice_get}
use Rattle.key_rows.specs.Rows.{index_where}
use Rattle.pushdown_rules.specs.declared.rule.Rule.{Rule}
use Rattle.pushdown_rules.specs.Pushdown.{Pushdown}
use Rattle.pushdown_rules.specs.Rows.{goes_onto}
use Rattle.forward_value_search.proofs.NumberLemmas.{callee_number}

pub none_from_length : (w : List ℕ) → length w < 1 → w ≡ []
none_from_length [] few = refl
none_from_length (g ∷ w) few = absurd (omega (arith, few))

pub one_from_length : (w : List ℕ) → length w < 2 → 1 ≤ length w → w ≡ get_or w 0 0 ∷ []
one_from_length [] few some = absurd (omega (arith, some))
one_from_length (g ∷ []) few some = refl
one_from_length (g ∷ h ∷ w) few some = absurd (omega (arith, few))

pub two_from_length : (w : List ℕ) → length w ≤ 2 → 2 ≤ length w → w ≡ get_or w 0 0 ∷ get_or w 1 0 ∷ []
two_from_length [] few some = absurd (omega (arith, some))
two_from_length (g ∷ []) few some = absurd (omega (arith, some))
two_from_length (g ∷ h ∷ []) few some = refl
two_from_length (g ∷ h ∷ i ∷ w) few some = absurd (omega (arith, few))

pub some_from_length : (w : List ℕ) → 1 ≤ length w → (rest : List ℕ) × (w ≡ get_or w 0 0 ∷ rest)
some_from_length [] some = absurd (omega (arith, some))
some_from_length (g ∷ w) some = (w, refl)

-- some rule goes onto what a rule calls
pub goes_somewhere : {S W Map : Type 0} (items : ℕ) (p : Pushdown S W Map) (k : ℕ) (r : Rule S W Map) → slice_get p.rules k ≡ Some r → (top : ℕ) (rest : List ℕ) → r.right ≡ top ∷ rest
    → index_where (goes_onto r.to top) p.rules ≡ None → ⊥
goes_somewhere items p k r there top rest right none =
    let n = callee_number items p k r there top rest right in
    let e : option_map (λ j. items + 1 + j) None ≡ Some n.0 = ap (option_map (λ j. items + 1 + j)) (sym none) ∙ n.1 in
    let f : None ≡ Some n.0 = e in cc
